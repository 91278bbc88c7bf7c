-- The starred cases of docs/RULES.md, "Traces to try", with the later clauses of a starred item: one table, each row a call of the panel and what it
-- comes to. Definitions only.
use Rattle.std.specs.Prelude.{◌≡◌, Bool, true, false, List, [], ◌∷◌, ◌++◌, map, ℕ, ◌*◌, ℤ, pos, negsuc, replicate, Float}
use Rattle.std.specs.Float.{binary32}
use Rattle.std.specs.Float.Ieee.{of_bits}
use Rattle.float32.specs.Meaning.{round_of}
use Rattle.util.specs.Constants as Number
use Rattle.panel.specs.Paths.{boxed, stamped}
use Rattle.panel.specs.Pieces.{pieces}
use Rattle.panel.specs.Widths.{segment_floats}
use Rattle.panel.specs.Refusals.{done_no, count_over}
use Rattle.panel.specs.Kinds.{running_of}
use Rattle.panel.specs.Answer.{Done}
use Rattle.walk.specs.Num.{float}
use Rattle.path_count.specs.Count.{Told, counted}
use Rattle.hand_out.specs.HandOut as HandOut
use Rattle.hand_out.specs.HandOut.{Out, hand_out_of}
use Rattle.looks.specs.Look.{lent}
use Rattle.path_tiling.specs.Tiling.{Tiled, tiled, tiled_of}
use Rattle.sides.specs.Tile.{tile_width, tile_size}
use Rattle.coverage.specs.Coverage.{pixel_of}
use Rattle.colours.specs.Colour.{byte_of}
use Rattle.commands.specs.Numbers.{end_no, encode}
use Rattle.commands.specs.declared.steps.Act.TheVariants.{Solid, Color}
use Rattle.fine.specs.Fine.{Shown, shown, fine_of}

-- a row of the table
pub data Row : Type 0 where
  -- one line counted: its path's box and first tile, its ends, the counts before, and what the call tells
  counts : (box ends before : List ℕ) → Told → Row
  -- counts handed out, with that room
  hands : (room : ℕ) (counts : List ℕ) → Out → Row
  -- the first n references of one line tiled: the tiles' words, the references, and so many slots, with segments and tags that are all 0
  tiles : (n : ℕ) (box ends words refs : List ℕ) (slots : ℕ) → Tiled → Row
  -- a pixel, whichever, of a tile with no segments: the rule, the backdrop, the coverage
  covers : (even_odd : Bool) (backdrop : ℤ) → Float → Row
  -- a float rounded; a float packed into a byte
  rounds : Float → Float → Row
  packs : Float → ℕ → Row
  -- a screen of one tile with that list of commands, from pixels that are all 0: what the call shows
  shows : (words : List ℕ) → Shown → Row

abbrev pub floats_of : List ℕ → List Float
floats_of ns = map float ns

-- what a row claims, over the definitions that the public promises cite
abbrev pub Claim : Row → Type 0
Claim (counts box ends before told) =
    counted (running_of 0 0) 1 (0 ∷ []) (floats_of ends) box (pos 0 ∷ pos 0 ∷ pos 0 ∷ pos 0 ∷ []) before (0 ∷ 0 ∷ 0 ∷ 0 ∷ []) ≡ told
Claim (hands room ns out) = hand_out_of room ns (0 ∷ 0 ∷ 0 ∷ 0 ∷ []) ≡ out
Claim (tiles n box ends words refs m out) = tiled_of 0 n (lent (0 ∷ []) (floats_of ends) box words refs) (pieces (replicate (m * segment_floats) (of_bits binary32 0)) (replicate m 0)) ≡ out
Claim (covers even_odd backdrop area) = (k : ℕ) → pixel_of [] 0 0 even_odd backdrop Number.zero Number.zero k ≡ area
Claim (rounds x y) = round_of x ≡ y
Claim (packs x n) = byte_of x ≡ n
Claim (shows words out) = fine_of words [] tile_width 1 1 0 1 (replicate tile_size 0) ≡ out

-- every row holds
abbrev pub Holding : List Row → Type 0
Holding [] = Unit {0}
Holding (r ∷ rs) = Claim r × Holding rs

abbrev two : List ℕ
two = boxed 0 0 2 2 0

abbrev right : List ℕ
right = boxed 1 0 3 2 0

abbrev none : List ℕ
none = 0 ∷ 0 ∷ 0 ∷ 0 ∷ []

abbrev flat : List ℤ
flat = pos 0 ∷ pos 0 ∷ pos 0 ∷ pos 0 ∷ []

-- the call went through, with so many references
abbrev went : ℕ → List ℕ
went n = done_no ∷ 1 ∷ n ∷ []

abbrev bits : List ℕ → List Float
bits ns = map (of_bits binary32) ns

abbrev pub table : List Row
table =
    -- (8,8)-(8,24): references (0,0), (0,1); counts 1,0,1,0; backdrops 0,0,0,-1; hand-out; segments, and the tags of a beam stamped 7
    counts two (8 ∷ 8 ∷ 8 ∷ 24 ∷ []) none
    (record { paper = went 2; backs = pos 0 ∷ pos 0 ∷ pos 0 ∷ negsuc 0 ∷ []; counts = 1 ∷ 0 ∷ 1 ∷ 0 ∷ []; refs = 0 ∷ 0 ∷ 0 ∷ 1 ∷ [] })
    ∷ hands 100 (1 ∷ 0 ∷ 1 ∷ 0 ∷ []) (HandOut.out_of Done (4294967295 ∷ 0 ∷ 4294967294 ∷ 0 ∷ []) (1 ∷ 0 ∷ 1 ∷ 0 ∷ []))
    ∷ tiles 2 (stamped 0 0 2 2 0 7) (8 ∷ 8 ∷ 8 ∷ 24 ∷ []) (4294967295 ∷ 0 ∷ 4294967294 ∷ 0 ∷ []) (0 ∷ 0 ∷ 0 ∷ 1 ∷ []) 2
    (tiled Done
    (pieces (bits (0x40ff_fffe ∷ 0x4100_0000 ∷ 0x40ff_fffe ∷ 0x4180_0000 ∷ 0x4e6e_6b28 ∷ 0x40ff_fffe ∷ 0 ∷ 0x40ff_fffe ∷ 0x4100_0000 ∷ 0x4e6e_6b28 ∷ [])) (7 ∷ 7 ∷ [])))
    -- (0,16)-(32,16) and (5,5)-(5,5): nothing. (0,8)-(32,8): counts 1,1,0,0, no backdrop
    ∷ counts two (0 ∷ 16 ∷ 32 ∷ 16 ∷ []) none (record { paper = went 0; backs = flat; counts = none; refs = none })
    ∷ counts two (5 ∷ 5 ∷ 5 ∷ 5 ∷ []) none (record { paper = went 0; backs = flat; counts = none; refs = none })
    ∷ counts two (0 ∷ 8 ∷ 32 ∷ 8 ∷ []) none (record { paper = went 2; backs = flat; counts = 1 ∷ 1 ∷ 0 ∷ 0 ∷ []; refs = 0 ∷ 0 ∷ 0 ∷ 1 ∷ [] })
    -- box 1,0,3,2, line (8,8)-(8,24): no reference; backdrops 0,0,-1,0. Reversed: +1
    ∷ counts right (8 ∷ 8 ∷ 8 ∷ 24 ∷ []) none (record { paper = went 0; backs = pos 0 ∷ pos 0 ∷ negsuc 0 ∷ pos 0 ∷ []; counts = none; refs = none })
    ∷ counts right (8 ∷ 24 ∷ 8 ∷ 8 ∷ []) none (record { paper = went 0; backs = pos 0 ∷ pos 0 ∷ pos 1 ∷ pos 0 ∷ []; counts = none; refs = none })
    -- tile count 65,535 at step 1 packs 0xFFFF0001; 65,536 is 8
    ∷ counts two (8 ∷ 8 ∷ 8 ∷ 24 ∷ []) (0 ∷ 0 ∷ 65535 ∷ 0 ∷ [])
    (record { paper = went 2; backs = pos 0 ∷ pos 0 ∷ pos 0 ∷ negsuc 0 ∷ []; counts = 1 ∷ 0 ∷ 65536 ∷ 0 ∷ []; refs = 0 ∷ 0 ∷ 0 ∷ 0xffff_0001 ∷ [] })
    ∷ counts two (8 ∷ 8 ∷ 8 ∷ 24 ∷ []) (0 ∷ 0 ∷ 65536 ∷ 0 ∷ [])
    (record { paper = count_over ∷ 0 ∷ 0 ∷ 0 ∷ []; backs = flat; counts = 0 ∷ 0 ∷ 65536 ∷ 0 ∷ []; refs = none })
    -- backdrop 2, no segments: even-odd 0, non-zero 1; backdrop -1 gives 1 in each
    ∷ covers true (pos 2) Number.zero
    ∷ covers false (pos 2) Number.one
    ∷ covers true (negsuc 0) Number.one
    ∷ covers false (negsuc 0) Number.one
    -- round(2.5) is 3; 0.5 packs as 128. SOLID, then COLOR 0x204060FF: 0xFF604020
    ∷ rounds (of_bits binary32 0x4020_0000) (of_bits binary32 0x4040_0000)
    ∷ packs Number.half 128
    ∷ shows (0 ∷ encode Solid ++ encode (Color 0x2040_60ff) ++ (end_no ∷ [])) (shown Done (replicate tile_size 0xff60_4020))
    ∷ []
