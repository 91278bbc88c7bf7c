-- Lines of docs/RULES.md, "Traces to try", as the walk has them: what is clipped, each step's tile and mark, what is skipped or refused. By computation.
use Prim.Native.Nat.{ℕ, zero, suc}
use mathlib.Core.Path.{◌≡◌, refl}
use mathlib.Core.Bool.{Bool, true, false}
use mathlib.Core.List.{List, [], ◌∷◌}
use lib.Ieee.{Float, nan, binary32, add, sub, mul, div, neg, le, lt, eq, ne, of_int, of_bits, to_signed, to_unsigned, is_nan}
use Rattle.float32.specs.Meaning.{floor_of, ceil_of, round_of, abs_of, min_of, max_of, signed, sign_of}
use Rattle.util.specs.Span.{span_of}
use Rattle.panel.specs.Limits.{coord_most}
use Rattle.panel.specs.Refusals.{coordinate, no_such}
use Rattle.panel.specs.Paths.{boxed, path_at}
use Rattle.panel.specs.declared.kinds.Path.{Path}
use Rattle.walk.specs.Num.{float, cut_of, inside_of, row_of}
use Rattle.walk.specs.Setup.{ends_of}
use Rattle.walk.specs.Page.{line_of}
use Rattle.walk.specs.Skip.{flat_of, past_of}
use Rattle.walk.specs.Step.{z_at, tile_in, step_of, crosses_at}
use Rattle.walk.specs.Lent.{line_at, walked_of, walk_at}
use Rattle.walk.specs.declared.kinds.Pace.{Pace}
use Rattle.walk.specs.Stepped.{Step}
use Rattle.walk.specs.Stepped.{Tile, Refused as Outside}
use Rattle.walk.specs.Walked.{Walked}
use Rattle.walk.specs.Walked.{Refused, Skipped, Line}
use Rattle.clip.specs.Page.{clipped_of}
use Rattle.clip.specs.declared.Clip.{Clip}

-- a step: its tile, and whether it marks the tile right of it; or it is refused
pub data Seen : Type 0 where
  on : ℕ → Bool → Seen
  off : Seen

abbrev seen_of : Step → Bool → Seen
seen_of (Tile t x y z) m = on t.0 m
seen_of Outside m = off

unfoldable steps_from : Pace → Path → (n i : ℕ) → List Seen
steps_from p b zero i = []
steps_from p b (suc n) i = seen_of (step_of p b i) (crosses_at p b i) ∷ steps_from p b n (suc i)

-- a line: refused, skipped, or clipped to imin, imax, ymin, ymax, with n steps from imin on, and whether it goes down
pub data Trace : Type 0 where
  refused : ℕ → Trace
  skipped : Trace
  walked : (imin imax ymin ymax : ℕ) → List Seen → Bool → Trace

abbrev clip_trace : Clip → Pace → Path → ℕ → Bool → Trace
clip_trace c p b n down = walked c.imin c.imax c.ymin c.ymax (steps_from p b n c.imin) down

abbrev trace : ℕ → Walked → Trace
trace n (Refused m) = refused m
trace n Skipped = skipped
trace n (Line w b) = clip_trace (clipped_of w b) w.pace b n w.e.is_down

-- one line over path 0 of the paths lent, with its first n steps
abbrev given : (n : ℕ) (box : List ℕ) (px py qx qy : Float) → Trace
given n box px py qx qy = trace n (walk_at (0 ∷ []) (px ∷ py ∷ qx ∷ qy ∷ []) box 0)

abbrev line_in : (n : ℕ) (box : List ℕ) (px py qx qy : ℕ) → Trace
line_in n box px py qx qy = given n box (float px) (float py) (float qx) (float qy)

abbrev two : List ℕ
two = boxed 0 0 2 2 0

-- names all that a trace computes with
unfoldable computing : ℕ
unfolding add sub mul div neg le lt eq ne of_int of_bits to_signed to_unsigned is_nan floor_of ceil_of round_of abs_of min_of max_of signed sign_of span_of coord_most path_at
    cut_of inside_of row_of ends_of line_of flat_of past_of z_at tile_in step_of crosses_at line_at walked_of walk_at clipped_of steps_from
computing = 0

-- (8,8)-(8,24): two steps, and the second marks the tile right of it
down : line_in 2 two 8 8 8 24 ≡ walked 0 2 0 0 (on 0 false ∷ on 2 true ∷ []) true
unfolding computing
down = refl

-- (0,16)-(32,16) and (5,5)-(5,5): nothing
along : line_in 0 two 0 16 32 16 ≡ skipped
unfolding computing
along = refl

point : line_in 0 two 5 5 5 5 ≡ skipped
unfolding computing
point = refl

-- (0,8)-(32,8): two steps, no mark
across : line_in 2 two 0 8 32 8 ≡ walked 0 2 0 0 (on 0 false ∷ on 1 false ∷ []) true
unfolding computing
across = refl

-- box 1,0,3,2: no step, and row 1 is marked; reversed too, the other way
left : line_in 0 (boxed 1 0 3 2 0) 8 8 8 24 ≡ walked 0 0 1 2 [] true
unfolding computing
left = refl

left_up : line_in 0 (boxed 1 0 3 2 0) 8 24 8 8 ≡ walked 0 0 1 2 [] false
unfolding computing
left_up = refl

-- box 0,0,6,1, (80,0)-(80,y) with y so small that 1 / (dx + dy) overflows: its step is refused
tiny : given 1 (boxed 0 0 6 1 0) (float 80) (float 0) (float 80) (of_bits binary32 1000) ≡ walked 0 1 0 0 (off ∷ []) true
unfolding computing
tiny = refl

-- box 0,0,5,4: the walk jumps, from (2, 2) to (4, 1)
jump : given 6 (boxed 0 0 5 4 0) (of_bits binary32 0x42c0_0001) (of_bits binary32 0x4200_0001) (of_bits binary32 0xc180_0000) (of_bits binary32 0x41ff_fffd)
    ≡ walked 1 7 2 2 (on 5 false ∷ on 6 false ∷ on 11 true ∷ on 12 false ∷ on 9 false ∷ on 14 false ∷ []) false
unfolding computing
jump = refl

-- box 3,1,4,2, (12,16)-(108, just under 16): no step is left, from the largest number of 32 bits on
none : given 0 (boxed 3 1 4 2 0) (float 12) (float 16) (float 108) (of_bits binary32 0x417f_fffe) ≡ walked 4294967295 4294967295 1 1 [] false
unfolding computing
none = refl

-- a bad path number on a line that would be skipped
bad_path : trace 0 (walk_at (1 ∷ []) (float 5 ∷ float 5 ∷ float 5 ∷ float 5 ∷ []) two 0) ≡ refused no_such
unfolding computing
bad_path = refl

-- a coordinate that is no number comes before it
bad_point : trace 0 (walk_at (1 ∷ []) (nan ∷ float 5 ∷ float 5 ∷ float 5 ∷ []) two 0) ≡ refused coordinate
unfolding computing
bad_point = refl
