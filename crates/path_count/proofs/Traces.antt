-- Lines of docs/RULES.md, "Traces to try", counted: each is a call over one path, from zeroed references, with what it comes to. By computation.
use mathlib.Core.Path.{◌≡◌, refl}
use mathlib.Core.List.{List, [], ◌∷◌}
use Prim.Native.Nat.{ℕ, ◌+◌, ◌-◌}
use lib.IntN.{ℤ, pos, negsuc}
use lib.Ieee.{Float, binary32, add, sub, mul, div, neg, le, lt, eq, ne, of_int, of_bits, to_signed, to_unsigned, is_nan}
use Rattle.float32.specs.Meaning.{floor_of, ceil_of, round_of, abs_of, min_of, max_of, signed, sign_of}
use Rattle.util.specs.Span.{span_of}
use Rattle.panel.specs.Limits.{edge_most, most_steps, coord_bits, coord_most}
use Rattle.panel.specs.Widths.{step_range}
use Rattle.panel.specs.Refusals.{done_no, bad_box, coordinate, count_over}
use Rattle.panel.specs.Kinds.{running_of}
use Rattle.panel.specs.Paths.{boxed, path_at, paths_from, paths_answer}
use Rattle.walk.specs.Num.{float, cut_of, inside_of, row_of}
use Rattle.walk.specs.Setup.{ends_of}
use Rattle.walk.specs.Page.{line_of}
use Rattle.walk.specs.Skip.{flat_of, past_of}
use Rattle.walk.specs.Step.{z_at, tile_in, step_of}
use Rattle.walk.specs.Lent.{line_at, walked_of, walk_at}
use Rattle.clip.specs.Page.{clipped_of}
use Rattle.acts.specs.Acts.{row_acts, steps_acts, run_acts}
use Rattle.acts.specs.Line.{plan_step, batch_of}
use Rattle.hits.specs.Steps.{hit_at}
use Rattle.walked_lines.specs.Line.{plan_of, line_step}
use Rattle.path_count.specs.Count.{call_answer, counted, Told}

-- a box with its first tile, a line's ends, and the counts before; and then what the call tells
pub record Case : Type 0 where
  pub box : List ℕ
  pub ends : List ℕ
  pub before : List ℕ
  pub told : Told

abbrev floats : List ℕ → List Float
floats [] = []
floats (n ∷ more) = float n ∷ floats more

abbrev none : List ℤ
none = pos 0 ∷ pos 0 ∷ pos 0 ∷ pos 0 ∷ []

abbrev empty : List ℕ
empty = 0 ∷ 0 ∷ 0 ∷ 0 ∷ []

abbrev pub ran : Case → Told
ran c = counted (running_of 0 0) 1 (0 ∷ []) (floats c.ends) c.box none c.before empty

abbrev two : List ℕ
two = boxed 0 0 2 2 0

abbrev right : List ℕ
right = boxed 1 0 3 2 0

abbrev done : ℕ → List ℕ
done n = done_no ∷ 1 ∷ n ∷ []

abbrev pub cases : List Case
cases =
    record {
      box = two;
      ends = 8 ∷ 8 ∷ 8 ∷ 24 ∷ [];
      before = empty;
      told = record
          { paper = done 2; backs = pos 0 ∷ pos 0 ∷ pos 0 ∷ negsuc 0 ∷ []; counts = 1 ∷ 0 ∷ 1 ∷ 0 ∷ []; refs = 0 ∷ 0 ∷ 0 ∷ 1 ∷ [] };
    }
    ∷ record { box = two; ends = 0 ∷ 16 ∷ 32 ∷ 16 ∷ []; before = empty; told = record { paper = done 0; backs = none; counts = empty; refs = empty } }
    ∷ record { box = two; ends = 5 ∷ 5 ∷ 5 ∷ 5 ∷ []; before = empty; told = record { paper = done 0; backs = none; counts = empty; refs = empty } }
    ∷ record { box = two; ends = 0 ∷ 8 ∷ 32 ∷ 8 ∷ []; before = empty; told = record { paper = done 2; backs = none; counts = 1 ∷ 1 ∷ 0 ∷ 0 ∷ []; refs = 0 ∷ 0 ∷ 0 ∷ 1 ∷ [] } }
    ∷ record { box = right; ends = 8 ∷ 8 ∷ 8 ∷ 24 ∷ []; before = empty; told = record { paper = done 0; backs = pos 0 ∷ pos 0 ∷ negsuc 0 ∷ pos 0 ∷ []; counts = empty; refs = empty } }
    ∷ record { box = right; ends = 8 ∷ 24 ∷ 8 ∷ 8 ∷ []; before = empty; told = record { paper = done 0; backs = pos 0 ∷ pos 0 ∷ pos 1 ∷ pos 0 ∷ []; counts = empty; refs = empty } }
    ∷ record {
      box = two;
      ends = 8 ∷ 8 ∷ 8 ∷ 24 ∷ [];
      before = 0 ∷ 0 ∷ 65535 ∷ 0 ∷ [];
      told = record
          { paper = done 2; backs = pos 0 ∷ pos 0 ∷ pos 0 ∷ negsuc 0 ∷ []; counts = 1 ∷ 0 ∷ 65536 ∷ 0 ∷ []; refs = 0 ∷ 0 ∷ 0 ∷ 0xFFFF_0001 ∷ [] };
    }
    ∷ record {
      box = two;
      ends = 8 ∷ 8 ∷ 8 ∷ 24 ∷ [];
      before = 0 ∷ 0 ∷ 65536 ∷ 0 ∷ [];
      told = record
          { paper = count_over ∷ 0 ∷ 0 ∷ 0 ∷ []; backs = none; counts = 0 ∷ 0 ∷ 65536 ∷ 0 ∷ []; refs = empty };
    }
    ∷ []

abbrev pub Hold : List Case → Type 0
Hold [] = Unit {0}
Hold (c ∷ more) = (ran c ≡ c.told) × Hold more

-- each case comes to what it says
pub all_hold : Hold cases
unfolding add sub mul div neg le lt eq ne of_int of_bits to_signed to_unsigned is_nan floor_of ceil_of round_of abs_of min_of max_of signed sign_of span_of edge_most
    most_steps coord_most step_range path_at paths_from paths_answer cut_of inside_of row_of ends_of line_of flat_of past_of z_at tile_in step_of line_at walked_of walk_at
    clipped_of row_acts steps_acts run_acts plan_step batch_of hit_at plan_of line_step call_answer counted
all_hold = (refl, (refl, (refl, (refl, (refl, (refl, (refl, (refl, tt))))))))

-- ---- the limits, by their names

abbrev lent : List ℕ → List Float → Told
lent box ends = counted (running_of 0 0) 1 (0 ∷ []) ends box none empty empty

abbrev unchanged : List ℕ → Told
unchanged paper = record { paper = paper; backs = none; counts = empty; refs = empty }

abbrev pub border : List (Told × Told)
border =
    -- a box whose edges are at the limit passes, in the far corner or in one of no tiles; one more is 3
    (lent (boxed (edge_most - 2) (edge_most - 2) edge_most edge_most 0) (floats (8 ∷ 8 ∷ 8 ∷ 24 ∷ [])), unchanged (done 0))
    ∷ (lent (boxed edge_most edge_most edge_most edge_most 0) (floats (8 ∷ 8 ∷ 8 ∷ 24 ∷ [])), unchanged (done 0))
    ∷ (lent (boxed 0 0 (edge_most + 1) 0 0) (floats (8 ∷ 8 ∷ 8 ∷ 24 ∷ [])), unchanged (bad_box ∷ 0 ∷ 0 ∷ 0 ∷ []))
    ∷ (lent (boxed 0 0 0 (edge_most + 1) 0) (floats (8 ∷ 8 ∷ 8 ∷ 24 ∷ [])), unchanged (bad_box ∷ 0 ∷ 0 ∷ 0 ∷ []))
    -- coordinates at the limit pass, of either sign; the next float is 6
    ∷ (lent two (coord_most ∷ float 3 ∷ coord_most ∷ neg coord_most ∷ []), unchanged (done 0))
    ∷ (lent two (float 3 ∷ coord_most ∷ neg coord_most ∷ coord_most ∷ []), unchanged (done 0))
    ∷ (lent two (of_bits binary32 (coord_bits + 1) ∷ float 3 ∷ coord_most ∷ float 20 ∷ []), unchanged (coordinate ∷ 0 ∷ 0 ∷ 0 ∷ []))
    ∷ (lent two (float 3 ∷ float 3 ∷ float 5 ∷ neg (of_bits binary32 (coord_bits + 1)) ∷ []), unchanged (coordinate ∷ 0 ∷ 0 ∷ 0 ∷ []))
    ∷ []

abbrev pub Bounds : List (Told × Told) → Type 0
Bounds [] = Unit {0}
Bounds (c ∷ more) = (c.0 ≡ c.1) × Bounds more

pub border_holds : Bounds border
unfolding add sub mul div neg le lt eq ne of_int of_bits to_signed to_unsigned is_nan floor_of ceil_of round_of abs_of min_of max_of signed sign_of span_of edge_most
    most_steps coord_bits coord_most step_range path_at paths_from paths_answer cut_of inside_of row_of ends_of line_of flat_of past_of z_at tile_in step_of line_at walked_of
    walk_at clipped_of row_acts steps_acts run_acts plan_step batch_of hit_at plan_of line_step call_answer counted
border_holds = (refl, (refl, (refl, (refl, (refl, (refl, (refl, (refl, tt))))))))
