-- One of a line's points, by the place of its floats. Assumes nothing.
use mathlib.Core.Path.{◌≡◌, refl}
use mathlib.Core.Bool.{Bool, true, false, cond}
use mathlib.Core.List.{List}
use Prim.Native.Nat.{ℕ, ◌+◌, ◌*◌}
use native.Mathlib.Omega.{arith}
use lib.ListN.{get_or}
use lib.Ieee.{Float, nan}
use Rattle.util.specs.declared.Vec2.{Vec2}
use Rattle.panel.specs.Widths.{line_floats}
use Rattle.panel.specs.Lines.{line_at}

-- the point at a place
abbrev pub point_at : List Float → ℕ → Vec2
point_at fs at = record { x = get_or fs at nan; y = get_or fs (at + 1) nan }

pub end_is : (fs : List Float) (l : ℕ) (t : Bool) → point_at fs (l * line_floats + cond t 2 0) ≡ cond t (line_at fs l).p1 (line_at fs l).p0
unfolding line_at
end_is fs l true = let e : l * line_floats + 2 + 1 ≡ l * line_floats + 3 = omega arith in rw e refl
end_is fs l false = let e : l * line_floats + 0 ≡ l * line_floats = omega arith in rw e refl
