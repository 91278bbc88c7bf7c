-- What the loop over a range of references leans on. Assumes nothing.
--     ends                      no reference is left
--     slots_fit, slots_tagged   the slots are within what is lent
use Prim.Native.Nat.{ℕ, ◌-◌, ◌*◌, ◌/◌, ◌≤◌}
use native.Mathlib.Omega.{arith}
use mathlib.Core.Path.{◌≡◌}
use Rattle.panel.specs.Widths.{segment_floats}
use Rattle.panel.specs.Pieces.{Pieces}
use Rattle.panel.specs.Answer.{Done}
use Rattle.looks.specs.Look.{Lent}
use Rattle.path_tiling.specs.Tiling.{range_of, tiled, range_tiled, slots_of}

pub ends : (L : Lent) (slots to k : ℕ) (p : Pieces) → to ≤ k → range_tiled (range_of L slots (to - k) k) p ≡ tiled Done p
unfolding range_of
ends L slots to k p h = let none_left : to - k ≡ 0 = omega arith in rw none_left

-- the slots are within the segments lent, and no more than the tags
pub slots_fit : (floats : ℕ) → slots_of floats * segment_floats ≤ floats
slots_fit floats = omega arith

pub slots_tagged : (floats : ℕ) → slots_of floats ≤ floats / segment_floats
slots_tagged floats = omega arith
