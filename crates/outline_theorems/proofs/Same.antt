-- Points that are the same bit for bit are one point. Assumes nothing.
use mathlib.Core.Path.{◌≡◌, sym, ap, ap₂, ◌∙◌}
use mathlib.Core.Bool.{true}
use mathlib.Core.List.{List}
use Prim.Native.Nat.{ℕ, ◌+◌, ◌*◌, ◌≤◌, ◌<◌}
use native.Mathlib.Omega.{arith}
use lib.Dec.{T, eqb}
use lib.ListN.{length, get_or}
use lib.Ieee.{Float, nan, binary32, eq, fits, of_bits, to_bits}
use lib.Ieee.Bits.{of_bits-to_bits}
use borrow.Author.Tests.{eqb-true}
use Rattle.float32.proofs.Tests.{first, second}
use Rattle.util.specs.declared.Vec2.{Vec2}
use Rattle.panel.specs.Lines.{line_at}
use Rattle.panel.specs.Widths.{line_floats}
use Rattle.outlines.specs.Outlines.{same_bits, same_point, meets}
use Rattle.outline_theorems.specs.Crossings.{start_of, end_of}

same_float : (x y : Float) → T (fits binary32 x) → T (fits binary32 y) → same_bits x y ≡ true → x ≡ y
unfolding same_bits
same_float x y f g e =
    let bits : to_bits binary32 x ≡ to_bits binary32 y = eqb-true _ _ (second (eq x y) (eqb (to_bits binary32 x) (to_bits binary32 y)) e) in
    sym (of_bits-to_bits binary32 x f) ∙ ap (of_bits binary32) bits ∙ of_bits-to_bits binary32 y g

abbrev point_of : Float → Float → Vec2
point_of u v = record { x = u; y = v }

module _ (fs : List Float) (fit : (k : ℕ) → k < length fs → T (fits binary32 (get_or fs k nan))) where
  -- a line that ends where another starts: the two points are one
  pub same_ends : (k l : ℕ) → k * line_floats + line_floats ≤ length fs → l * line_floats + line_floats ≤ length fs → meets fs k l ≡ true → end_of fs k ≡ start_of fs l
  unfolding meets same_point line_at
  same_ends k l a b e =
      let x1 = get_or fs (k * line_floats + 2) nan in
      let y1 = get_or fs (k * line_floats + 3) nan in
      let x0 = get_or fs (l * line_floats) nan in
      let y0 = get_or fs (l * line_floats + 1) nan in
      ap₂ point_of
      (same_float x1 x0 (fit (k * line_floats + 2) (omega arith)) (fit (l * line_floats) (omega arith)) (first (same_bits x1 x0) (same_bits y1 y0) e))
      (same_float y1 y0 (fit (k * line_floats + 3) (omega arith)) (fit (l * line_floats + 1) (omega arith)) (second (same_bits x1 x0) (same_bits y1 y0) e))
