-- The exact line: at its last step, n = cx + j, it lies between column cx and the next, (X n + Y c + X t) / (X + Y). Assumes nothing.
-- In parts of 1 / H: C and T are where the line starts in its first tile, X and Y how far it goes, cx and j how many columns and rows it crosses.
use mathlib.Core.Path.{◌≡◌, ap, ◌∙◌}
use Prim.Native.Nat.{ℕ, ◌+◌, ◌*◌, ◌≤◌}
use native.Mathlib.Nat.{mul_comm, mul_left_comm, mul-add, add-mul, mul-le-mul_left}
use native.Mathlib.Omega.{arith}

pub record Crosses (X Y C T cx j H : ℕ) : Type 0 where
  pub cols_least : cx * H ≤ C + X
  pub cols_most : C + X ≤ cx * H + H
  pub rows_least : Y ≤ T + j * H
  pub rows_most : T + j * H ≤ Y + H
  pub c_in : C ≤ H
  pub t_in : T ≤ H

module _ (X Y C T cx j H : ℕ) (r : Crosses X Y C T cx j H) where
  spread : cx * ((X + Y) * H) ≡ X * (cx * H) + Y * (cx * H)
  spread = ap (λ (z : ℕ). cx * z) (add-mul X Y H) ∙ mul-add cx (X * H) (Y * H) ∙ ap (λ (z : ℕ). z + cx * (Y * H)) (mul_left_comm cx X H) ∙ ap (λ (z : ℕ). X * (cx * H) + z) (mul_left_comm cx Y H)

  steps : X * ((cx + j) * H) ≡ X * (cx * H) + X * (j * H)
  steps = ap (λ (z : ℕ). X * z) (add-mul cx j H) ∙ mul-add X (cx * H) (j * H)

  pub line_least : cx * ((X + Y) * H) ≤ X * ((cx + j) * H) + (Y * C + X * T)
  line_least =
      omega (arith, spread, steps, mul-le-mul_left X r.rows_least, mul-add X T (j * H), mul-le-mul_left Y r.cols_least, mul-add Y C X, mul_comm X Y)

  pub line_most : X * ((cx + j) * H) + (Y * C + X * T) ≤ cx * ((X + Y) * H) + (X + Y) * H
  line_most =
      omega
      (arith, spread, steps, mul-le-mul_left X r.rows_most, mul-add X T (j * H), mul-add X Y H, mul-le-mul_left Y r.cols_most, mul-add Y C X, mul-add Y (cx * H) H, mul_comm X Y, add-mul X Y H)

  pub start_most : Y * C + X * T ≤ (X + Y) * H
  start_most = omega (arith, mul-le-mul_left Y r.c_in, mul-le-mul_left X r.t_in, add-mul X Y H)
