-- A step's tile in whole numbers: what is computed in floats and lies in the box is exact. So a line has no tile twice. Assumes nothing.
--     z_whole_lem, z_fits             z is a whole `f32`
--     col_is, row_is              column and row in whole numbers, where the cast is below 2 ^ 24
--     col_same, col_again_lem         counting's column is tiling's, where one of the two is below 2 ^ 24
--     steps_apart                 two steps with one column and one row are one step
--     last-z                      z of the step before, as the file computes it, is that step's z
use mathlib.Core.Path.{◌≡◌, sym, ap, ◌∙◌, subst}
use mathlib.Core.Logic.{◌⊎◌, inl, inr}
use Prim.Native.Nat.{ℕ, ◌^◌, ◌≤◌, ◌<◌}
use native.Mathlib.Nat.{le_of_lt}
use native.Mathlib.Omega.{arith}
use mathlib.Core.Bool.{Bool, true}
use lib.Dec.{T}
use lib.IntN.{ℤ, pos, ◌+ℤ◌, ◌-ℤ◌, neg_ℤ, nat_abs}
use lib.Ieee.{Float, binary32, add, sub, mul, fits, to_signed}
use lib.Ieee.Fits.{add-fits}
use lib.Ieee.Scale.{finite}
use Rattle.float32.proofs.Laws.{floor_fits}
use Rattle.float32.proofs.Tests.{below_or_not}
use Rattle.panel.specs.Limits.{edge_most}
use Rattle.panel.specs.Widths.{step_range}
use Rattle.exact.specs.Whole.{IsWhole, floor_z, turn}
use Rattle.exact.specs.Reach.{Starts}
use Rattle.exact.proofs.Signs.{plus_of, minus_of, sum_parts, abs_sum, abs_other, sum_cancel, turn_same}
use Rattle.exact.proofs.Exact.{floor_whole, floor_finite, nat_whole, whole_cast, whole_cast_end, add_whole, add_cast, sub_cast, sign_whole}
use Rattle.exact.proofs.Limits.{far}
use Rattle.walk.specs.Num.{float, cut_of, inside_of}
use Rattle.walk.specs.Step.{z_at}
use Rattle.walk.proofs.Boxes.{inside_bounds}

-- ---- the column, as counting has it and as tiling has it, and the row
abbrev pub col_of : (x0 sign z : Float) → ℤ
col_of x0 sign z = to_signed 31 (add binary32 x0 (mul binary32 sign z))

abbrev pub col_again : (x0 sign z : Float) → ℤ
col_again x0 sign z = to_signed 31 x0 +ℤ to_signed 31 (mul binary32 sign z)

abbrev pub row_at : (y0 : Float) → ℕ → (z : Float) → ℤ
row_at y0 i z = to_signed 31 (sub binary32 (add binary32 y0 (float i)) z)

-- ---- in a box
pub inside_small : (v : ℤ) (lo hi : ℕ) → hi ≤ edge_most → inside_of v lo hi ≡ true → nat_abs v < 2 ^ 24
inside_small v lo hi h e =
    let b = inside_bounds v lo hi e in
    let n : nat_abs v ≡ cut_of v = ap nat_abs b.0 in
    omega (arith, b.2, far.edge)

-- ---- z is whole
pub z_fits : (a b f : Float) → T (fits binary32 (z_at a b f))
unfolding z_at
z_fits a b f = floor_fits (add binary32 (mul binary32 a f) b)

-- its whole number
abbrev pub z_whole : (a b f : Float) → ℤ
z_whole a b f = floor_z (add binary32 (mul binary32 a f) b)

pub z_whole_lem : (a b f : Float) → T (finite (z_at a b f)) → IsWhole (z_at a b f) (z_whole a b f)
unfolding z_at
z_whole_lem a b f h =
    let v = add binary32 (mul binary32 a f) b in
    floor_whole v (add-fits binary32 (mul binary32 a f) b) (floor_finite v h)

-- ---- the tile of a step, for a z that is a whole `f32`
module _ (sign x0 y0 : Float) (l : Starts sign x0 y0) (z : Float) (n : ℤ) (f : T (fits binary32 z)) (w : IsWhole z n) where
  pub turned_whole : IsWhole (mul binary32 sign z) (turn l.turned n)
  turned_whole = subst (λ (u : Float). IsWhole (mul binary32 u z) (turn l.turned n)) (sym l.sign_is) (sign_whole l.turned z n f w)

  pub col_is : nat_abs (col_of x0 sign z) < 2 ^ 24 → col_of x0 sign z ≡ l.x0n +ℤ turn l.turned n
  col_is h = (add_cast x0 (mul binary32 sign z) l.x0n (turn l.turned n) l.x0_whole turned_whole h).2

  pub row_is : (i : ℕ) → i < step_range → nat_abs (row_at y0 i z) < 2 ^ 24 → row_at y0 i z ≡ l.y0n +ℤ pos i -ℤ n
  row_is i b h =
      let y = add binary32 y0 (float i) in
      let s : nat_abs (l.y0n +ℤ pos i) ≤ 2 ^ 24 = omega (arith, abs_sum l.y0n (pos i), l.y0_small, far.tiles, far.steps) in
      let v : IsWhole y (l.y0n +ℤ pos i) = add_whole y0 (float i) l.y0n (pos i) l.y0_whole (nat_whole i (omega (arith, far.steps))) s in
      (sub_cast y z (l.y0n +ℤ pos i) n v w h).2

  -- ---- counting's column and tiling's
  x0_cast : to_signed 31 x0 ≡ l.x0n
  x0_cast = whole_cast x0 l.x0n l.x0_whole (omega (arith, l.x0_small, far.tiles))

  -- both casts are exact
  again_is : nat_abs (turn l.turned n) < 2 ^ 31 → col_again x0 sign z ≡ l.x0n +ℤ turn l.turned n
  again_is c =
      ap (λ (j : ℤ). j +ℤ to_signed 31 (mul binary32 sign z)) x0_cast
      ∙ ap (λ (j : ℤ). l.x0n +ℤ j) (whole_cast (mul binary32 sign z) (turn l.turned n) turned_whole c)

  pub col_same : nat_abs (col_of x0 sign z) < 2 ^ 24 → col_of x0 sign z ≡ col_again x0 sign z
  col_same h =
      let m = turn l.turned n in
      let b : nat_abs (l.x0n +ℤ m) < 2 ^ 24 = subst (λ (j : ℤ). nat_abs j < 2 ^ 24) (col_is h) h in
      col_is h ∙ sym (again_is (omega (arith, abs_other l.x0n m, l.x0_small, far.tiles)))

  pub col_again_lem : nat_abs (col_again x0 sign z) < 2 ^ 24 → col_of x0 sign z ≡ col_again x0 sign z
  col_again_lem h = go (below_or_not (nat_abs (turn l.turned n)) (2 ^ 31))
    where
      m : ℤ
      m = turn l.turned n

      x : Float
      x = add binary32 x0 (mul binary32 sign z)

      go : (nat_abs (turn l.turned n) < 2 ^ 31) ⊎ (2 ^ 31 ≤ nat_abs (turn l.turned n)) → col_of x0 sign z ≡ col_again x0 sign z
      go (inl c) =
          let b : nat_abs (l.x0n +ℤ m) < 2 ^ 24 = subst (λ (j : ℤ). nat_abs j < 2 ^ 24) (again_is c) h in
          whole_cast x (l.x0n +ℤ m) (add_whole x0 (mul binary32 sign z) l.x0n m l.x0_whole turned_whole (le_of_lt b)) (omega arith)
          ∙ sym (again_is c)
      go (inr c) =
          let k = to_signed 31 (mul binary32 sign z) in
          let b : nat_abs (l.x0n +ℤ k) < 2 ^ 24 = subst (λ (j : ℤ). nat_abs (j +ℤ k) < 2 ^ 24) x0_cast h in
          absurd (omega (arith, abs_other l.x0n k, l.x0_small, far.tiles, whole_cast_end (mul binary32 sign z) m turned_whole c))

-- ---- one step to a tile
-- x gives z, and then y gives i
tile_step : (t : Bool) (x0 y0 n m : ℤ) (i j : ℕ) → x0 +ℤ turn t n ≡ x0 +ℤ turn t m → y0 +ℤ pos i -ℤ n ≡ y0 +ℤ pos j -ℤ m → i ≡ j
tile_step t x0 y0 n m i j p q =
    let e : n ≡ m = turn_same t n m (sum_cancel x0 (turn t n) (turn t m) p) in
    last m q e
  where
    last : (m : ℤ) → y0 +ℤ pos i -ℤ n ≡ y0 +ℤ pos j -ℤ m → n ≡ m → i ≡ j
    last m q e =
        omega (
          arith,
          sum_parts (y0 +ℤ pos i) (neg_ℤ n),
          sum_parts (y0 +ℤ pos j) (neg_ℤ m),
          sum_parts y0 (pos i),
          sum_parts y0 (pos j),
          ap plus_of q,
          ap minus_of q,
          ap (λ (k : ℤ). plus_of (neg_ℤ k)) e,
          ap (λ (k : ℤ). minus_of (neg_ℤ k)) e,
        )

-- for any z and w that are whole `f32`s: a tile gives z, and then the step
pub steps_apart : (sign x0 y0 : Float) → Starts sign x0 y0 → (z w : Float) (n m : ℤ) → T (fits binary32 z) → IsWhole z n → T (fits binary32 w) → IsWhole w m
    → (i j : ℕ) → i < step_range → j < step_range
    → nat_abs (col_of x0 sign z) < 2 ^ 24 → nat_abs (row_at y0 i z) < 2 ^ 24
    → col_of x0 sign z ≡ col_of x0 sign w → row_at y0 i z ≡ row_at y0 j w → i ≡ j
steps_apart sign x0 y0 l z w n m f hz g hw i j bi bj cx cy e d =
    tile_step l.turned l.x0n l.y0n n m i j
    (sym (col_is sign x0 y0 l z n f hz cx) ∙ e ∙ col_is sign x0 y0 l w m g hw (subst (λ (v : ℤ). nat_abs v < 2 ^ 24) e cx))
    (sym (row_is sign x0 y0 l z n f hz i bi cy) ∙ d ∙ row_is sign x0 y0 l w m g hw j bj (subst (λ (v : ℤ). nat_abs v < 2 ^ 24) d cy))
