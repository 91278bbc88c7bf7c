-- A line's steps counted in floats: the tiles between two edges, one taken off, and two such numbers added, are the floats of the whole numbers. Assumes
-- nothing.
--     columns_told    count_x
--     last_told       the last step's number, count less one
use mathlib.Core.Path.{◌≡◌, refl, sym, ap, ◌∙◌}
use mathlib.Core.Bool.{Bool, true, false, cond}
use Prim.Native.Nat.{ℕ, ◌+◌, ◌-◌, ◌^◌, ◌≤◌}
use native.Mathlib.Omega.{arith}
use lib.Dec.{T}
use lib.IntN.{pos, ◌+ℤ◌}
use lib.Ieee.{Float, binary32, add, sub, sum, lt, of_int, of_bits, fits}
use lib.Ieee.Back.{Float-back_unsigned}
use lib.Ieee.Fits.{sub-fits}
use Rattle.util.specs.Constants.{one}
use Rattle.exact.proofs.Limits.{far}
use Rattle.float32.specs.Meaning.{whole}
use Rattle.exact.specs.Whole.{Rounded}
use Rattle.exact.proofs.Signs.{plus_of, neg_plus}
use Rattle.exact.proofs.Exact.{nat_whole, add_rounded}
use Rattle.exact.proofs.Less.{one_less}
use Rattle.walk.specs.Num.{float}
use Rattle.walk.specs.Around.{apart_of, tiles_of, Spans, counts_by}

-- ---- a sum of two whole numbers' floats: exact or rounded once, and with no minus sign
zeros_sum : (a b : ℕ) → a ≡ 0 → b ≡ 0 → add binary32 (float a) (float b) ≡ float (a + b)
zeros_sum a b e f = rw (e, f) (unfold add sum of_int in refl)

floats_add : (a b : ℕ) → a + b ≤ 2 ^ 24 → add binary32 (float a) (float b) ≡ float (a + b)
unfolding of_int
floats_add a b h = go (add_rounded (float a) (float b) (pos a) (pos b) (nat_whole a (omega arith)) (nat_whole b (omega arith)))
  where
    go : Rounded (add binary32 (float a) (float b)) (pos a +ℤ pos b) → add binary32 (float a) (float b) ≡ float (a + b)
    go (false, k, e, f) = e ∙ ap (whole false) (sym (ap plus_of f))
    go (true, k, e, f) = let o : a + b ≡ 0 = ap plus_of f ∙ neg_plus (pos k) in zeros_sum a b (omega arith) (omega arith)

-- ---- between two edges
one_fits : T (fits binary32 one)
unfolding of_bits fits
one_fits = tt

apart_fits : (t : Bool) (low high : Float) → T (fits binary32 (cond t one (sub binary32 high low)))
apart_fits true low high = one_fits
apart_fits false low high = sub-fits binary32 high low

apart_is : (low high : Float) → Spans low high → apart_of low high ≡ float (tiles_of low high)
apart_is low high h =
    sym (Float-back_unsigned binary32 32 (apart_of low high) (apart_fits (lt (sub binary32 high low) one) low high) h.exact).1

one_off : (low high : Float) → Spans low high → sub binary32 (apart_of low high) one ≡ float (tiles_of low high - 1)
one_off low high h =
    ap (λ (x : Float). sub binary32 x one) (apart_is low high h ∙ ap float (sym more))
    ∙ one_less (tiles_of low high - 1) (omega (arith, more, h.few, far.tiles))
  where
    more : tiles_of low high - 1 + 1 ≡ tiles_of low high
    more = omega (arith, h.some)

-- ---- by the tiles at hand
module _ (left right top bottom x y : Float) (h : Spans left right) (k : Spans top bottom) (e : x ≡ apart_of left right) (f : y ≡ apart_of top bottom) where
  pub columns_told : sub binary32 x one ≡ float (counts_by left right top bottom).count_x
  unfolding counts_by
  columns_told = ap (λ (u : Float). sub binary32 u one) e ∙ one_off left right h

  pub last_told : add binary32 (sub binary32 x one) (sub binary32 y one) ≡ sub binary32 (float (counts_by left right top bottom).count) one
  unfolding counts_by
  last_told =
      ap (λ (u : Float). add binary32 u (sub binary32 y one)) (ap (λ (u : Float). sub binary32 u one) e ∙ one_off left right h)
      ∙ ap (add binary32 (float (tiles_of left right - 1))) (ap (λ (u : Float). sub binary32 u one) f ∙ one_off top bottom k)
      ∙ floats_add (tiles_of left right - 1) (tiles_of top bottom - 1) (omega (arith, h.few, k.few, far.tiles))
      ∙ sym (ap (λ (n : ℕ). sub binary32 (float n) one) more ∙ one_less (tiles_of left right - 1 + (tiles_of top bottom - 1)) (omega (arith, h.few, k.few, far.tiles)))
    where
      more : tiles_of left right - 1 + tiles_of top bottom ≡ tiles_of left right - 1 + (tiles_of top bottom - 1) + 1
      more = omega (arith, k.some)
