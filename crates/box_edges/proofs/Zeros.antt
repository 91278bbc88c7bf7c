-- A whole float from 0 up, with 0 added, is the float of its number: -0 becomes 0. So it is cast without loss. Assumes nothing.
--     zero_more    the sum
--     zero_cast    its cast
use mathlib.Core.Path.{◌≡◌, sym, ap, ◌∙◌, subst}
use mathlib.Core.Bool.{Bool, true, false}
use Prim.Native.Nat.{ℕ, ◌+◌, ◌*◌, ◌^◌, ◌≤◌, ◌<◌}
use native.Mathlib.Nat.{mul_assoc, mul-pos, lt_of_le_of_lt}
use native.Mathlib.Omega.{arith}
use lib.Dec.{T, lit<, le→leb}
use lib.IntN.{ℤ, pos, neg_ℤ}
use lib.Ieee.{Float, nan, inf, fin, binary32, up, down, add, sum, round, of_int, of_bits, to_unsigned, in_unsigned, in_float}
use lib.Ieee.Fits.{down_pos}
use lib.Ieee.Back.{unsigned_back}
use lib.Ieee.Scale.{round_same}
use Rattle.float32.specs.Meaning.{whole}
use Rattle.util.specs.Constants.{zero}
use Rattle.exact.specs.Whole.{IsWhole, signed_z}
use Rattle.exact.proofs.Signs.{plus_of, minus_of, neg_plus, neg_minus}
use Rattle.walk.specs.Num.{float}

plus_none : (n c q : ℕ) → q ≡ 0 → 0 < c → round binary32 false (n * c + q) c ≡ whole false n
plus_none n c q e h = round_same binary32 false (n * c + q) c n 1 h (lit< tt) (omega arith)

none_left : (a q c : ℕ) → a ≡ 0 → q ≡ 0 → 0 < c → sum binary32 true a false q c ≡ whole false 0
unfolding sum
none_left a q c e f h = rw (e, f) (round_same binary32 false 0 c 0 1 h (lit< tt) (omega arith))

-- a number from 0 up that is minus a size is 0
no_size : (n k : ℕ) → pos n ≡ neg_ℤ (pos k) → (n ≡ 0) × (k ≡ 0)
no_size n k e = (ap plus_of e ∙ neg_plus (pos k), sym (ap minus_of e ∙ neg_minus (pos k)))

no_times : (a b : ℕ) → 0 * a * b ≡ 0
no_times a b = omega arith

zero_at : (s : Bool) (m : ℕ) (e d : ℤ) (n k : ℕ) → m * up e ≡ k * down e → pos n ≡ signed_z s k → add binary32 (fin s m e) (fin false 0 d) ≡ whole false n
unfolding add sum
zero_at false m e d n k h g =
    let p : m * up e * down d ≡ n * (down e * down d) = ap (λ (j : ℕ). j * down d) (h ∙ ap (λ (j : ℕ). j * down e) (sym (ap plus_of g))) ∙ mul_assoc n (down e) (down d) in
    subst (λ (j : ℕ). round binary32 false (j + 0 * up d * down e) (down e * down d) ≡ whole false n) (sym p)
    (plus_none n (down e * down d) (0 * up d * down e) (no_times (up d) (down e)) (mul-pos (down_pos e) (down_pos d)))
zero_at true m e d n k h g =
    let o = no_size n k g in
    none_left (m * up e * down d) (0 * up d * down e) (down e * down d)
    (ap (λ (j : ℕ). j * down d) (h ∙ ap (λ (j : ℕ). j * down e) o.1) ∙ no_times (down e) (down d))
    (no_times (up d) (down e))
    (mul-pos (down_pos e) (down_pos d))
    ∙ ap (whole false) (sym o.0)

pub zero_more : (v : Float) (n : ℕ) → IsWhole v (pos n) → add binary32 v zero ≡ float n
unfolding of_bits of_int
zero_more nan n h = absurd h
zero_more (inf s) n h = absurd h
zero_more (fin s m e) n h = zero_at s m e _ n h.0 h.1 h.2

pub zero_cast : (v : Float) (n : ℕ) → IsWhole v (pos n) → n ≤ 2 ^ 24 → T (in_unsigned binary32 32 (add binary32 v zero)) × (to_unsigned 32 (add binary32 v zero) ≡ n)
unfolding in_float of_int
zero_cast v n w h = rw (zero_more v n w) (unsigned_back binary32 32 n (le→leb n (2 ^ 24) h) (lt_of_le_of_lt h (lit< tt)))
