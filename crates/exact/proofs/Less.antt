-- A number up to 2 ^ 24 as a float, less one, is the float of the number less one. Assumes nothing.
use Prim.Native.Nat.{ℕ, suc, ◌+◌, ◌-◌, ◌*◌, ◌≤◌, ◌<◌, ◌^◌}
use native.Mathlib.Nat.{mul-one, mul_assoc, mul_comm, mul-pos, mul-le-mul_right, add-mul}
use native.Mathlib.Omega.{arith}
use mathlib.Core.Path.{◌≡◌, refl, sym, ap, ◌∙◌, subst}
use mathlib.Core.Bool.{true, false, true≢false}
use lib.Dec.{lit<}
use lib.IntN.{pos}
use lib.Ieee.{Float, nan, inf, fin, binary32, up, down, sub, sum, of_int, of_bits}
use lib.Ieee.Exact.{HasValue}
use lib.Ieee.Back.{round_whole, whole_unique}
use lib.Ieee.Fits.{down_pos, sub-fits, of_int-fits}
use lib.Ieee.Scale.{round_same}
use borrow.Author.Tests.{le-ltb}
use Rattle.util.specs.Constants.{one}

pub nat_value : (i : ℕ) → i ≤ 2 ^ 24 → HasValue (of_int binary32 (pos i)) false i 1
unfolding of_int
nat_value i h = round_whole binary32 false i h

-- a / c - b / c, for a whole a and b over the same c
diff : (a b c p q : ℕ) → 0 < c → p ≡ a * c → q ≡ b * c → b ≤ a → a ≤ 2 ^ 24 → HasValue (sum binary32 false p true q c) false (a - b) 1
unfolding sum
diff a b c p q C e f h k =
    let le : q ≤ p = omega (arith, mul-le-mul_right c h) in
    let r : a ≡ a - b + b = omega arith in
    let is : (p - q) * 1 ≡ (a - b) * c = omega (arith, ap (λ (z : ℕ). z * c) r ∙ add-mul (a - b) b c) in
    rw (le-ltb p q le, round_same binary32 false (p - q) c (a - b) 1 C (lit< tt) is) (round_whole binary32 false (a - b) (omega arith))

value_less : (x y : Float) (a b : ℕ) → HasValue x false a 1 → HasValue y false b 1 → b ≤ a → a ≤ 2 ^ 24 → HasValue (sub binary32 x y) false (a - b) 1
unfolding sub
value_less nan y a b p q h k = absurd p
value_less (inf s) y a b p q h k = absurd p
value_less (fin s m e) nan a b p q h k = absurd q
value_less (fin s m e) (inf t) a b p q h k = absurd q
value_less (fin false m e) (fin false n d) a b p q h k =
    diff a b (down e * down d) (m * up e * down d) (n * up d * down e) (mul-pos (down_pos e) (down_pos d))
    (ap (λ (z : ℕ). z * down d) (sym (mul-one (m * up e)) ∙ p.1) ∙ mul_assoc a (down e) (down d))
    (ap (λ (z : ℕ). z * down e) (sym (mul-one (n * up d)) ∙ q.1) ∙ mul_assoc b (down d) (down e) ∙ ap (λ (z : ℕ). b * z) (mul_comm (down d) (down e)))
    h
    k
value_less (fin false m e) (fin true n d) a b p q h k = absurd (true≢false q.0)
value_less (fin true m e) (fin t n d) a b p q h k = absurd (true≢false p.0)

pub one_less : (i : ℕ) → i + 1 ≤ 2 ^ 24 → sub binary32 (of_int binary32 (pos (i + 1))) one ≡ of_int binary32 (pos i)
unfolding of_bits
one_less i h =
    whole_unique binary32 (sub binary32 (of_int binary32 (pos (i + 1))) one) (of_int binary32 (pos i)) false i
    (sub-fits binary32 (of_int binary32 (pos (i + 1))) one)
    (of_int-fits binary32 (pos i))
    (subst (λ (n : ℕ). HasValue (sub binary32 (of_int binary32 (pos (i + 1))) one) false n 1) (omega arith)
    (value_less (of_int binary32 (pos (i + 1))) one (i + 1) 1 (nat_value (i + 1) h) (refl, refl) (omega arith) h))
    (nat_value i (omega arith))
