-- A float from -15 to 0 less epsilon lies below it: floats of that size stand at most 2 ^ -20 apart, which is less than epsilon. So the two, and any above and the lower, have a
-- difference that is not 0. Assumes nothing.
--     some_left    x less (x less epsilon) is at least the smallest float above 0
use mathlib.Core.Path.{◌≡◌, refl, sym, ap, subst, ◌∙◌}
use mathlib.Core.Bool.{Bool, true, false, true≢false, false≢true}
use mathlib.Core.Logic.{⊎_elim, inl, inr}
use Prim.Native.Nat.{ℕ, suc, ◌+◌, ◌-◌, ◌*◌, ◌^◌, ◌≤◌, ◌<◌}
use native.Mathlib.Nat.{add-mul, mul_comm, mul_assoc, mul_right_comm, mul-one, one-mul, zero-mul, mul-pos, mul-le-mul_right, mul-le-mul_left, le_of_mul-le-mul_right, le_trans, le_of_eq, lt_of_lt_of_le}
use native.Mathlib.Omega.{arith}
use lib.Dec.{T, lit<}
use lib.Pow.{pow_pos, pow-add, pow_mono, shl_lt}
use lib.IntN.{ℤ, pos, negsuc}
use lib.Ieee.{Float, nan, inf, fin, binary32, up, down, round, sum, add, sub, neg, lt, fits, of_bits}
use lib.Ieee.Exact.{HasValue, round_exact}
use lib.Ieee.Fits.{up_pos, down_pos}
use borrow.Author.Tests.{ltb-false}
use Rattle.util.specs.Constants.{epsilon}
use Rattle.float32.proofs.Alike.{IsZero, Alike, alike_sub, alike_lt}
use Rattle.float32.proofs.Floors.{few_digits, not_low}
use Rattle.float32.proofs.Laws.{zero_plus}
use Rattle.float32.proofs.Tests.{below_or_not}
use Rattle.float32.proofs.Whole.{round_no_nan}
use Rattle.rounded.proofs.Rises.{sum_rd, rd_order, nought, sub_falls, at_most_trans}
use Rattle.rounded.proofs.Numbers.{sub_number}
use Rattle.rounded.proofs.Zeros.{tiny}

-- epsilon, and -15
abbrev little : Float
little = fin false 8796093 (negsuc 42)

abbrev pub far_left : Float
far_left = fin true 15 (pos 0)

-- ---- whole numbers

-- q / 2 ^ j is a float, of no more than 24 digits
scaled : (q j : ℕ) → j ≤ 149 → q * 2 ^ 149 ≡ q * 2 ^ (149 - j) * 2 ^ j
scaled q j h =
    let s : 149 ≡ 149 - j + j = omega arith in
    ap (λ (z : ℕ). q * 2 ^ z) s ∙ ap (λ (z : ℕ). q * z) (pow-add 2 (149 - j) j) ∙ sym (mul_assoc q (2 ^ (149 - j)) (2 ^ j))

exact : (s : Bool) (q j : ℕ) → q < 2 ^ 24 → j ≤ 149 → HasValue (round binary32 s q (2 ^ j)) s q (2 ^ j)
exact s q j few h =
    round_exact binary32 s q (2 ^ j) q (149 - j) (pow_pos j) few (lt_of_lt_of_le (shl_lt 24 (149 - j) few) (pow_mono {i = 24 + (149 - j)} {j = 277} (omega arith))) (scaled q j h)

-- 2 ^ 24 is 2 ^ 23 twice
full : (s : Bool) (j : ℕ) → j ≤ 149 → HasValue (round binary32 s (2 ^ 24) (2 ^ j)) s (2 ^ 24) (2 ^ j)
full s j h =
    round_exact binary32 s (2 ^ 24) (2 ^ j) (2 ^ 23) (1 + (149 - j)) (pow_pos j) (lit< tt)
    (lt_of_lt_of_le (shl_lt 24 (1 + (149 - j)) (lit< tt)) (pow_mono {i = 24 + (1 + (149 - j))} {j = 277} (omega arith)))
    (scaled (2 ^ 24) j h ∙ ap (λ (z : ℕ). z * 2 ^ j) (mul_assoc (2 ^ 23) 2 (2 ^ (149 - j)) ∙ ap (λ (z : ℕ). 2 ^ 23 * z) (sym (pow-add 2 1 (149 - j)))))

exact_to : (s : Bool) (q j : ℕ) → q ≤ 2 ^ 24 → j ≤ 149 → HasValue (round binary32 s q (2 ^ j)) s q (2 ^ j)
exact_to s q j few h = ⊎_elim (λ (l : q < 2 ^ 24). exact s q j l h) (λ (g : 2 ^ 24 ≤ q). at (omega arith)) (below_or_not q (2 ^ 24))
  where
    at : 2 ^ 24 ≡ q → HasValue (round binary32 s q (2 ^ j)) s q (2 ^ j)
    at e = subst (λ (z : ℕ). HasValue (round binary32 s z (2 ^ j)) s z (2 ^ j)) e (full s j h)

-- a / d is n / c: so a / d and epsilon is (n + 1) / c or more, where c is 2 ^ 20 or more
under : (a d n c : ℕ) → a * c ≡ n * d → 2 ^ 20 ≤ c → (0 + 0) * c + (n + 1) * (d * 2 ^ 43) ≤ 0 * (d * 2 ^ 43) + (a * 2 ^ 43 + 8796093 * 1 * d) * c
under a d n c h k =
    omega (
      arith,
      zero-mul c,
      zero-mul (d * 2 ^ 43),
      add-mul n 1 (d * 2 ^ 43),
      one-mul (d * 2 ^ 43),
      mul_assoc n d (2 ^ 43),
      add-mul (a * 2 ^ 43) (8796093 * 1 * d) c,
      mul_right_comm a (2 ^ 43) c,
      mul_assoc (8796093 * 1) d c,
      ap (λ (z : ℕ). z * 2 ^ 43) h,
      mul-le-mul_left d k,
    )

-- a / d is n / c, and b / f is (n + 1) / c: so they are 1 / p or more apart, for a multiple p of c
apart : (a d b f n c t p : ℕ) → a * c ≡ n * d → b * c ≡ (n + 1) * f → p ≡ c * t → 0 < t → 1 * (d * f) + (a * f + 0) * p ≤ (0 + b * d) * p + 0 * (d * f)
apart a d b f n c t p h k e T =
    let u : a * f * p ≡ n * (d * f * t) =
    ap (λ (z : ℕ). a * f * z) e ∙ sym (mul_assoc (a * f) c t) ∙ ap (λ (z : ℕ). z * t) (mul_right_comm a f c ∙ ap (λ (z : ℕ). z * f) h ∙ mul_assoc n d f) ∙ mul_assoc n (d * f) t in
    let v : b * d * p ≡ (n + 1) * (d * f * t) =
    ap (λ (z : ℕ). b * d * z) e ∙ sym (mul_assoc (b * d) c t)
    ∙ ap (λ (z : ℕ). z * t) (mul_right_comm b d c ∙ ap (λ (z : ℕ). z * d) k ∙ mul_assoc (n + 1) f d ∙ ap (λ (z : ℕ). (n + 1) * z) (mul_comm f d)) ∙ mul_assoc (n + 1) (d * f) t in
    let w : d * f * 1 ≤ d * f * t = mul-le-mul_left (d * f) T in
    sides (a * f) (b * d) (d * f) p (n * (d * f * t)) (d * f * t) u (v ∙ add-mul n 1 (d * f * t)) w
  where
    sides : (A B D p x y : ℕ) → A * p ≡ x → B * p ≡ x + 1 * y → D * 1 ≤ y → 1 * D + (A + 0) * p ≤ (0 + B) * p + 0 * D
    sides A B D p x y q r w =
        let l : (A + 0) * p ≡ A * p = ap (λ (z : ℕ). z * p) (omega arith) in
        let m : (0 + B) * p ≡ B * p = ap (λ (z : ℕ). z * p) (omega arith) in
        omega (arith, zero-mul D, one-mul D, one-mul y, mul-one D, l, m)

-- ---- x is - n / 2 ^ j
module _ (m : ℕ) (e : ℤ) (n j : ℕ) (few : n < 2 ^ 24) (lo : 20 ≤ j) (hi : j ≤ 149) (at : m * up e * 2 ^ j ≡ n * down e) where
  -- the next one below it
  abbrev next : Float
  next = round binary32 true (n + 1) (2 ^ j)

  less_below : lt next (sub binary32 (fin true m e) little) ≡ false
  unfolding sub add neg
  less_below =
      rd_order (sub binary32 (fin true m e) little) (0 + 0) (m * up e * 2 ^ 43 + 8796093 * 1 * down e) (down e * 2 ^ 43) next 0 (n + 1) (2 ^ j)
      (mul-pos (down_pos e) (pow_pos 43)) (pow_pos j)
      (sum_rd true (m * up e * 2 ^ 43) true (8796093 * 1 * down e) (down e * 2 ^ 43))
      (record { s = true; k = n + 1; is = refl; gap = omega arith })
      (under (m * up e) (down e) n (2 ^ j) at (pow_mono {i = 20} {j = j} lo))

  next_apart : (y : Float) → HasValue y true (n + 1) (2 ^ j) → lt (sub binary32 (fin true m e) y) tiny ≡ false
  unfolding sub add neg
  next_apart nan v = absurd v
  next_apart (inf s) v = absurd v
  next_apart (fin false k d) v = absurd (false≢true v.0)
  next_apart (fin true k d) v =
      rd_order tiny 1 0 (2 ^ 149) (sub binary32 (fin true m e) (fin true k d)) (0 + k * up d * down e) (m * up e * down d + 0) (down e * down d)
      (pow_pos 149) (mul-pos (down_pos e) (down_pos d))
      (record { s = false; k = 1; is = unfold round in refl; gap = refl })
      (sum_rd true (m * up e * down d) false (k * up d * down e) (down e * down d))
      (apart (m * up e) (down e) (k * up d) (down d) n (2 ^ j) (2 ^ (149 - j)) (2 ^ 149) at v.1 split (pow_pos (149 - j)))
    where
      split : 2 ^ 149 ≡ 2 ^ j * 2 ^ (149 - j)
      split = let s : 149 ≡ j + (149 - j) = omega arith in ap (λ (z : ℕ). 2 ^ z) s ∙ pow-add 2 j (149 - j)

  left_by : lt (sub binary32 (fin true m e) (sub binary32 (fin true m e) little)) tiny ≡ false
  left_by =
      at_most_trans tiny (sub binary32 (fin true m e) next) (sub binary32 (fin true m e) (sub binary32 (fin true m e) little))
      (sub_number (fin true m e) next tt (round_no_nan true (n + 1) (2 ^ j)))
      (next_apart next (exact_to true (n + 1) j (omega arith) hi))
      (sub_falls (sub binary32 (fin true m e) little) next (fin true m e) less_below)

-- ---- an x from -15 to 0
abbrev Left : Float → Type 0
Left x = lt (sub binary32 x (sub binary32 x little)) tiny ≡ false

low_enough : (k : ℕ) → 2 ^ k ≤ 2 ^ 149 → k ≤ 149
low_enough k h = ⊎_elim (λ (l : k < 150). omega arith) (λ (g : 150 ≤ k). absurd (clash (2 ^ 149) (2 ^ 150) (2 ^ k) (lit< tt) (pow_mono {i = 150} {j = k} g) h)) (below_or_not k 150)
  where
    clash : (a b x : ℕ) → a < b → b ≤ x → x ≤ a → ⊥
    clash a b x p q r = omega arith

by_size : (m : ℕ) (e : ℤ) → m < 2 ^ 24 → down e ≤ 2 ^ 149 → m * up e ≤ 15 * down e → Left (fin true m e)
by_size m (pos k) few low near =
    left_by m (pos k) (m * 2 ^ k * 2 ^ 20) 20 (omega arith) (omega arith) (omega arith) (sym (mul-one (m * 2 ^ k * 2 ^ 20)))
by_size m (negsuc k) few low near = ⊎_elim (λ (l : suc k < 21). wide l) (λ (g : 21 ≤ suc k). fine g) (below_or_not (suc k) 21)
  where
    fine : 21 ≤ suc k → Left (fin true m (negsuc k))
    fine g = left_by m (negsuc k) (m * 1) (suc k) (omega (arith, mul-one m)) (omega arith) (low_enough (suc k) low) refl

    wide : suc k < 21 → Left (fin true m (negsuc k))
    wide l =
        let n = m * 1 * 2 ^ (20 - suc k) in
        let s : 20 ≡ 20 - suc k + suc k = omega arith in
        let is : m * 1 * 2 ^ 20 ≡ n * 2 ^ suc k =
        ap (λ (z : ℕ). m * 1 * 2 ^ z) s ∙ ap (λ (z : ℕ). m * 1 * z) (pow-add 2 (20 - suc k) (suc k)) ∙ sym (mul_assoc (m * 1) (2 ^ (20 - suc k)) (2 ^ suc k)) in
        let b : n ≤ 15 * 2 ^ 20 =
        le_of_mul-le-mul_right (le_trans (le_of_eq (sym is)) (le_trans (mul-le-mul_right (2 ^ 20) near) (le_of_eq (mul_right_comm 15 (2 ^ suc k) (2 ^ 20))))) (pow_pos (suc k)) in
        left_by m (negsuc k) n 20 (omega arith) (omega arith) (omega arith) is

-- of a zero too
none_left : Left (fin true 0 (pos 0))
unfolding sub add neg sum round lt
none_left = refl

of_zero : (x : Float) → IsZero x → Left x
of_zero x z =
    alike_lt (sub binary32 x (sub binary32 x little)) (sub binary32 nought_f (sub binary32 nought_f little))
    (alike_sub x nought_f (sub binary32 x little) (sub binary32 nought_f little) zero_like (alike_sub x nought_f little little zero_like (inl refl))) tiny
    ∙ none_left
  where
    nought_f : Float
    nought_f = fin true 0 (pos 0)

    zero_like : Alike x nought_f
    zero_like = inr (z, refl)

by_sign : (x : Float) → T (fits binary32 x) → lt zero_plus x ≡ false → lt x far_left ≡ false → Left x
unfolding lt
by_sign nan f h k = unfold sub add in refl
by_sign (inf true) f h k = absurd (true≢false k)
by_sign (inf false) f h k = absurd (true≢false h)
by_sign (fin true m e) f h k = by_size m e (few_digits true m e f) (not_low true m e f) (omega (arith, ltb-false (15 * 1 * down e) (m * up e * 1) k, mul-one (m * up e)))
by_sign (fin false m e) f h k = of_zero (fin false m e) (nought m (up e) (up_pos e) (omega (arith, ltb-false (0 * 1 * down e) (m * up e * 1) h, mul-one (m * up e), zero-mul (down e))))

pub some_left : (x : Float) → T (fits binary32 x) → lt zero_plus x ≡ false → lt x far_left ≡ false → lt (sub binary32 x (sub binary32 x epsilon)) tiny ≡ false
unfolding of_bits
some_left x f h k = by_sign x f h k
