-- What zeros come to, and what isn't one. Assumes nothing.
--     zeros_apart, zero_times    a zero less a zero, and a finite float times one, are zeros
--     less_itself                a finite float less itself is +0
--     no_zero                    what isn't below the smallest float above 0 is no zero
--     itself                     a finite float that is no zero, divided by itself, is 1
--     nothing_over               0 divided by what is above 0 is 0
use mathlib.Core.Path.{◌≡◌, refl, sym, ap, ◌∙◌}
use mathlib.Core.Bool.{Bool, true, false, not, cond, ◌&&◌, beq, true≢false}
use mathlib.Core.Logic.{inl, inr}
use Prim.Native.Nat.{ℕ, zero, suc, ◌+◌, ◌-◌, ◌*◌, ◌^◌, ◌≤◌, ◌<◌}
use native.Mathlib.Nat.{mul-pos, zero-mul, mul-zero, mul_comm, zero-lt-suc}
use native.Mathlib.Omega.{arith}
use lib.Dec.{T, lit<, ltb}
use lib.IntN.{negsuc}
use lib.Ieee.{Float, nan, inf, fin, binary32, up, down, unlike, round, sum, add, sub, mul, div, neg, lt, eq, fits, of_bits, is_nan}
use lib.Ieee.Fits.{up_pos, down_pos}
use lib.Ieee.Scale.{round_same, finite}
use borrow.Author.Tests.{le-ltb, ltb-false, ne_eqb}
use Rattle.util.specs.Constants as Number
use Rattle.float32.specs.Meaning.{whole}
use Rattle.float32.proofs.Alike.{IsZero, Alike, alike_then, alike_lt, alike_sum}
use Rattle.float32.proofs.Laws.{zero_plus}
use Rattle.float32.proofs.Same.{sub-zero}

-- the smallest float above 0
abbrev pub tiny : Float
tiny = fin false 1 (negsuc 148)

pub zero_is : Number.zero ≡ zero_plus
unfolding of_bits
zero_is = refl

-- ---- zeros
none : (s : Bool) (a c : ℕ) → 0 < c → a ≡ 0 → eq (round binary32 s a c) Number.zero ≡ true
none s a c C e = rw (round_same binary32 s a c 0 1 C (lit< tt) (omega arith)) (each s)
  where
    each : (s : Bool) → eq (whole s 0) Number.zero ≡ true
    each true = unfold round eq of_bits in refl
    each false = unfold round eq of_bits in refl

pub no_height : eq (sub binary32 Number.one Number.one) Number.zero ≡ true
unfolding sub eq of_bits add neg sum round
no_height = refl

sum_none : (s t : Bool) (a b c : ℕ) → 0 < c → a ≡ 0 → b ≡ 0 → eq (sum binary32 s a t b c) Number.zero ≡ true
unfolding sum
sum_none s t a b c C p q = go (beq s t) (ltb a b)
  where
    go : (u v : Bool) → eq (cond u (round binary32 s (a + b) c) (cond v (round binary32 t (b - a) c) (round binary32 (s && ltb b a) (a - b) c))) Number.zero ≡ true
    go true v = none s (a + b) c C (omega arith)
    go false true = none t (b - a) c C (omega arith)
    go false false = none (s && ltb b a) (a - b) c C (omega arith)

no_size : (m a b : ℕ) → m ≡ 0 → m * a * b ≡ 0
no_size m a b e = ap (λ (z : ℕ). z * a * b) e ∙ ap (λ (z : ℕ). z * b) (zero-mul a) ∙ zero-mul b

pub zeros_apart : (x y : Float) → IsZero x → IsZero y → eq (sub binary32 x y) Number.zero ≡ true
unfolding sub add neg
zeros_apart nan y p q = absurd p
zeros_apart (inf s) y p q = absurd p
zeros_apart (fin s m e) nan p q = absurd q
zeros_apart (fin s m e) (inf t) p q = absurd q
zeros_apart (fin s m e) (fin t n d) p q =
    sum_none s (not t) (m * up e * down d) (n * up d * down e) (down e * down d) (mul-pos (down_pos e) (down_pos d)) (no_size m (up e) (down d) p) (no_size n (up d) (down e) q)

pub zero_times : (x z : Float) → T (finite x) → IsZero z → eq (mul binary32 x z) Number.zero ≡ true
unfolding mul
zero_times nan z f q = absurd f
zero_times (inf s) z f q = absurd f
zero_times (fin s m e) nan f q = absurd q
zero_times (fin s m e) (inf t) f q = absurd q
zero_times (fin s m e) (fin t n d) f q =
    none (unlike s t) (m * up e * (n * up d)) (down e * down d) (mul-pos (down_pos e) (down_pos d))
    (ap (λ (z : ℕ). m * up e * (z * up d)) q ∙ ap (λ (z : ℕ). m * up e * z) (zero-mul (up d)) ∙ mul-zero (m * up e))

none_left : (s : Bool) (a c : ℕ) → 0 < c → sum binary32 s a (not s) a c ≡ Number.zero
unfolding sum of_bits round
none_left true a c C = rw (le-ltb a a (omega arith), round_same binary32 false (a - a) c 0 1 C (lit< tt) (omega arith))
none_left false a c C = rw (le-ltb a a (omega arith), round_same binary32 false (a - a) c 0 1 C (lit< tt) (omega arith))

-- x less x is +0
pub less_itself : (x : Float) → T (finite x) → sub binary32 x x ≡ Number.zero
unfolding sub
less_itself nan t = absurd t
less_itself (inf s) t = absurd t
less_itself (fin s m e) t = none_left s (m * up e * down e) (down e * down e) (mul-pos (down_pos e) (down_pos e))

-- ---- what is no zero
pub no_zero : (x : Float) → lt x tiny ≡ false → IsZero x → ⊥
no_zero x h z = true≢false (sym (alike_lt x zero_plus (inr (z, refl)) tiny ∙ under) ∙ h)
  where
    under : lt zero_plus tiny ≡ true
    under = unfold lt in refl

-- a float divided by itself is 1
one_is : round binary32 false 1 1 ≡ Number.one
unfolding round of_bits
one_is = refl

like : (s : Bool) → unlike s s ≡ false
like true = refl
like false = refl

pub itself : (x : Float) → T (finite x) → (IsZero x → ⊥) → div binary32 x x ≡ Number.one
unfolding div
itself nan f z = absurd f
itself (inf s) f z = absurd f
itself (fin s zero e) f z = absurd (z refl)
itself (fin s (suc m) e) f z =
    let k = suc m * up e * down e in
    let K : 0 < k = mul-pos (mul-pos (zero-lt-suc m) (up_pos e)) (down_pos e) in
    rw (ne_eqb (suc m) 0 (λ (q : suc m ≡ 0). omega arith), like s) (round_same binary32 false k k 1 1 K (lit< tt) (mul_comm k 1) ∙ one_is)

-- 0 divided by what is above 0 is 0
pub nothing_over : (x : Float) → T (not (is_nan x)) → lt x tiny ≡ false → div binary32 zero_plus x ≡ zero_plus
unfolding div lt is_nan
nothing_over nan n h = absurd n
nothing_over (inf true) n h = absurd (true≢false h)
nothing_over (inf false) n h = refl
nothing_over (fin true m e) n h = absurd (clash (m * up e * 2 ^ 149) (down e) (ltb-false 0 (m * up e * 2 ^ 149 + 1 * 1 * down e) h) (down_pos e))
  where
    clash : (a d : ℕ) → a + 1 * 1 * d ≤ 0 → 0 < d → ⊥
    clash a d p q = omega arith
nothing_over (fin false zero e) n h = absurd (no_zero (fin false zero e) h refl)
nothing_over (fin false (suc m) e) n h =
    let k = suc m * up e * 1 in
    let K : 0 < k = mul-pos (mul-pos (zero-lt-suc m) (up_pos e)) (lit< tt) in
    rw (ne_eqb (suc m) 0 (λ (q : suc m ≡ 0). omega arith))
    (round_same binary32 false (0 * 1 * down e) k 0 1 K (lit< tt) (omega (arith, zero-mul (down e), zero-mul k)) ∙ (unfold round in refl))

-- 0 more
pub add_none : (x : Float) → T (fits binary32 x) → Alike (add binary32 x zero_plus) x
unfolding sub neg
add_none x f = alike_then (add binary32 x zero_plus) (add binary32 x (neg zero_plus)) x (alike_sum x x zero_plus (neg zero_plus) (inl refl) (inr (refl, refl))) (inl (sub-zero x f))

pub same_as : (x y : Float) → Alike x y → (IsZero y → ⊥) → x ≡ y
same_as x y (inl e) z = e
same_as x y (inr p) z = absurd (z p.1)
