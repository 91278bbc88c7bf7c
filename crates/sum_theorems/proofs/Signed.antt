-- Floats of either sign as whole numbers of parts, 2 ^ -149 each. Assumes nothing.
--     own_at             a finite `f32` is p parts, or n parts below 0
--     add_rd, mul_rd     a sum and a product are the exact fraction (p - n) / c, rounded once
--     at_order           the order of two floats is that of their parts
use mathlib.Core.Path.{◌≡◌, refl, sym, ap, ◌∙◌, subst}
use mathlib.Core.Bool.{Bool, true, false, not, true≢false}
use Prim.Native.Nat.{ℕ, suc, zero, ◌+◌, ◌-◌, ◌*◌, ◌≤◌, ◌<◌}
use native.Mathlib.Nat.{le_of_eq, add-mul, mul_assoc, mul_comm, mul-pos, zero-mul, mul_right_comm, le_of_mul-le-mul_right}
use native.Mathlib.Omega.{arith}
use lib.Dec.{T}
use lib.IntN.{ℤ}
use lib.Ieee.{Float, nan, inf, fin, binary32, up, down, round, sum, add, sub, mul, neg, lt, fits, is_nan}
use lib.Ieee.Fits.{down_pos}
use lib.Ieee.Order.{transfer}
use lib.Ieee.Scale.{round_same, finite}
use borrow.Author.Tests.{ltb-false}
use Rattle.float32.specs.Meaning.{abs_of, sign_of}
use Rattle.float32.proofs.Same.{round_own}
use Rattle.float32.proofs.Whole.{round_no_nan}
use Rattle.rounded.proofs.Rises.{Gap, Rd, pl, mi, sum_rd, nought, rd_order}
use Rattle.errors.specs.Sizes.{parts}
use Rattle.errors.proofs.Sizes.{abs_round}
use Rattle.errors.proofs.Parts.{parts_pos, own_parts}

-- x is finite, p parts where its sign is plus, and n parts below 0 where it is minus
abbrev pub At : Float → ℕ → ℕ → Type 0
At nan p n = ⊥
At (inf s) p n = ⊥
At (fin false m e) p n = (m * up e * parts ≡ p * down e) × (n ≡ 0)
At (fin true m e) p n = (m * up e * parts ≡ n * down e) × (p ≡ 0)

pub record Place (x : Float) : Type 0 where
  pub p : ℕ
  pub n : ℕ
  pub at : At x p n

fits_sign : (s t : Bool) (m : ℕ) (e : ℤ) → T (fits binary32 (fin s m e)) → T (fits binary32 (fin t m e))
unfolding fits
fits_sign s t zero e h = h
fits_sign s t (suc m) e h = h

pub own_at : (x : Float) → T (fits binary32 x) → T (finite x) → Place x
own_at nan h f = absurd f
own_at (inf s) h f = absurd f
own_at (fin false m e) h f = let w = own_parts (fin false m e) h tt (unfold sign_of in refl) in record { p = w.0; n = 0; at = (w.1.1, refl) }
own_at (fin true m e) h f =
    let w = own_parts (fin false m e) (fits_sign true false m e h) tt (unfold sign_of in refl) in
    record { p = 0; n = w.0; at = (w.1.1, refl) }

-- ---- (p - n) / c, rounded: `Rd` of coverage's Rises.antt, by which rounding keeps the order
-- over another denominator
scaled : (y : Float) (p n c q m d : ℕ) → 0 < c → 0 < d → p * d ≡ q * c → n * d ≡ m * c → Rd y p n c → Rd y q m d
scaled y p n c q m d C D h l r = go r.s r.k r.is r.gap
  where
    times : (u v w : ℕ) → u ≡ v + w → u * d ≡ v * d + w * d
    times u v w e = ap (λ (z : ℕ). z * d) e ∙ add-mul v w d

    -- u, v over c and u', v' over d
    apart : (u v w u' v' : ℕ) → u * d ≡ u' * c → v * d ≡ v' * c → u ≡ v + w → (u' ≡ v' + (u' - v')) × (w * d ≡ (u' - v') * c)
    apart u v w u' v' a b e =
        let t = times u v w e in
        let g : v' ≤ u' = le_of_mul-le-mul_right (omega (arith, a, b, t)) C in
        let k : u' ≡ v' + (u' - v') = omega arith in
        let j : u' * c ≡ v' * c + (u' - v') * c = ap (λ (z : ℕ). z * c) k ∙ add-mul v' (u' - v') c in
        (k, omega (arith, a, b, t, j))

    go : (s : Bool) (k : ℕ) → y ≡ round binary32 s k c → Gap s k p n → Rd y q m d
    go false k e g = let w = apart p n k q m h l g in record { s = false; k = q - m; is = e ∙ round_same binary32 false k c (q - m) d C D w.1; gap = w.0 }
    go true k e g = let w = apart n p k m q l h g in record { s = true; k = m - q; is = e ∙ round_same binary32 true k c (m - q) d C D w.1; gap = w.0 }

-- one of the terms of a sum, in parts
more : (a d k q : ℕ) → a * parts ≡ q * d → a * k * parts ≡ q * (d * k)
more a d k q h = mul_right_comm a k parts ∙ ap (λ (z : ℕ). z * k) h ∙ mul_assoc q d k

none : (q d : ℕ) → q ≡ 0 → 0 * parts ≡ q * d
none q d h = zero-mul parts ∙ sym (ap (λ (z : ℕ). z * d) h ∙ zero-mul d)

pl_at : (s : Bool) (m : ℕ) (e : ℤ) (k p n : ℕ) → At (fin s m e) p n → pl s (m * up e * k) * parts ≡ p * (down e * k)
pl_at false m e k p n h = more (m * up e) (down e) k p h.0
pl_at true m e k p n h = none p (down e * k) h.1

mi_at : (s : Bool) (m : ℕ) (e : ℤ) (k p n : ℕ) → At (fin s m e) p n → mi s (m * up e * k) * parts ≡ n * (down e * k)
mi_at false m e k p n h = none n (down e * k) h.1
mi_at true m e k p n h = more (m * up e) (down e) k n h.0

both : (a b p q x y : ℕ) → a * parts ≡ p * (x * y) → b * parts ≡ q * (y * x) → (a + b) * parts ≡ (p + q) * (x * y)
both a b p q x y h l = add-mul a b parts ∙ ap (λ (z : ℕ). z + b * parts) h ∙ ap (λ (z : ℕ). p * (x * y) + z) (l ∙ ap (λ (z : ℕ). q * z) (mul_comm y x)) ∙ sym (add-mul p q (x * y))

pub add_rd : (x y : Float) (p n q m : ℕ) → At x p n → At y q m → Rd (add binary32 x y) (p + q) (n + m) parts
unfolding add
add_rd nan y p n q m h k = absurd h
add_rd (inf s) y p n q m h k = absurd h
add_rd (fin s a e) nan p n q m h k = absurd k
add_rd (fin s a e) (inf t) p n q m h k = absurd k
add_rd (fin s a e) (fin t b d) p n q m h k =
    scaled (sum binary32 s (a * up e * down d) t (b * up d * down e) (down e * down d)) _ _ (down e * down d) (p + q) (n + m) parts
    (mul-pos (down_pos e) (down_pos d)) parts_pos
    (both (pl s (a * up e * down d)) (pl t (b * up d * down e)) p q (down e) (down d) (pl_at s a e (down d) p n h) (pl_at t b d (down e) q m k))
    (both (mi s (a * up e * down d)) (mi t (b * up d * down e)) n m (down e) (down d) (mi_at s a e (down d) p n h) (mi_at t b d (down e) q m k))
    (sum_rd s (a * up e * down d) t (b * up d * down e) (down e * down d))

pub neg_at : (x : Float) (p n : ℕ) → At x p n → At (neg x) n p
unfolding neg
neg_at nan p n h = h
neg_at (inf s) p n h = h
neg_at (fin false m e) p n h = h
neg_at (fin true m e) p n h = h

pub sub_rd : (x y : Float) (p n q m : ℕ) → At x p n → At y q m → Rd (sub binary32 x y) (p + m) (n + q) parts
unfolding sub
sub_rd x y p n q m h k = add_rd x (neg y) p n m q h (neg_at y q m k)

-- a float that an `f32` holds is its own rounding
pub own_rd : (x : Float) (p n : ℕ) → T (fits binary32 x) → At x p n → Rd x p n parts
own_rd nan p n f h = absurd h
own_rd (inf s) p n f h = absurd h
own_rd (fin false m e) p n f h = record {
  s = false;
  k = p;
  is = sym (round_same binary32 false p parts (m * up e) (down e) parts_pos (down_pos e) (sym h.0) ∙ round_own false m e f);
  gap = omega (arith, h.1);
}
own_rd (fin true m e) p n f h = record {
  s = true;
  k = n;
  is = sym (round_same binary32 true n parts (m * up e) (down e) parts_pos (down_pos e) (sym h.0) ∙ round_own true m e f);
  gap = omega (arith, h.1);
}

-- ---- the order
pub at_order : (x y : Float) (p n q m : ℕ) → At x p n → At y q m → lt y x ≡ false → p + m ≤ q + n
unfolding lt
at_order nan y p n q m h k l = absurd h
at_order (inf s) y p n q m h k l = absurd h
at_order (fin s a e) nan p n q m h k l = absurd k
at_order (fin s a e) (inf t) p n q m h k l = absurd k
at_order (fin false a e) (fin false b d) p n q m h k l =
    let c : a * up e * down d ≤ b * up d * down e = ltb-false (b * up d * down e) (a * up e * down d) l in
    let o : p ≤ q = le_of_mul-le-mul_right (transfer p q parts parts (a * up e) (b * up d) (down e) (down d) (down_pos e) (down_pos d) (sym h.0) (sym k.0) c) parts_pos in
    omega (arith, o, h.1, k.1)
at_order (fin true a e) (fin true b d) p n q m h k l =
    let c : b * up d * down e ≤ a * up e * down d = ltb-false (a * up e * down d) (b * up d * down e) l in
    let o : m ≤ n = le_of_mul-le-mul_right (transfer m n parts parts (b * up d) (a * up e) (down d) (down e) (down_pos d) (down_pos e) (sym k.0) (sym h.0) c) parts_pos in
    omega (arith, o, h.1, k.1)
at_order (fin true a e) (fin false b d) p n q m h k l = omega (arith, h.1, k.1)
at_order (fin false a e) (fin true b d) p n q m h k l =
    let o : b * up d * down e + a * up e * down d ≤ 0 = ltb-false 0 (b * up d * down e + a * up e * down d) l in
    let u : a * up e ≡ 0 = nought (a * up e) (down d) (down_pos d) (omega (arith, o)) in
    let v : b * up d ≡ 0 = nought (b * up d) (down e) (down_pos e) (omega (arith, o)) in
    let i : p ≡ 0 = nought p (down e) (down_pos e) (le_of_eq (sym h.0 ∙ ap (λ (z : ℕ). z * parts) u ∙ zero-mul parts)) in
    let j : m ≡ 0 = nought m (down d) (down_pos d) (le_of_eq (sym k.0 ∙ ap (λ (z : ℕ). z * parts) v ∙ zero-mul parts)) in
    omega (arith, i, j)

-- what isn't below 0 has no parts below it, and the other way round
pub at_plus : (x : Float) (p n : ℕ) → At x p n → n ≤ p → n ≡ 0
at_plus nan p n h l = absurd h
at_plus (inf s) p n h l = absurd h
at_plus (fin false m e) p n h l = h.1
at_plus (fin true m e) p n h l = omega (arith, h.1, l)

pub at_minus : (x : Float) (p n : ℕ) → At x p n → p ≤ n → p ≡ 0
at_minus nan p n h l = absurd h
at_minus (inf s) p n h l = absurd h
at_minus (fin false m e) p n h l = omega (arith, h.1, l)
at_minus (fin true m e) p n h l = h.1

-- ---- products
times : (a d b e p q : ℕ) → a * parts ≡ p * d → b * parts ≡ q * e → a * b * (parts * parts) ≡ p * q * (d * e)
times a d b e p q h k = swap a b parts parts ∙ ap (λ (z : ℕ). z * (b * parts)) h ∙ ap (λ (z : ℕ). p * d * z) k ∙ swap p d q e
  where
    swap : (a b c d : ℕ) → a * b * (c * d) ≡ a * c * (b * d)
    swap a b c d = native.Mathlib.Nat.mul-mul-mul_comm a b c d

pub mul_rd : (x y : Float) (p n q m : ℕ) → At x p n → At y q m → Rd (mul binary32 x y) (p * q + n * m) (p * m + n * q) (parts * parts)
unfolding mul
mul_rd nan y p n q m h k = absurd h
mul_rd (inf s) y p n q m h k = absurd h
mul_rd (fin s a e) nan p n q m h k = absurd k
mul_rd (fin s a e) (inf t) p n q m h k = absurd k
mul_rd (fin false a e) (fin false b d) p n q m h k = record {
  s = false;
  k = p * q;
  is = round_same binary32 false (a * up e * (b * up d)) (down e * down d) (p * q) (parts * parts) (mul-pos (down_pos e) (down_pos d)) (mul-pos parts_pos parts_pos)
      (times (a * up e) (down e) (b * up d) (down d) p q h.0 k.0);
  gap = rw (h.1, k.1) (omega arith);
}
mul_rd (fin true a e) (fin true b d) p n q m h k = record {
  s = false;
  k = n * m;
  is = round_same binary32 false (a * up e * (b * up d)) (down e * down d) (n * m) (parts * parts) (mul-pos (down_pos e) (down_pos d)) (mul-pos parts_pos parts_pos)
      (times (a * up e) (down e) (b * up d) (down d) n m h.0 k.0);
  gap = rw (h.1, k.1) (omega arith);
}
mul_rd (fin false a e) (fin true b d) p n q m h k = record {
  s = true;
  k = p * m;
  is = round_same binary32 true (a * up e * (b * up d)) (down e * down d) (p * m) (parts * parts) (mul-pos (down_pos e) (down_pos d)) (mul-pos parts_pos parts_pos)
      (times (a * up e) (down e) (b * up d) (down d) p m h.0 k.0);
  gap = rw (h.1, k.1) (omega arith);
}
mul_rd (fin true a e) (fin false b d) p n q m h k = record {
  s = true;
  k = n * q;
  is = round_same binary32 true (a * up e * (b * up d)) (down e * down d) (n * q) (parts * parts) (mul-pos (down_pos e) (down_pos d)) (mul-pos parts_pos parts_pos)
      (times (a * up e) (down e) (b * up d) (down d) n q h.0 k.0);
  gap = rw (h.1, k.1) (omega arith);
}

-- ---- what is rounded
pub rd_number : (y : Float) (p n c : ℕ) → Rd y p n c → T (not (is_nan y))
rd_number y p n c r = subst (λ (x : Float). T (not (is_nan x))) (sym r.is) (round_no_nan r.s r.k c)

pub rd_abs : (y : Float) (p n c : ℕ) → Rd y p n c → n ≤ p → abs_of y ≡ round binary32 false (p - n) c
rd_abs y p n c r l = ap abs_of r.is ∙ abs_round r.s r.k c ∙ ap (λ (z : ℕ). round binary32 false z c) (size r.s r.k r.gap)
  where
    size : (s : Bool) (k : ℕ) → Gap s k p n → k ≡ p - n
    size false k g = omega (arith, g, l)
    size true k g = omega (arith, g, l)

-- the size, whichever of p and n is the larger
pub rd_size : (y : Float) (p n c : ℕ) → Rd y p n c → abs_of y ≡ round binary32 false (p - n + (n - p)) c
rd_size y p n c r = ap abs_of r.is ∙ abs_round r.s r.k c ∙ ap (λ (z : ℕ). round binary32 false z c) (size r.s r.k r.gap)
  where
    size : (s : Bool) (k : ℕ) → Gap s k p n → k ≡ p - n + (n - p)
    size false k g = omega (arith, g)
    size true k g = omega (arith, g)

between_finite : (lo y hi : Float) → T (finite lo) → T (finite hi) → T (not (is_nan y)) → lt y lo ≡ false → lt hi y ≡ false → T (finite y)
unfolding lt is_nan
between_finite lo nan hi f g n a b = absurd n
between_finite nan (inf s) hi f g n a b = absurd f
between_finite (inf t) (inf s) hi f g n a b = absurd f
between_finite (fin t m e) (inf true) hi f g n a b = absurd (true≢false a)
between_finite (fin t m e) (inf false) nan f g n a b = absurd g
between_finite (fin t m e) (inf false) (inf u) f g n a b = absurd g
between_finite (fin t m e) (inf false) (fin u k d) f g n a b = absurd (true≢false b)
between_finite lo (fin s m e) hi f g n a b = tt

at_finite : (x : Float) (p n : ℕ) → At x p n → T (finite x)
at_finite nan p n h = absurd h
at_finite (inf s) p n h = absurd h
at_finite (fin s m e) p n h = tt

-- y is finite, and lies from low to high
pub record Between (y : Float) (pl nl ph nh : ℕ) : Type 0 where
  pub p : ℕ
  pub n : ℕ
  pub at : At y p n
  pub low : pl + n ≤ p + nl
  pub high : p + nh ≤ ph + n

-- what is rounded stays between two floats that the fraction lies between
pub squeeze : (y : Float) (p n c : ℕ) (lo : Float) (a b : ℕ) (hi : Float) (i j : ℕ) → 0 < c → T (fits binary32 y) → T (fits binary32 lo) → T (fits binary32 hi) → At lo a b → At hi i j
    → Rd y p n c → a * c + n * parts ≤ p * parts + b * c → p * parts + j * c ≤ i * c + n * parts → Between y a b i j
squeeze y p n c lo a b hi i j C fy fl fh hl hh r u v =
    let l : lt y lo ≡ false = rd_order lo a b parts y p n c parts_pos C (own_rd lo a b fl hl) r u in
    let k : lt hi y ≡ false = rd_order y p n c hi i j parts C parts_pos r (own_rd hi i j fh hh) v in
    let w = own_at y fy (between_finite lo y hi (at_finite lo a b hl) (at_finite hi i j hh) (rd_number y p n c r) l k) in
    record {
      p = w.p;
      n = w.n;
      at = w.at;
      low = at_order lo y a b w.p w.n hl w.at l;
      high = at_order y hi w.p w.n i j w.at hh k;
    }
