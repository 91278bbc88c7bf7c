-- A sum of two floats does not fall where a term rises: rounding keeps the order, whatever the signs. Assumes nothing.
--     sum_rd, rd_order        a sum is the exact fraction (p - n) / c, rounded once, and rounding keeps the order of such fractions
--     add_rises, add_rises'   in the left term, and in the right
--     sub_rises, sub_falls    of a difference: with the left term it rises, with the right one it falls
-- That x is at most y is said as `lt y x ≡ false`, which is so beside a NaN too: so nothing is asked of the terms.
use mathlib.Core.Path.{◌≡◌, refl, sym, ap, ◌∙◌}
use mathlib.Core.Bool.{Bool, true, false, not, cond, ◌&&◌, beq, true≢false}
use Prim.Native.Nat.{ℕ, zero, suc, ◌+◌, ◌-◌, ◌*◌, ◌≤◌, ◌<◌}
use native.Mathlib.Nat.{add-mul, add_comm, mul_comm, mul_right_comm, mul-pos, zero-mul, suc-mul, mul-le-mul_right, le_of_mul-le-mul_right, mul-mul-mul_comm}
use native.Mathlib.Omega.{arith}
use lib.Dec.{T, lit<, ltb, ltb→lt, nltb→le}
use lib.IntN.{pos}
use lib.Ieee.{Float, nan, inf, fin, binary32, up, down, below, round, sum, add, sub, neg, lt, le, of_int, is_nan}
use lib.Ieee.Bits.{is_true}
use lib.Ieee.Fits.{down_pos}
use lib.Ieee.Order.{round_mono}
use lib.Ieee.Scale.{round_same, finite}
use borrow.Author.Tests.{ltb-false, le-ltb}
use Rattle.float32.specs.Meaning.{signed, whole}
use Rattle.float32.proofs.Order.{not_lt_of_le}
use Rattle.exact.proofs.Exact.{round_signed}

-- ---- (p - n) / c, rounded

-- k is p - n, or with a minus sign n - p
abbrev pub Gap : Bool → ℕ → ℕ → ℕ → Type 0
Gap false k p n = p ≡ n + k
Gap true k p n = n ≡ p + k

pub record Rd (y : Float) (p n c : ℕ) : Type 0 where
  pub s : Bool
  pub k : ℕ
  pub is : y ≡ round binary32 s k c
  pub gap : Gap s k p n

-- a with the sign s: what is above 0, and what is below
abbrev pub pl : Bool → ℕ → ℕ
pl false a = a
pl true a = 0

abbrev pub mi : Bool → ℕ → ℕ
mi false a = 0
mi true a = a

pub sum_rd : (s : Bool) (a : ℕ) (t : Bool) (b c : ℕ) → Rd (sum binary32 s a t b c) (pl s a + pl t b) (mi s a + mi t b) c
unfolding sum
sum_rd false a false b c = record { s = false; k = a + b; is = refl; gap = omega arith }
sum_rd true a true b c = record { s = true; k = a + b; is = refl; gap = omega arith }
sum_rd false a true b c = go (ltb a b) (ltb→lt a b) (nltb→le a b)
  where
    go : (u : Bool) → (T u → a < b) → (T (not u) → b ≤ a) → Rd (cond u (round binary32 true (b - a) c) (round binary32 false (a - b) c)) (a + 0) (0 + b) c
    go true h l = record { s = true; k = b - a; is = refl; gap = let q = h tt in omega (arith, q) }
    go false h l = record { s = false; k = a - b; is = refl; gap = let q = l tt in omega (arith, q) }
sum_rd true a false b c = go (ltb a b) (ltb→lt a b) (nltb→le a b) (ltb b a) (ltb→lt b a) (nltb→le b a)
  where
    go : (u : Bool) → (T u → a < b) → (T (not u) → b ≤ a) → (v : Bool) → (T v → b < a) → (T (not v) → a ≤ b)
        → Rd (cond u (round binary32 false (b - a) c) (round binary32 v (a - b) c)) (0 + b) (a + 0) c
    go true h l v x y = record { s = false; k = b - a; is = refl; gap = let q = h tt in omega (arith, q) }
    go false h l true x y = record { s = true; k = a - b; is = refl; gap = let q = l tt in omega (arith, q) }
    go false h l false x y = record { s = false; k = a - b; is = refl; gap = let q = l tt in let r = y tt in omega (arith, q, r) }

-- ---- the order
lt_turned : (x y : Float) → lt (signed true x) (signed true y) ≡ lt (signed false y) (signed false x)
unfolding lt signed
lt_turned nan nan = refl
lt_turned nan (inf t) = refl
lt_turned nan (fin t n d) = refl
lt_turned (inf s) nan = refl
lt_turned (inf s) (inf t) = refl
lt_turned (inf s) (fin t n d) = refl
lt_turned (fin s m e) nan = refl
lt_turned (fin s m e) (inf t) = refl
lt_turned (fin s m e) (fin t n d) = refl

lt_minus : (x y : Float) → lt (signed false x) (signed true y) ≡ false
unfolding lt signed
lt_minus nan y = refl
lt_minus (inf s) nan = refl
lt_minus (inf s) (inf t) = refl
lt_minus (inf s) (fin t n d) = refl
lt_minus (fin s m e) nan = refl
lt_minus (fin s m e) (inf t) = refl
lt_minus (fin s m e) (fin t n d) = refl

zeros : lt (whole true 0) (whole false 0) ≡ false
unfolding round lt
zeros = refl

none : (s : Bool) (k c : ℕ) → 0 < c → k ≡ 0 → round binary32 s k c ≡ whole s 0
none s k c C e = round_same binary32 s k c 0 1 C (lit< tt) (omega arith)

-- a product of whole numbers that is 0
pub nought : (k c : ℕ) → 0 < c → k * c ≤ 0 → k ≡ 0
nought zero c C h = refl
nought (suc k) c C h = let z : suc k * c ≡ k * c + c = suc-mul k c in absurd (omega (arith, z, C, h))

pub rd_order : (y : Float) (p n c : ℕ) (z : Float) (q m d : ℕ) → 0 < c → 0 < d → Rd y p n c → Rd z q m d → p * d + m * c ≤ q * c + n * d → lt z y ≡ false
rd_order y p n c z q m d C D r w l = go r.s r.k r.is r.gap w.s w.k w.is w.gap
  where
    dist : (k u v w : ℕ) → u ≡ v + w → u * k ≡ v * k + w * k
    dist k u v w e = ap (λ (z : ℕ). z * k) e ∙ add-mul v w k

    -- the larger of two sizes is rounded to the larger
    sized : (a b x y : ℕ) → 0 < b → 0 < y → a * y ≤ x * b → lt (round binary32 false x y) (round binary32 false a b) ≡ false
    sized a b x y B Y h =
        not_lt_of_le (round binary32 false a b) (round binary32 false x y) (is_true (le (round binary32 false a b) (round binary32 false x y)) (round_mono binary32 a b x y B Y h))

    go : (s : Bool) (k : ℕ) → y ≡ round binary32 s k c → Gap s k p n → (t : Bool) (j : ℕ) → z ≡ round binary32 t j d → Gap t j q m → lt z y ≡ false
    go false k e g false j f h = rw (e, f) (sized k c j d C D (omega (arith, dist d p n k g, dist c q m j h, l)))
    go true k e g true j f h =
        let o : lt (round binary32 false k c) (round binary32 false j d) ≡ false = sized j d k c D C (omega (arith, dist d n p k g, dist c m q j h, l)) in
        rw (e, f, round_signed true k c, round_signed true j d)
        (lt_turned (round binary32 false j d) (round binary32 false k c)
        ∙ sym (ap (λ (x : Float). lt x (signed false (round binary32 false j d))) (round_signed false k c))
        ∙ sym (ap (λ (x : Float). lt (round binary32 false k c) x) (round_signed false j d)) ∙ o)
    go true k e g false j f h = rw (e, f, round_signed true k c, round_signed false j d) (lt_minus (round binary32 false j d) (round binary32 false k c))
    go false k e g true j f h =
        let o : k * d + j * c ≤ 0 = omega (arith, dist d p n k g, dist c m q j h, l) in
        rw (e, f, none true j d D (nought j c C (omega (arith, o))), none false k c C (nought k d D (omega (arith, o)))) zeros

-- ---- sums
-- ±x and ±y, y not below x
parted : (s t : Bool) (x y : ℕ) → below t y s x ≡ false → pl s x + mi t y ≤ pl t y + mi s x
parted false false x y h = omega (arith, ltb-false y x h)
parted false true x y h = omega (arith, ltb-false 0 (y + x) h)
parted true false x y h = omega arith
parted true true x y h = omega (arith, ltb-false x y h)

-- x / e and y / d, to each of which z / g is added
module _ (s t u : Bool) (x e y d z g : ℕ) where
  pl_times : (s : Bool) (x d : ℕ) → pl s (x * g) * (d * g) ≡ pl s (x * d) * (g * g)
  pl_times false x d = mul-mul-mul_comm x g d g
  pl_times true x d = zero-mul (d * g) ∙ sym (zero-mul (g * g))

  mi_times : (s : Bool) (x d : ℕ) → mi s (x * g) * (d * g) ≡ mi s (x * d) * (g * g)
  mi_times false x d = zero-mul (d * g) ∙ sym (zero-mul (g * g))
  mi_times true x d = mul-mul-mul_comm x g d g

  pl_same : (u : Bool) → pl u (z * e) * (d * g) ≡ pl u (z * d) * (e * g)
  pl_same false = mul-mul-mul_comm z e d g
  pl_same true = zero-mul (d * g) ∙ sym (zero-mul (e * g))

  mi_same : (u : Bool) → mi u (z * e) * (d * g) ≡ mi u (z * d) * (e * g)
  mi_same false = zero-mul (d * g) ∙ sym (zero-mul (e * g))
  mi_same true = mul-mul-mul_comm z e d g

  sum_order : 0 < e → 0 < d → 0 < g → below t (y * e) s (x * d) ≡ false
      → lt (sum binary32 t (y * g) u (z * d) (d * g)) (sum binary32 s (x * g) u (z * e) (e * g)) ≡ false
  sum_order E D G h =
      rd_order (sum binary32 s (x * g) u (z * e) (e * g)) (pl s (x * g) + pl u (z * e)) (mi s (x * g) + mi u (z * e)) (e * g)
      (sum binary32 t (y * g) u (z * d) (d * g)) (pl t (y * g) + pl u (z * d)) (mi t (y * g) + mi u (z * d)) (d * g)
      (mul-pos E G) (mul-pos D G) (sum_rd s (x * g) u (z * e) (e * g)) (sum_rd t (y * g) u (z * d) (d * g))
      (omega (
        arith,
        add-mul (pl s (x * g)) (pl u (z * e)) (d * g),
        add-mul (mi s (x * g)) (mi u (z * e)) (d * g),
        add-mul (pl t (y * g)) (pl u (z * d)) (e * g),
        add-mul (mi t (y * g)) (mi u (z * d)) (e * g),
        pl_times s x d,
        mi_times s x d,
        pl_times t y e,
        mi_times t y e,
        pl_same u,
        mi_same u,
        add-mul (pl s (x * d)) (mi t (y * e)) (g * g),
        add-mul (pl t (y * e)) (mi s (x * d)) (g * g),
        mul-le-mul_right (g * g) (parted s t (x * d) (y * e) h),
      ))

lt_nan : (x : Float) → lt x nan ≡ false
unfolding lt
lt_nan nan = refl
lt_nan (inf s) = refl
lt_nan (fin s m e) = refl

-- nothing lies below the lower infinity, nor above the upper one
lt_bottom : (s : Bool) (x : Float) → not s ≡ false → lt x (inf s) ≡ false
unfolding lt
lt_bottom s nan h = refl
lt_bottom true (inf true) h = refl
lt_bottom true (inf false) h = refl
lt_bottom false (inf t) h = absurd (true≢false h)
lt_bottom s (fin t m e) h = h

lt_top : (s : Bool) (x : Float) → s ≡ false → lt (inf s) x ≡ false
unfolding lt
lt_top s nan h = refl
lt_top s (inf t) h = ap (λ (b : Bool). b && not t) h
lt_top s (fin t m e) h = h

low_rises : (s u : Bool) → not s ≡ false → lt (inf u) (cond (beq s u) (inf s) nan) ≡ false
unfolding lt
low_rises true true h = refl
low_rises true false h = refl
low_rises false u h = absurd (true≢false h)

high_rises : (t u : Bool) → t ≡ false → lt (cond (beq t u) (inf t) nan) (inf u) ≡ false
unfolding lt
high_rises true u h = absurd (true≢false h)
high_rises false true h = refl
high_rises false false h = refl

same_inf : (u : Bool) → (u && not u) ≡ false
same_inf true = refl
same_inf false = refl

-- an infinity more on both sides
inf_rises : (s t u : Bool) → (t && not s) ≡ false → lt (cond (beq t u) (inf t) nan) (cond (beq s u) (inf s) nan) ≡ false
unfolding lt
inf_rises true true true h = refl
inf_rises true true false h = refl
inf_rises true false true h = refl
inf_rises true false false h = refl
inf_rises false true u h = absurd (true≢false h)
inf_rises false false true h = refl
inf_rises false false false h = refl

pub add_rises : (x y c : Float) → lt y x ≡ false → lt (add binary32 y c) (add binary32 x c) ≡ false
unfolding add lt
add_rises nan y c h = lt_nan (add binary32 y c)
add_rises (inf s) nan c h = refl
add_rises (fin s a e) nan c h = refl
add_rises (inf s) (inf t) nan h = refl
add_rises (inf s) (inf t) (inf u) h = inf_rises s t u h
add_rises (inf s) (inf t) (fin u k g) h = h
add_rises (inf s) (fin t b d) nan h = refl
add_rises (inf s) (fin t b d) (inf u) h = low_rises s u h
add_rises (inf s) (fin t b d) (fin u k g) h = lt_bottom s (add binary32 (fin t b d) (fin u k g)) h
add_rises (fin s a e) (inf t) nan h = refl
add_rises (fin s a e) (inf t) (inf u) h = high_rises t u h
add_rises (fin s a e) (inf t) (fin u k g) h = lt_top t (add binary32 (fin s a e) (fin u k g)) h
add_rises (fin s a e) (fin t b d) nan h = refl
add_rises (fin s a e) (fin t b d) (inf u) h = same_inf u
add_rises (fin s a e) (fin t b d) (fin u k g) h =
    sum_order s t u (a * up e) (down e) (b * up d) (down d) (k * up g) (down g) (down_pos e) (down_pos d) (down_pos g) h

-- ---- the terms changed about
sum_swap : (s : Bool) (a : ℕ) (t : Bool) (b c : ℕ) → sum binary32 s a t b c ≡ sum binary32 t b s a c
unfolding sum
sum_swap true a true b c = ap (λ (n : ℕ). round binary32 true n c) (add_comm a b)
sum_swap false a false b c = ap (λ (n : ℕ). round binary32 false n c) (add_comm a b)
sum_swap false a true b c = go (ltb a b) (ltb→lt a b) (nltb→le a b) (ltb b a) (ltb→lt b a) (nltb→le b a)
  where
    go : (u : Bool) → (T u → a < b) → (T (not u) → b ≤ a) → (v : Bool) → (T v → b < a) → (T (not v) → a ≤ b)
        → cond u (round binary32 true (b - a) c) (round binary32 false (a - b) c) ≡ cond v (round binary32 false (a - b) c) (round binary32 u (b - a) c)
    go true h l true x y = let p = h tt in let q = x tt in absurd (omega (arith, p, q))
    go true h l false x y = refl
    go false h l true x y = refl
    go false h l false x y = let p = l tt in let q = y tt in let r : a - b ≡ b - a = omega (arith, p, q) in ap (λ (n : ℕ). round binary32 false n c) r
sum_swap true a false b c = go (ltb a b) (ltb→lt a b) (nltb→le a b) (ltb b a) (ltb→lt b a) (nltb→le b a)
  where
    go : (u : Bool) → (T u → a < b) → (T (not u) → b ≤ a) → (v : Bool) → (T v → b < a) → (T (not v) → a ≤ b)
        → cond u (round binary32 false (b - a) c) (round binary32 v (a - b) c) ≡ cond v (round binary32 true (a - b) c) (round binary32 false (b - a) c)
    go true h l true x y = let p = h tt in let q = x tt in absurd (omega (arith, p, q))
    go true h l false x y = refl
    go false h l true x y = refl
    go false h l false x y = let p = l tt in let q = y tt in let r : a - b ≡ b - a = omega (arith, p, q) in ap (λ (n : ℕ). round binary32 false n c) r

pub add_swap : (x y : Float) → add binary32 x y ≡ add binary32 y x
unfolding add
add_swap nan nan = refl
add_swap nan (inf t) = refl
add_swap nan (fin t n d) = refl
add_swap (inf s) nan = refl
add_swap (inf true) (inf true) = refl
add_swap (inf true) (inf false) = refl
add_swap (inf false) (inf true) = refl
add_swap (inf false) (inf false) = refl
add_swap (inf s) (fin t n d) = refl
add_swap (fin s m e) nan = refl
add_swap (fin s m e) (inf t) = refl
add_swap (fin s m e) (fin t n d) =
    sum_swap s (m * up e * down d) t (n * up d * down e) (down e * down d)
    ∙ ap (λ (c : ℕ). sum binary32 t (n * up d * down e) s (m * up e * down d) c) (mul_comm (down e) (down d))

pub add_rises' : (x y c : Float) → lt y x ≡ false → lt (add binary32 c y) (add binary32 c x) ≡ false
add_rises' x y c h = rw (add_swap c y, add_swap c x) (add_rises x y c h)

-- ---- differences
below_neg : (s t : Bool) (a b : ℕ) → below (not s) a (not t) b ≡ below t b s a
below_neg false false a b = refl
below_neg false true a b = ap (ltb 0) (add_comm a b)
below_neg true false a b = refl
below_neg true true a b = refl

lt_neg : (x y : Float) → lt (neg x) (neg y) ≡ lt y x
unfolding lt neg
lt_neg nan y = sym (lt_nan y)
lt_neg (inf s) nan = refl
lt_neg (inf true) (inf true) = refl
lt_neg (inf true) (inf false) = refl
lt_neg (inf false) (inf true) = refl
lt_neg (inf false) (inf false) = refl
lt_neg (inf s) (fin t n d) = refl
lt_neg (fin s m e) nan = refl
lt_neg (fin s m e) (inf true) = refl
lt_neg (fin s m e) (inf false) = refl
lt_neg (fin s m e) (fin t n d) = below_neg s t (m * up e * down d) (n * up d * down e)

pub sub_rises : (x y c : Float) → lt y x ≡ false → lt (sub binary32 y c) (sub binary32 x c) ≡ false
unfolding sub
sub_rises x y c h = add_rises x y (neg c) h

pub sub_falls : (x y c : Float) → lt y x ≡ false → lt (sub binary32 c x) (sub binary32 c y) ≡ false
unfolding sub
sub_falls x y c h = add_rises' (neg y) (neg x) c (lt_neg x y ∙ h)

-- ---- whole numbers
pub int_rises : (p q : ℕ) → p ≤ q → lt (of_int binary32 (pos q)) (of_int binary32 (pos p)) ≡ false
unfolding of_int
int_rises p q h =
    not_lt_of_le (round binary32 false p 1) (round binary32 false q 1)
    (is_true (le (round binary32 false p 1) (round binary32 false q 1)) (round_mono binary32 p 1 q 1 (lit< tt) (lit< tt) (omega arith)))

-- ---- x at most y and y at most z, for a y that is a number
joined : (s t : Bool) (x y : ℕ) → pl s x + mi t y ≤ pl t y + mi s x → below t y s x ≡ false
joined false false x y h = le-ltb y x (omega arith)
joined false true x y h = le-ltb 0 (y + x) (omega arith)
joined true false x y h = refl
joined true true x y h = le-ltb x y (omega arith)

pl_turn : (s : Bool) (x d g : ℕ) → pl s (x * d) * g ≡ pl s (x * g) * d
pl_turn false x d g = mul_right_comm x d g
pl_turn true x d g = zero-mul g ∙ sym (zero-mul d)

mi_turn : (s : Bool) (x d g : ℕ) → mi s (x * d) * g ≡ mi s (x * g) * d
mi_turn false x d g = zero-mul g ∙ sym (zero-mul d)
mi_turn true x d g = mul_right_comm x d g

-- x / e, y / d and z / g
fin_trans : (s t u : Bool) (x e y d z g : ℕ) → 0 < d → below t (y * e) s (x * d) ≡ false → below u (z * d) t (y * g) ≡ false → below u (z * e) s (x * g) ≡ false
fin_trans s t u x e y d z g D h k =
    joined s u (x * g) (z * e)
    (le_of_mul-le-mul_right (omega (
      arith,
      add-mul (pl s (x * g)) (mi u (z * e)) d,
      add-mul (pl u (z * e)) (mi s (x * g)) d,
      add-mul (pl s (x * d)) (mi t (y * e)) g,
      add-mul (pl t (y * e)) (mi s (x * d)) g,
      add-mul (pl t (y * g)) (mi u (z * d)) e,
      add-mul (pl u (z * d)) (mi t (y * g)) e,
      pl_turn s x d g,
      mi_turn s x d g,
      pl_turn t y e g,
      mi_turn t y e g,
      pl_turn u z d e,
      mi_turn u z d e,
      mul-le-mul_right g (parted s t (x * d) (y * e) h),
      mul-le-mul_right e (parted t u (y * g) (z * d) k),
    )) D)

inf_trans : (s t u : Bool) → (t && not s) ≡ false → (u && not t) ≡ false → (u && not s) ≡ false
inf_trans true t true h k = refl
inf_trans true t false h k = refl
inf_trans false true u h k = absurd (true≢false h)
inf_trans false false u h k = k

-- with an infinity between, one of the others is that infinity
under_inf : (s t : Bool) (z : Float) → (t && not s) ≡ false → lt z (inf t) ≡ false → lt z (inf s) ≡ false
unfolding lt
under_inf s t nan h k = refl
under_inf s t (inf u) h k = inf_trans s t u h k
under_inf true t (fin u c g) h k = refl
under_inf false true (fin u c g) h k = absurd (true≢false h)
under_inf false false (fin u c g) h k = k

over_inf : (t : Bool) (x z : Float) → lt (inf t) x ≡ false → lt z (inf t) ≡ false → T (finite x) → lt z x ≡ false
unfolding lt
over_inf t nan z h k f = absurd f
over_inf t (inf s) z h k f = absurd f
over_inf true (fin s a e) z h k f = absurd (true≢false h)
over_inf false (fin s a e) nan h k f = refl
over_inf false (fin s a e) (inf true) h k f = absurd (true≢false k)
over_inf false (fin s a e) (inf false) h k f = refl
over_inf false (fin s a e) (fin u c g) h k f = absurd (true≢false k)

pub at_most_trans : (x y z : Float) → T (not (is_nan y)) → lt y x ≡ false → lt z y ≡ false → lt z x ≡ false
unfolding lt is_nan
at_most_trans nan y z n h k = lt_nan z
at_most_trans (inf s) nan z n h k = absurd n
at_most_trans (inf s) (inf t) z n h k = under_inf s t z h k
at_most_trans (inf s) (fin t b d) z n h k = lt_bottom s z h
at_most_trans (fin s a e) nan z n h k = absurd n
at_most_trans (fin s a e) (inf t) z n h k = over_inf t (fin s a e) z h k tt
at_most_trans (fin s a e) (fin t b d) nan n h k = refl
at_most_trans (fin s a e) (fin t b d) (inf u) n h k = lt_top u (fin s a e) k
at_most_trans (fin s a e) (fin t b d) (fin u c g) n h k = fin_trans s t u (a * up e) (down e) (b * up d) (down d) (c * up g) (down g) (down_pos d) h k
