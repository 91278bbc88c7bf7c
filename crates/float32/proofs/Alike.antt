-- Two floats that are one number: the same, or both a zero, of whichever sign. What follows doesn't tell such two apart. Assumes nothing.
--     alike_lt, alike_gt, alike_le, alike_ge, alike_nan    comparisons
--     alike_floor, alike_ceil                              floor and ceiling
--     alike_sum, alike_sub                                 sums and differences
--     alike_cast                                           the cast to a whole number
use mathlib.Core.Path.{◌≡◌, refl, sym, ap, ◌∙◌}
use mathlib.Core.Bool.{Bool, true, false, not, ◌&&◌, ◌||◌, beq, cond, true≢false, false≢true}
use mathlib.Core.Logic.{◌⊎◌, inl, inr}
use Prim.Native.Nat.{ℕ, zero, suc, ◌+◌, ◌-◌, ◌*◌, ◌/◌, ◌<◌, zero-le}
use native.Mathlib.Nat.{zero-mul, div-eq_of_lt, mul-pos, mul_assoc, mul_right_comm, zero-lt-suc}
use native.Mathlib.Omega.{arith}
use lib.Dec.{ltb, eqb, lit<}
use lib.IntN.{ℤ, pos}
use lib.Ieee.{Float, nan, inf, fin, binary32, up, down, below, level, round, sum, add, sub, neg, lt, eq, le, is_nan, to_unsigned}
use lib.Ieee.Fits.{up_pos, down_pos}
use lib.Ieee.Scale.{round_same}
use borrow.Author.Tests.{lt-ltb, le-ltb, ne_eqb, eqb-true}
use Rattle.float32.specs.Meaning.{whole, up_div, floor_of, ceil_of, sign_of}
use Rattle.float32.proofs.Tests.{first, second}
use Rattle.float32.proofs.Order.{turned}

-- a zero, of either sign
abbrev pub IsZero : Float → Type 0
IsZero nan = ⊥
IsZero (inf s) = ⊥
IsZero (fin s m e) = m ≡ 0

abbrev pub Alike : Float → Float → Type 0
Alike x y = (x ≡ y) ⊎ (IsZero x × IsZero y)

-- equal floats of unlike signs are zeros
over : (n : ℕ) → 0 < n → n ≡ 0 → ⊥
over n h e = omega arith

nothing : (m a b : ℕ) → 0 < a → 0 < b → m * a * b ≡ 0 → m ≡ 0
nothing zero a b A B h = refl
nothing (suc m) a b A B h = absurd (over (suc m * a * b) (mul-pos (mul-pos (zero-lt-suc m) A) B) h)

pub unlike_zeros : (x y : Float) → eq x y ≡ true → sign_of x ≡ not (sign_of y) → IsZero x × IsZero y
unfolding eq sign_of
unlike_zeros nan y h k = absurd (false≢true h)
unlike_zeros (inf s) nan h k = absurd (false≢true h)
unlike_zeros (inf true) (inf true) h k = absurd (true≢false k)
unlike_zeros (inf true) (inf false) h k = absurd (false≢true h)
unlike_zeros (inf false) (inf true) h k = absurd (false≢true h)
unlike_zeros (inf false) (inf false) h k = absurd (false≢true k)
unlike_zeros (inf s) (fin t n d) h k = absurd (false≢true h)
unlike_zeros (fin s m e) nan h k = absurd (false≢true h)
unlike_zeros (fin s m e) (inf t) h k = absurd (false≢true h)
unlike_zeros (fin s m e) (fin t n d) h k =
    let z : A ≡ 0 = eqb-true A 0 (none_left s t (second (eqb A B) (beq s t || eqb A 0) h) k) in
    (nothing m (up e) (down d) (up_pos e) (down_pos d) z, nothing n (up d) (down e) (up_pos d) (down_pos e) (sym (eqb-true A B (first (eqb A B) (beq s t || eqb A 0) h)) ∙ z))
  where
    A : ℕ
    A = m * up e * down d

    B : ℕ
    B = n * up d * down e

    none_left : (s t : Bool) → (beq s t || eqb A 0) ≡ true → s ≡ not t → eqb A 0 ≡ true
    none_left true true h k = absurd (true≢false k)
    none_left true false h k = h
    none_left false true h k = h
    none_left false false h k = absurd (false≢true k)

pub alike_then : (x y z : Float) → Alike x y → Alike y z → Alike x z
alike_then x y z (inl p) (inl q) = inl (p ∙ q)
alike_then x y z (inl p) (inr q) = inr (rw p q.0, q.1)
alike_then x y z (inr p) (inl q) = inr (p.0, rw q at p.1)
alike_then x y z (inr p) (inr q) = inr (p.0, q.1)

-- whatever is the same of every zero is the same of two that are alike
pub alike_by : {A : Type 0} (f : Float → A) (x y : Float) → (IsZero x → IsZero y → f x ≡ f y) → Alike x y → f x ≡ f y
alike_by f x y h (inl e) = ap f e
alike_by f x y h (inr z) = h z.0 z.1

-- ---- a zero beside ±A / D: what is left of the test is whether A is 0
none : (m a b : ℕ) → m ≡ 0 → m * a * b ≡ 0
none m a b e = ap (λ (z : ℕ). z * a * b) e ∙ ap (λ (z : ℕ). z * b) (zero-mul a) ∙ zero-mul b

some : (A D : ℕ) → 0 < D → ltb 0 (A * D) ≡ ltb 0 A
some zero D h = ap (ltb 0) (zero-mul D)
some (suc A) D h = lt-ltb 0 (suc A * D) (mul-pos (zero-lt-suc A) h) ∙ sym (lt-ltb 0 (suc A) (zero-lt-suc A))

same : (A D : ℕ) → 0 < D → eqb (A * D) 0 ≡ eqb A 0
same zero D h = ap (λ (z : ℕ). eqb z 0) (zero-mul D)
same (suc A) D h = ne_eqb (suc A * D) 0 (λ e. over (suc A * D) (mul-pos (zero-lt-suc A) h) e) ∙ sym (ne_eqb (suc A) 0 (λ e. over (suc A) (zero-lt-suc A) e))

less : (s u : Bool) (A D : ℕ) → 0 < D → below s 0 u (A * D) ≡ (not u && ltb 0 A)
less false false A D h = some A D h
less true false A D h = ap (ltb 0) (plain (A * D)) ∙ some A D h
  where
    plain : (b : ℕ) → 0 + b ≡ b
    plain b = omega arith
less false true A D h = refl
less true true A D h = le-ltb (A * D) 0 zero-le

more : (s u : Bool) (A D : ℕ) → 0 < D → below u (A * D) s 0 ≡ (u && ltb 0 A)
more false false A D h = le-ltb (A * D) 0 zero-le
more true false A D h = refl
more false true A D h = ap (ltb 0) (plain (A * D)) ∙ some A D h
  where
    plain : (b : ℕ) → b + 0 ≡ b
    plain b = omega arith
more true true A D h = some A D h

level_left : (s u : Bool) (A D : ℕ) → 0 < D → level s 0 u (A * D) ≡ eqb A 0
level_left s u A D h = go (eqb 0 (A * D)) (beq s u) ∙ turned 0 (A * D) ∙ same A D h
  where
    go : (t b : Bool) → (t && (b || true)) ≡ t
    go true true = refl
    go true false = refl
    go false b = refl

level_right : (s u : Bool) (A D : ℕ) → 0 < D → level u (A * D) s 0 ≡ eqb A 0
level_right s u A D h = go (eqb (A * D) 0) (beq u s) ∙ same A D h
  where
    go : (t b : Bool) → (t && (b || t)) ≡ t
    go true true = refl
    go true false = refl
    go false b = refl

-- ---- comparisons: every zero compares as +0
abbrev +0 : Float
+0 = fin false 0 (pos 0)

lt_zero : (x e : Float) → IsZero x → lt x e ≡ lt +0 e
unfolding lt
lt_zero nan e z = absurd z
lt_zero (inf s) e z = absurd z
lt_zero (fin s m d) nan z = refl
lt_zero (fin s m d) (inf u) z = refl
lt_zero (fin s m d) (fin u k e) z =
    ap (λ (a : ℕ). below s a u (k * up e * down d)) (none m (up d) (down e) z)
    ∙ less s u (k * up e) (down d) (down_pos d)
    ∙ sym (ap (λ (a : ℕ). below false a u (k * up e * 1)) (none 0 1 (down e) refl) ∙ less false u (k * up e) 1 (lit< tt))

gt_zero : (x e : Float) → IsZero x → lt e x ≡ lt e +0
unfolding lt
gt_zero nan e z = absurd z
gt_zero (inf s) e z = absurd z
gt_zero (fin s m d) nan z = refl
gt_zero (fin s m d) (inf u) z = refl
gt_zero (fin s m d) (fin u k e) z =
    ap (λ (a : ℕ). below u (k * up e * down d) s a) (none m (up d) (down e) z)
    ∙ more s u (k * up e) (down d) (down_pos d)
    ∙ sym (ap (λ (a : ℕ). below u (k * up e * 1) false a) (none 0 1 (down e) refl) ∙ more false u (k * up e) 1 (lit< tt))

eq_left : (x e : Float) → IsZero x → eq x e ≡ eq +0 e
unfolding eq
eq_left nan e z = absurd z
eq_left (inf s) e z = absurd z
eq_left (fin s m d) nan z = refl
eq_left (fin s m d) (inf u) z = refl
eq_left (fin s m d) (fin u k e) z =
    ap (λ (a : ℕ). level s a u (k * up e * down d)) (none m (up d) (down e) z)
    ∙ level_left s u (k * up e) (down d) (down_pos d)
    ∙ sym (ap (λ (a : ℕ). level false a u (k * up e * 1)) (none 0 1 (down e) refl) ∙ level_left false u (k * up e) 1 (lit< tt))

eq_right : (x e : Float) → IsZero x → eq e x ≡ eq e +0
unfolding eq
eq_right nan e z = absurd z
eq_right (inf s) e z = absurd z
eq_right (fin s m d) nan z = refl
eq_right (fin s m d) (inf u) z = refl
eq_right (fin s m d) (fin u k e) z =
    ap (λ (a : ℕ). level u (k * up e * down d) s a) (none m (up d) (down e) z)
    ∙ level_right s u (k * up e) (down d) (down_pos d)
    ∙ sym (ap (λ (a : ℕ). level u (k * up e * 1) false a) (none 0 1 (down e) refl) ∙ level_right false u (k * up e) 1 (lit< tt))

module _ (x y : Float) (h : Alike x y) (e : Float) where
  pub alike_lt : lt x e ≡ lt y e
  alike_lt = alike_by (λ (z : Float). lt z e) x y (λ p q. lt_zero x e p ∙ sym (lt_zero y e q)) h

  pub alike_gt : lt e x ≡ lt e y
  alike_gt = alike_by (λ (z : Float). lt e z) x y (λ p q. gt_zero x e p ∙ sym (gt_zero y e q)) h

  alike_eq : eq x e ≡ eq y e
  alike_eq = alike_by (λ (z : Float). eq z e) x y (λ p q. eq_left x e p ∙ sym (eq_left y e q)) h

  eq_alike : eq e x ≡ eq e y
  eq_alike = alike_by (λ (z : Float). eq e z) x y (λ p q. eq_right x e p ∙ sym (eq_right y e q)) h

  pub alike_le : le x e ≡ le y e
  unfolding le
  alike_le = rw (alike_lt, alike_eq)

  pub alike_ge : le e x ≡ le e y
  unfolding le
  alike_ge = rw (alike_gt, eq_alike)

number : (x : Float) → IsZero x → is_nan x ≡ false
unfolding is_nan
number nan z = absurd z
number (inf s) z = absurd z
number (fin s m e) z = refl

pub alike_nan : (x y : Float) → Alike x y → is_nan x ≡ is_nan y
alike_nan x y = alike_by is_nan x y (λ p q. number x p ∙ sym (number y q))

-- ---- floor and ceiling
zero_up : (m : ℕ) (e : ℤ) → m ≡ 0 → m * up e ≡ 0
zero_up m e z = ap (λ (k : ℕ). k * up e) z ∙ zero-mul (up e)

down_zero : (m : ℕ) (e : ℤ) → m ≡ 0 → m * up e / down e ≡ 0
down_zero m e z = ap (λ (k : ℕ). k / down e) (zero_up m e z) ∙ div-eq_of_lt (down_pos e)

up_zero : (m : ℕ) (e : ℤ) → m ≡ 0 → up_div (m * up e) (down e) ≡ 0
up_zero m e z = ap (λ (k : ℕ). up_div k (down e)) (zero_up m e z) ∙ div-eq_of_lt (under (down e) (down_pos e))
  where
    under : (d : ℕ) → 0 < d → 0 + (d - 1) < d
    under d h = omega arith

zero_whole : (s : Bool) → IsZero (whole s 0)
unfolding round
zero_whole true = refl
zero_whole false = refl

whole_zero : (s : Bool) (n : ℕ) → n ≡ 0 → IsZero (whole s n)
whole_zero s n e = rw e (zero_whole s)

floor_zero : (x : Float) → IsZero x → IsZero (floor_of x)
unfolding floor_of
floor_zero nan z = z
floor_zero (inf s) z = z
floor_zero (fin false m e) z = whole_zero false _ (down_zero m e z)
floor_zero (fin true m e) z = whole_zero true _ (up_zero m e z)

ceil_zero : (x : Float) → IsZero x → IsZero (ceil_of x)
unfolding ceil_of
ceil_zero nan z = z
ceil_zero (inf s) z = z
ceil_zero (fin false m e) z = whole_zero false _ (up_zero m e z)
ceil_zero (fin true m e) z = whole_zero true _ (down_zero m e z)

-- what makes a zero of every zero keeps alike what is alike
keeps : (f : Float → Float) (x y : Float) → ((z : Float) → IsZero z → IsZero (f z)) → Alike x y → Alike (f x) (f y)
keeps f x y h (inl e) = inl (ap f e)
keeps f x y h (inr z) = inr (h x z.0, h y z.1)

module _ (x y : Float) (h : Alike x y) where
  pub alike_floor : Alike (floor_of x) (floor_of y)
  alike_floor = keeps floor_of x y floor_zero h

  pub alike_ceil : Alike (ceil_of x) (ceil_of y)
  alike_ceil = keeps ceil_of x y ceil_zero h

-- ---- sums: beside another number a zero adds nothing, and two zeros make one
round_zero : (s : Bool) (c : ℕ) → 0 < c → IsZero (round binary32 s 0 c)
round_zero s c C = rw (round_same binary32 s 0 c 0 1 C (lit< tt) (omega arith)) (zero_whole s)

two_zeros : (s u : Bool) (c : ℕ) → 0 < c → IsZero (sum binary32 s 0 u 0 c)
unfolding sum
two_zeros false false c C = round_zero false c C
two_zeros true true c C = round_zero true c C
two_zeros false true c C = round_zero false c C
two_zeros true false c C = round_zero false c C

no_more : (b : ℕ) → 0 + b ≡ b
no_more b = omega arith

and_none : (b : ℕ) → b + 0 ≡ b
and_none b = omega arith

less_none : (b : ℕ) → b - 0 ≡ b
less_none b = omega arith

zero_plus : (s u : Bool) (b c : ℕ) → 0 < b → sum binary32 s 0 u b c ≡ round binary32 u b c
unfolding sum
zero_plus false false b c h = rw (no_more b)
zero_plus true true b c h = rw (no_more b)
zero_plus false true b c h = rw (lt-ltb 0 b h, less_none b)
zero_plus true false b c h = rw (lt-ltb 0 b h, less_none b)

plus_zero : (s u : Bool) (b c : ℕ) → 0 < b → sum binary32 u b s 0 c ≡ round binary32 u b c
unfolding sum
plus_zero false false b c h = rw (and_none b)
plus_zero true true b c h = rw (and_none b)
plus_zero false true b c h = rw (le-ltb b 0 zero-le, lt-ltb 0 b h, less_none b)
plus_zero true false b c h = rw (le-ltb b 0 zero-le, less_none b)

zero-add : (x : Float) (u : Bool) (k : ℕ) (e : ℤ) → IsZero x → add binary32 x (fin u (suc k) e) ≡ round binary32 u (suc k * up e) (down e)
unfolding add
zero-add nan u k e z = absurd z
zero-add (inf s) u k e z = absurd z
zero-add (fin s m d) u k e z =
    ap (λ (a : ℕ). sum binary32 s a u (suc k * up e * down d) (down d * down e)) (none m (up d) (down e) z)
    ∙ zero_plus s u (suc k * up e * down d) (down d * down e) (mul-pos (mul-pos (zero-lt-suc k) (up_pos e)) (down_pos d))
    ∙ round_same binary32 u (suc k * up e * down d) (down d * down e) (suc k * up e) (down e) (mul-pos (down_pos d) (down_pos e)) (down_pos e)
    (mul_assoc (suc k * up e) (down d) (down e))

add-zero : (x : Float) (u : Bool) (k : ℕ) (e : ℤ) → IsZero x → add binary32 (fin u (suc k) e) x ≡ round binary32 u (suc k * up e) (down e)
unfolding add
add-zero nan u k e z = absurd z
add-zero (inf s) u k e z = absurd z
add-zero (fin s m d) u k e z =
    ap (λ (a : ℕ). sum binary32 u (suc k * up e * down d) s a (down e * down d)) (none m (up d) (down e) z)
    ∙ plus_zero s u (suc k * up e * down d) (down e * down d) (mul-pos (mul-pos (zero-lt-suc k) (up_pos e)) (down_pos d))
    ∙ round_same binary32 u (suc k * up e * down d) (down e * down d) (suc k * up e) (down e) (mul-pos (down_pos e) (down_pos d)) (down_pos e)
    (mul_right_comm (suc k * up e) (down d) (down e) ∙ mul_assoc (suc k * up e) (down e) (down d))

zeros_add : (x y : Float) → IsZero x → IsZero y → IsZero (add binary32 x y)
unfolding add
zeros_add nan y p q = absurd p
zeros_add (inf s) y p q = absurd p
zeros_add (fin s m d) nan p q = absurd q
zeros_add (fin s m d) (inf t) p q = absurd q
zeros_add (fin s m d) (fin t n e) p q = rw (none m (up d) (down e) p, none n (up e) (down d) q) (two_zeros s t (down d * down e) (mul-pos (down_pos d) (down_pos e)))

zeros_left : (x y w : Float) → IsZero x → IsZero y → Alike (add binary32 x w) (add binary32 y w)
unfolding add
zeros_left nan y w p q = absurd p
zeros_left (inf s) y w p q = absurd p
zeros_left (fin s m d) nan w p q = absurd q
zeros_left (fin s m d) (inf t) w p q = absurd q
zeros_left (fin s m d) (fin t n c) nan p q = inl refl
zeros_left (fin s m d) (fin t n c) (inf u) p q = inl refl
zeros_left (fin s m d) (fin t n c) (fin u zero e) p q = inr (zeros_add (fin s m d) (fin u zero e) p refl, zeros_add (fin t n c) (fin u zero e) q refl)
zeros_left (fin s m d) (fin t n c) (fin u (suc k) e) p q = inl (zero-add (fin s m d) u k e p ∙ sym (zero-add (fin t n c) u k e q))

zeros_right : (x y w : Float) → IsZero x → IsZero y → Alike (add binary32 w x) (add binary32 w y)
unfolding add
zeros_right nan y w p q = absurd p
zeros_right (inf s) y w p q = absurd p
zeros_right (fin s m d) nan w p q = absurd q
zeros_right (fin s m d) (inf t) w p q = absurd q
zeros_right (fin s m d) (fin t n c) nan p q = inl refl
zeros_right (fin s m d) (fin t n c) (inf u) p q = inl refl
zeros_right (fin s m d) (fin t n c) (fin u zero e) p q = inr (zeros_add (fin u zero e) (fin s m d) refl p, zeros_add (fin u zero e) (fin t n c) refl q)
zeros_right (fin s m d) (fin t n c) (fin u (suc k) e) p q = inl (add-zero (fin s m d) u k e p ∙ sym (add-zero (fin t n c) u k e q))

pub alike_sum : (x y u v : Float) → Alike x y → Alike u v → Alike (add binary32 x u) (add binary32 y v)
alike_sum x y u v h k = alike_then (add binary32 x u) (add binary32 y u) (add binary32 y v) (left h) (right k)
  where
    left : Alike x y → Alike (add binary32 x u) (add binary32 y u)
    left (inl e) = inl (ap (λ (z : Float). add binary32 z u) e)
    left (inr z) = zeros_left x y u z.0 z.1

    right : Alike u v → Alike (add binary32 y u) (add binary32 y v)
    right (inl e) = inl (ap (add binary32 y) e)
    right (inr z) = zeros_right u v y z.0 z.1

neg_zero : (x : Float) → IsZero x → IsZero (neg x)
unfolding neg
neg_zero nan z = z
neg_zero (inf s) z = z
neg_zero (fin s m e) z = z

pub alike_sub : (x y u v : Float) → Alike x y → Alike u v → Alike (sub binary32 x u) (sub binary32 y v)
unfolding sub
alike_sub x y u v h k = alike_sum x y (neg u) (neg v) h (keeps neg u v neg_zero k)

-- ---- the cast, and a choice
cast_zero : (x : Float) → IsZero x → to_unsigned 32 x ≡ 0
unfolding to_unsigned
cast_zero nan z = absurd z
cast_zero (inf s) z = absurd z
cast_zero (fin true m e) z = refl
cast_zero (fin false m e) z = rw (down_zero m e z)

pub alike_cast : (x y : Float) → Alike x y → to_unsigned 32 x ≡ to_unsigned 32 y
alike_cast x y = alike_by (to_unsigned 32) x y (λ p q. cast_zero x p ∙ sym (cast_zero y q))

pub alike_choice : (t : Bool) (z x y : Float) → Alike x y → Alike (cond t z x) (cond t z y)
alike_choice true z x y h = inl refl
alike_choice false z x y h = h
