-- `min` and `max`: what callers may use of them. Which of two zeros they give, only the laws from `zeros` on say.
-- Beside this file only the proofs of the two functions open the definitions. Assumes nothing.
--     min_picks, max_picks                         the result is one of the two
--     min_of_nan, min_with_nan, max_of_nan, ..     the other one where one is a NaN
--     min_left, min_right, max_left, max_right     the bounds
--     min_first, min_second, max_first, ..         where one lies below the other
--     min_apart, max_apart                         of two that aren't equal
--     min_same                                     of a number and itself
--     min_alike, max_alike                         a choice by `<` alone gives the same number, up to the sign of a zero
--     zeros                                        of two zeros
--     min_plus, min_minus, max_plus, max_minus     of two that are equal
--     min_last, max_last                           beside a number that is no zero, and beside +0, one comparison chooses
use mathlib.Core.Path.{◌≡◌, refl, sym, ap, ◌∙◌, subst}
use mathlib.Core.Bool.{Bool, true, false, not, ◌&&◌, ◌||◌, cond, true≢false, false≢true}
use mathlib.Core.Logic.{◌⊎◌, inl, inr, ⊎_elim}
use lib.Dec.{T}
use lib.IntN.{pos}
use lib.Ieee.{Float, nan, inf, fin, binary32, lt, eq, le, ne, is_nan, fits}
use lib.Ieee.Bits.{is_false}
use Rattle.float32.specs.Meaning.{sign_of, under, min_of, max_of}
use Rattle.float32.proofs.Tests.{nan_test, no}
use Rattle.float32.proofs.Alike.{IsZero, Alike, unlike_zeros}
use Rattle.float32.proofs.Same.{same_sign}
use Rattle.float32.proofs.Order.{le_self, le_left, le_right, le_of_not_lt, not_lt_of_le, eq_not_lt, eq_not_gt}

pub le_of_lt : (x y : Float) → lt x y ≡ true → le x y ≡ true
unfolding le
le_of_lt x y h = rw h

-- ---- the order with -0 below +0, beside `<` and `<=`
under_le : (x y : Float) → under x y ≡ true → le x y ≡ true
unfolding le
under_le x y = go (lt x y) (eq x y) (sign_of x && not (sign_of y))
  where
    go : (l e s : Bool) → (l || (e && s)) ≡ true → (l || e) ≡ true
    go true e s h = refl
    go false true s h = refl
    go false false s h = h

under_lt : (x y : Float) → under x y ≡ false → lt x y ≡ false
under_lt x y = go (lt x y) (eq x y && (sign_of x && not (sign_of y)))
  where
    go : (l r : Bool) → (l || r) ≡ false → l ≡ false
    go true r h = h
    go false r h = refl

under_not : (x y : Float) → lt x y ≡ false → eq x y ≡ false → under x y ≡ false
under_not x y l e = rw (l, e)

above : (x y : Float) → lt x y ≡ true → eq y x ≡ false
above x y h = go (eq y x) refl
  where
    go : (t : Bool) → eq y x ≡ t → t ≡ false
    go true e = absurd (true≢false (sym h ∙ eq_not_gt y x e))
    go false e = refl

-- ---- both definitions are one choice: b where a is a NaN or the test says so, else a
abbrev pick : Bool → Float → Float → Float
pick t a b = cond (is_nan a) b (cond t b a)

module _ (a b : Float) where
  picks_second : (t : Bool) → t ≡ true → b ≡ pick t a b
  picks_second t e = rw e (go (is_nan a))
    where
      go : (n : Bool) → b ≡ cond n b b
      go true = refl
      go false = refl

  picks_left : (t : Bool) → t ≡ false → is_nan a ≡ false → pick t a b ≡ a
  picks_left t l n = rw (n, l)

  picks_one : (t : Bool) → (pick t a b ≡ a) ⊎ (pick t a b ≡ b)
  picks_one t = go (is_nan a) t
    where
      go : (n t : Bool) → (cond n b (cond t b a) ≡ a) ⊎ (cond n b (cond t b a) ≡ b)
      go true t = inr refl
      go false true = inr refl
      go false false = inl refl

  -- whatever holds of both holds of the choice; of a NaN a nothing is asked
  picks_all : (P : Float → Type 0) (t : Bool) → (is_nan a ≡ false → t ≡ false → P a) → (t ≡ true → P b) → (is_nan a ≡ true → P b) → P (pick t a b)
  picks_all P t f g h = go (is_nan a) refl t refl
    where
      go : (n : Bool) → is_nan a ≡ n → (u : Bool) → t ≡ u → P (cond n b (cond u b a))
      go true e u k = h e
      go false e true k = g k
      go false e false k = f e k

-- ---- the result is one of the two
pub min_picks : (a b : Float) → (min_of a b ≡ a) ⊎ (min_of a b ≡ b)
unfolding min_of
min_picks a b = picks_one a b (under b a)

pub max_picks : (a b : Float) → (max_of a b ≡ a) ⊎ (max_of a b ≡ b)
unfolding max_of
max_picks a b = picks_one a b (under a b)

pub min_same : (a : Float) → min_of a a ≡ a
min_same a = ⊎_elim (λ e. e) (λ e. e) (min_picks a a)

-- ---- the other one where one is a NaN
pub min_of_nan : (a b : Float) → is_nan a ≡ true → min_of a b ≡ b
unfolding min_of
min_of_nan a b e = rw e

pub max_of_nan : (a b : Float) → is_nan a ≡ true → max_of a b ≡ b
unfolding max_of
max_of_nan a b e = rw e

pub min_with_nan : (a : Float) → min_of a nan ≡ a
unfolding min_of is_nan lt eq
min_with_nan nan = refl
min_with_nan (inf s) = refl
min_with_nan (fin s m e) = refl

pub max_with_nan : (a : Float) → max_of a nan ≡ a
unfolding max_of is_nan lt eq
max_with_nan nan = refl
max_with_nan (inf s) = refl
max_with_nan (fin s m e) = refl

-- ---- where one lies below the other
pub min_second : (a b : Float) → lt b a ≡ true → min_of a b ≡ b
unfolding min_of
min_second a b h = sym (picks_second a b (under b a) (rw h))

pub max_second : (a b : Float) → lt a b ≡ true → max_of a b ≡ b
unfolding max_of
max_second a b h = sym (picks_second a b (under a b) (rw h))

pub min_first : (a b : Float) → lt a b ≡ true → min_of a b ≡ a
unfolding min_of
min_first a b h = let l = le_of_lt a b h in picks_left a b (under b a) (under_not b a (not_lt_of_le a b l) (above a b h)) (is_false (is_nan a) (le_left a b l))

pub max_first : (a b : Float) → lt b a ≡ true → max_of a b ≡ a
unfolding max_of
max_first a b h =
    let l = le_of_lt b a h in
    let n : eq a b ≡ false = above b a h in
    picks_left a b (under a b) (under_not a b (not_lt_of_le b a l) n) (is_false (is_nan a) (le_right b a l))

-- of two that differ, or of a number and a NaN, `<` chooses
apart : (x y u v : Float) → eq x y ≡ false → cond (under x y) u v ≡ cond (lt x y) u v
apart x y u v e = rw e (go (lt x y) (sign_of x && not (sign_of y)))
  where
    go : (l s : Bool) → cond (l || (false && s)) u v ≡ cond l u v
    go true s = refl
    go false s = refl

pub min_apart : (a b : Float) → ne a a ≡ false → eq b a ≡ false → min_of a b ≡ cond (lt b a) b a
unfolding min_of
min_apart a b n e = rw (sym (nan_test a) ∙ n) (apart b a b a e)

pub max_apart : (a b : Float) → ne a a ≡ false → eq a b ≡ false → max_of a b ≡ cond (lt a b) b a
unfolding max_of
max_apart a b n e = rw (sym (nan_test a) ∙ n) (apart a b b a e)

-- ---- the bounds
clash : {b : Bool} → T (not b) → b ≡ true → ⊥
clash n e = subst (λ (t : Bool). T (not t)) e n

pub min_left : (a b : Float) → T (not (is_nan a)) → le (min_of a b) a ≡ true
unfolding min_of
min_left a b n = picks_all a b (λ (y : Float). le y a ≡ true) (under b a) (λ e l. le_self a n) (λ l. under_le b a l) (λ e. absurd (clash n e))

pub min_right : (a b : Float) → T (not (is_nan b)) → le (min_of a b) b ≡ true
unfolding min_of
min_right a b n = picks_all a b (λ (y : Float). le y b ≡ true) (under b a) (λ e l. le_of_not_lt a b (no e) n (under_lt b a l)) (λ l. le_self b n) (λ e. le_self b n)

pub max_left : (a b : Float) → T (not (is_nan a)) → le a (max_of a b) ≡ true
unfolding max_of
max_left a b n = picks_all a b (λ (y : Float). le a y ≡ true) (under a b) (λ e l. le_self a n) (λ l. under_le a b l) (λ e. absurd (clash n e))

pub max_right : (a b : Float) → T (not (is_nan b)) → le b (max_of a b) ≡ true
unfolding max_of
max_right a b n = picks_all a b (λ (y : Float). le b y ≡ true) (under a b) (λ e l. le_of_not_lt b a n (no e) (under_lt a b l)) (λ l. le_self b n) (λ e. le_self b n)

-- ---- a choice by `<` alone: it may give the other one of two zeros
by_less : (x y u v : Float) → (IsZero x × IsZero y → Alike u v) → Alike (cond (under x y) u v) (cond (lt x y) u v)
by_less x y u v f = go (lt x y) (eq x y) refl (sign_of x) refl (sign_of y) refl
  where
    go : (l e : Bool) → eq x y ≡ e → (s : Bool) → sign_of x ≡ s → (t : Bool) → sign_of y ≡ t → Alike (cond (l || (e && (s && not t))) u v) (cond l u v)
    go true e p s q t r = inl refl
    go false false p s q t r = inl refl
    go false true p false q t r = inl refl
    go false true p true q true r = inl refl
    go false true p true q false r = f (unlike_zeros x y p (q ∙ sym (ap not r)))

pub min_alike : (a b : Float) → is_nan a ≡ false → Alike (min_of a b) (cond (lt b a) b a)
unfolding min_of
min_alike a b h = rw h (by_less b a b a (λ z. inr z))

pub max_alike : (a b : Float) → is_nan a ≡ false → Alike (max_of a b) (cond (lt a b) b a)
unfolding max_of
max_alike a b h = rw h (by_less a b b a (λ z. inr (z.1, z.0)))

-- ---- ZEROS: from here on the laws say which of two zeros is given: -0 is the smaller and +0 the larger, whichever stands first
pub zeros : (s t : Bool) → (min_of (fin s 0 (pos 0)) (fin t 0 (pos 0)) ≡ fin (s || t) 0 (pos 0)) × (max_of (fin s 0 (pos 0)) (fin t 0 (pos 0)) ≡ fin (s && t) 0 (pos 0))
unfolding min_of max_of is_nan lt eq sign_of
zeros true true = (refl, refl)
zeros true false = (refl, refl)
zeros false true = (refl, refl)
zeros false false = (refl, refl)

-- of two that are equal, by the sign of one: b's for `min`, a's for `max`
eq_numbers : (x y : Float) → eq x y ≡ true → (is_nan x ≡ false) × (is_nan y ≡ false)
unfolding eq is_nan
eq_numbers nan y h = absurd (false≢true h)
eq_numbers (inf s) nan h = absurd (false≢true h)
eq_numbers (inf s) (inf t) h = (refl, refl)
eq_numbers (inf s) (fin t n d) h = (refl, refl)
eq_numbers (fin s m e) nan h = absurd (false≢true h)
eq_numbers (fin s m e) (inf t) h = (refl, refl)
eq_numbers (fin s m e) (fin t n d) h = (refl, refl)

pub eq_left : (x y : Float) → eq x y ≡ true → T (not (is_nan x))
eq_left x y h = no (eq_numbers x y h).0

level_plus : (x y : Float) → eq x y ≡ true → sign_of x ≡ false → under x y ≡ false
level_plus x y e s = rw (eq_not_lt x y e, e, s)

level_minus : (x y : Float) → eq x y ≡ true → sign_of x ≡ true → sign_of y ≡ false → under x y ≡ true
level_minus x y e s t = rw (eq_not_lt x y e, e, s, t)

pub min_plus : (a b : Float) → eq b a ≡ true → sign_of b ≡ false → min_of a b ≡ a
unfolding min_of
min_plus a b e s = picks_left a b (under b a) (level_plus b a e s) (eq_numbers b a e).1

pub max_plus : (a b : Float) → eq a b ≡ true → sign_of a ≡ false → max_of a b ≡ a
unfolding max_of
max_plus a b e s = picks_left a b (under a b) (level_plus a b e s) (eq_numbers a b e).0

module _ (a b : Float) (h : T (fits binary32 a)) (g : T (fits binary32 b)) where
  pub min_minus : eq b a ≡ true → sign_of b ≡ true → min_of a b ≡ b
  unfolding min_of
  min_minus e s = go (sign_of a) refl
    where
      go : (t : Bool) → sign_of a ≡ t → min_of a b ≡ b
      go false q = sym (picks_second a b (under b a) (level_minus b a e s q))
      go true q = ⊎_elim (λ p. p ∙ sym (same_sign b a g h e (s ∙ sym q))) (λ p. p) (min_picks a b)

  pub max_minus : eq a b ≡ true → sign_of a ≡ true → max_of a b ≡ b
  unfolding max_of
  max_minus e s = go (sign_of b) refl
    where
      go : (t : Bool) → sign_of b ≡ t → max_of a b ≡ b
      go false q = sym (picks_second a b (under a b) (level_minus a b e s q))
      go true q = ⊎_elim (λ p. p ∙ same_sign a b h g e (s ∙ sym q)) (λ p. p) (max_picks a b)

-- beside a number that is no zero one comparison chooses, and so it does beside +0
le_eq : (x y : Float) → le x y ≡ true → lt x y ≡ false → eq x y ≡ true
unfolding le
le_eq x y h l = rw l at h

eq_same : (x y : Float) → T (fits binary32 x) → T (fits binary32 y) → eq x y ≡ true → (IsZero x → ⊥) → x ≡ y
eq_same x y h g e z = go (sign_of x) refl (sign_of y) refl
  where
    apart : sign_of x ≡ not (sign_of y) → x ≡ y
    apart k = absurd (z (unlike_zeros x y e k).0)

    go : (s : Bool) → sign_of x ≡ s → (t : Bool) → sign_of y ≡ t → x ≡ y
    go true p true q = same_sign x y h g e (p ∙ sym q)
    go true p false q = apart (p ∙ sym (ap not q))
    go false p true q = apart (p ∙ sym (ap not q))
    go false p false q = same_sign x y h g e (p ∙ sym q)

pub min_last : (x b : Float) → T (fits binary32 x) → T (fits binary32 b) → T (not (is_nan b)) → (IsZero b → ⊥) → lt x b ≡ false → min_of x b ≡ b
min_last x b h g n z l = go (is_nan x) refl
  where
    either : (t : Bool) → lt b x ≡ t → le b x ≡ true → min_of x b ≡ b
    either true q k = min_second x b q
    either false q k = ⊎_elim (λ p. p ∙ sym (eq_same b x g h (le_eq b x k q) z)) (λ p. p) (min_picks x b)

    go : (t : Bool) → is_nan x ≡ t → min_of x b ≡ b
    go true e = min_of_nan x b e
    go false e = either (lt b x) refl (le_of_not_lt b x n (no e) l)

abbrev plus : Float
plus = fin false 0 (pos 0)

pub max_last : (x : Float) → T (fits binary32 x) → lt plus x ≡ false → max_of x plus ≡ plus
unfolding is_nan fits sign_of
max_last x h l = go (is_nan x) refl
  where
    level : (t : Bool) → sign_of x ≡ t → eq x plus ≡ true → max_of x plus ≡ plus
    level true s e = max_minus x plus h tt e s
    level false s e = ⊎_elim (λ p. p ∙ same_sign x plus h tt e s) (λ p. p) (max_picks x plus)

    either : (t : Bool) → lt x plus ≡ t → le x plus ≡ true → max_of x plus ≡ plus
    either true q k = max_second x plus q
    either false q k = level (sign_of x) refl (le_eq x plus k q)

    go : (t : Bool) → is_nan x ≡ t → max_of x plus ≡ plus
    go true e = max_of_nan x plus e
    go false e = either (lt x plus) refl (le_of_not_lt x plus (no e) tt l)
