-- What the first number that passes a test is, and that there is one such. Assumes nothing.
use mathlib.Core.Path.{◌≡◌, refl, sym, subst, ◌∙◌}
use mathlib.Core.Bool.{Bool, true, false, cond, ◌||◌}
use mathlib.Core.Logic.{⊎_elim}
use Prim.Native.Nat.{ℕ, zero, suc, ◌+◌, ◌≤◌, ◌<◌}
use native.Mathlib.Nat.{eq-or-lt_of_le}
use native.Mathlib.Omega.{arith}
use native.Mathlib.Decide.{dec_lt}
use borrow.Author.Tests.{ltb-true, ltb-false, lt-ltb, le-ltb}
use Rattle.meeting.specs.First.{first_from, first_of, some_below_word}

pub at_least : (p : ℕ → Bool) (a n : ℕ) → a ≤ first_from p a n
unfolding first_from
at_least p a zero = omega arith
at_least p a (suc n) = go (p a) (at_least p (suc a) n)
  where
    go : (t : Bool) → suc a ≤ first_from p (suc a) n → a ≤ cond t a (first_from p (suc a) n)
    go true h = omega arith
    go false h = omega arith

pub at_most : (p : ℕ → Bool) (a n : ℕ) → first_from p a n ≤ a + n
unfolding first_from
at_most p a zero = omega arith
at_most p a (suc n) = go (p a) (at_most p (suc a) n)
  where
    go : (t : Bool) → first_from p (suc a) n ≤ suc a + n → cond t a (first_from p (suc a) n) ≤ a + suc n
    go true h = omega arith
    go false h = omega arith

pub hit : (p : ℕ → Bool) (a n : ℕ) → first_from p a n < a + n → p (first_from p a n) ≡ true
unfolding first_from
hit p a zero h = absurd (omega arith)
hit p a (suc n) h = go (p a) refl h (hit p (suc a) n)
  where
    go : (t : Bool) → p a ≡ t → cond t a (first_from p (suc a) n) < a + suc n → (first_from p (suc a) n < suc a + n → p (first_from p (suc a) n) ≡ true)
        → p (cond t a (first_from p (suc a) n)) ≡ true
    go true e h ih = e
    go false e h ih = ih (omega arith)

pub missed : (p : ℕ → Bool) (a n i : ℕ) → a ≤ i → i < first_from p a n → p i ≡ false
unfolding first_from
missed p a zero i l h = absurd (omega arith)
missed p a (suc n) i l h = go (p a) refl h (missed p (suc a) n i)
  where
    go : (t : Bool) → p a ≡ t → i < cond t a (first_from p (suc a) n) → (suc a ≤ i → i < first_from p (suc a) n → p i ≡ false) → p i ≡ false
    go true e h ih = absurd (omega arith)
    go false e h ih = ⊎_elim (λ (q : a ≡ i). subst (λ (k : ℕ). p k ≡ false) q e) (λ q. ih (omega arith) h) (eq-or-lt_of_le l)

module _ (p : ℕ → Bool) (n : ℕ) where
  pub first_most : first_of p n ≤ n
  first_most = omega (arith, at_most p 0 n)

  pub first_hit : first_of p n < n → p (first_of p n) ≡ true
  first_hit h = hit p 0 n (omega arith)

  pub first_missed : (i : ℕ) → i < first_of p n → p i ≡ false
  first_missed i h = missed p 0 n i (omega arith) h

  -- there is one such
  pub first_is : (r : ℕ) → r ≤ n → (r < n → p r ≡ true) → ((i : ℕ) → i < r → p i ≡ false) → r ≡ first_of p n
  first_is r m h o = go (dec_lt r (first_of p n)) (dec_lt (first_of p n) r)
    where
      clash : {t : Bool} → t ≡ true → t ≡ false → ⊥
      clash a b = let z : ◌≡◌ {A = ℕ} 0 1 = cc in omega arith

      go : Dec (r < first_of p n) → Dec (first_of p n < r) → r ≡ first_of p n
      go (yes b) d = absurd (clash (h (omega (arith, first_most))) (first_missed r b))
      go (no b) (yes d) = absurd (clash (first_hit (omega arith)) (o (first_of p n) d))
      go (no b) (no d) = omega arith

  pub some_below : some_below_word p n ≡ true → (i : ℕ) × (i < n) × (p i ≡ true)
  some_below e = let h = ltb-true (first_of p n) n e in (first_of p n, h, first_hit h)

  pub some_is : (i : ℕ) → i < n → p i ≡ true → some_below_word p n ≡ true
  some_is i h e = go (dec_lt (first_of p n) n)
    where
      clash : {t : Bool} → t ≡ true → t ≡ false → ⊥
      clash a b = let z : ◌≡◌ {A = ℕ} 0 1 = cc in omega arith

      go : Dec (first_of p n < n) → some_below_word p n ≡ true
      go (yes b) = lt-ltb (first_of p n) n b
      go (no b) = absurd (clash e (first_missed i (omega arith)))

  pub none_below : some_below_word p n ≡ false → (i : ℕ) → i < n → p i ≡ false
  none_below e i h = first_missed i (omega (arith, ltb-false (first_of p n) n e))

  pub none_is : ((i : ℕ) → i < n → p i ≡ false) → some_below_word p n ≡ false
  none_is f = le-ltb (first_of p n) n (omega (arith, first_is n (omega arith) (λ h. absurd (omega arith)) f))

-- of two tests: the first that passes the one or the other is the first to pass the other among those before the first to pass the one
pub first_or : (p q : ℕ → Bool) (n : ℕ) → first_of q (first_of p n) ≡ first_of (λ i. p i || q i) n
first_or p q n = first_is (λ i. p i || q i) n g (omega (arith, first_most p n, first_most q f)) at before
  where
    f : ℕ
    f = first_of p n

    g : ℕ
    g = first_of q f

    either : (a b : Bool) → b ≡ true → (a || b) ≡ true
    either true b e = refl
    either false b e = e

    neither : (a b : Bool) → a ≡ false → b ≡ false → (a || b) ≡ false
    neither true b e h = e
    neither false b e h = h

    whole : (a b : Bool) → a ≡ true → (a || b) ≡ true
    whole true b e = refl
    whole false b e = let z : ◌≡◌ {A = ℕ} 0 1 = cc in absurd (omega arith)

    at : g < n → (p g || q g) ≡ true
    at h = go (dec_lt g f)
      where
        go : Dec (g < f) → (p g || q g) ≡ true
        go (yes b) = either (p g) (q g) (first_hit q f b)
        go (no b) =
            let same : g ≡ f = omega (arith, first_most q f) in
            whole (p g) (q g) (subst (λ (k : ℕ). p k ≡ true) (sym same) (first_hit p n (omega arith)))

    before : (i : ℕ) → i < g → (p i || q i) ≡ false
    before i h = neither (p i) (q i) (first_missed p n i (omega (arith, first_most q f))) (first_missed q f i h)

-- tests that agree below n
pub first_same : (p q : ℕ → Bool) (n : ℕ) → ((i : ℕ) → i < n → p i ≡ q i) → first_of p n ≡ first_of q n
first_same p q n e =
    first_is q n (first_of p n) (first_most p n) (λ h. sym (e (first_of p n) h) ∙ first_hit p n h)
    (λ i h. sym (e i (omega (arith, first_most p n))) ∙ first_missed p n i h)
