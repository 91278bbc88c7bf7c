-- The last line of a path among the first lines, and the line before one: laws of `last_of`. Assumes nothing.
use mathlib.Core.Path.{◌≡◌, refl, sym, ap, subst, ◌∙◌}
use mathlib.Core.Bool.{Bool, true, false, cond}
use mathlib.Core.List.{List}
use mathlib.Core.Logic.{◌⊎◌, inl, inr}
use Prim.Native.Nat.{ℕ, zero, suc, ◌+◌, ◌≤◌, ◌<◌}
use native.Mathlib.Decide.{ℕ_discrete, dec_lt}
use native.Mathlib.Numerals.{add-one}
use native.Mathlib.Omega.{arith}
use lib.Dec.{eqb}
use lib.ListN.{get_or}
use borrow.Author.Tests.{eq-eqb, ne_eqb, eqb-true, eqb-false}
use Rattle.outlines.specs.Outlines.{last_of, before}

module _ (nos : List ℕ) where
  last_more : (p i : ℕ) → last_of nos p (i + 1) ≡ cond (eqb (get_or nos i 0) p) (i + 1) (last_of nos p i)
  unfolding last_of
  last_more p i = rw add-one

  pub last_mine : (p i : ℕ) → get_or nos i 0 ≡ p → last_of nos p (i + 1) ≡ i + 1
  last_mine p i e = last_more p i ∙ ap (λ (t : Bool). cond t (i + 1) (last_of nos p i)) (eq-eqb (get_or nos i 0) p e)

  pub last_other : (p i : ℕ) → (get_or nos i 0 ≡ p → ⊥) → last_of nos p (i + 1) ≡ last_of nos p i
  last_other p i e = last_more p i ∙ ap (λ (t : Bool). cond t (i + 1) (last_of nos p i)) (ne_eqb (get_or nos i 0) p e)

  pub last_none : (p : ℕ) → last_of nos p 0 ≡ 0
  unfolding last_of
  last_none p = refl

  pub last_most : (p i : ℕ) → last_of nos p i ≤ i
  unfolding last_of
  last_most p zero = omega arith
  last_most p (suc i) = go (eqb (get_or nos i 0) p) (last_most p i)
    where
      go : (t : Bool) → last_of nos p i ≤ i → cond t (suc i) (last_of nos p i) ≤ suc i
      go true h = omega arith
      go false h = omega arith

  -- it is one of the path
  pub last_path : (p i l : ℕ) → last_of nos p i ≡ l + 1 → get_or nos l 0 ≡ p
  unfolding last_of
  last_path p zero l h = absurd (omega arith)
  last_path p (suc i) l h = go (eqb (get_or nos i 0) p) refl h (last_path p i l)
    where
      go : (t : Bool) → eqb (get_or nos i 0) p ≡ t → cond t (suc i) (last_of nos p i) ≡ l + 1 → (last_of nos p i ≡ l + 1 → get_or nos l 0 ≡ p) → get_or nos l 0 ≡ p
      go true e h ih =
          let same : i ≡ l = omega arith in
          subst (λ (k : ℕ). get_or nos k 0 ≡ p) same (eqb-true (get_or nos i 0) p e)
      go false e h ih = ih h

  -- and none of the path comes after it
  pub last_seen : (p i j : ℕ) → j < i → get_or nos j 0 ≡ p → j + 1 ≤ last_of nos p i
  unfolding last_of
  last_seen p zero j h e = absurd (omega arith)
  last_seen p (suc i) j h e = go (eqb (get_or nos i 0) p) refl (ℕ_discrete j i) (last_seen p i j)
    where
      go : (t : Bool) → eqb (get_or nos i 0) p ≡ t → Dec (j ≡ i) → (j < i → get_or nos j 0 ≡ p → j + 1 ≤ last_of nos p i) → j + 1 ≤ cond t (suc i) (last_of nos p i)
      go true q d ih = omega arith
      go false q (yes d) ih = absurd (eqb-false (get_or nos i 0) p q (subst (λ (k : ℕ). get_or nos k 0 ≡ p) d e))
      go false q (no d) ih = ih (omega arith) e

  -- a line is its path's last, or it is the line before another
  pub last_next : (n l : ℕ) → l < n → (last_of nos (get_or nos l 0) n ≡ l + 1) ⊎ ((k : ℕ) × (k < n) × (before nos k ≡ l + 1))
  last_next zero l h = absurd (omega arith)
  last_next (suc m) l h = go (ℕ_discrete l m) (last_next m l)
    where
      p : ℕ
      p = get_or nos l 0

      step : last_of nos p (m + 1) ≡ last_of nos p (suc m)
      step = ap (last_of nos p) (add-one m)

      on : Dec (get_or nos m 0 ≡ p) → (last_of nos p m ≡ l + 1) ⊎ ((k : ℕ) × (k < m) × (before nos k ≡ l + 1))
          → (last_of nos p (suc m) ≡ l + 1) ⊎ ((k : ℕ) × (k < suc m) × (before nos k ≡ l + 1))
      on (yes q) (inl e) = inr (m, omega arith, ap (λ (r : ℕ). last_of nos r m) q ∙ e)
      on (no q) (inl e) = inl (sym step ∙ last_other p m q ∙ e)
      on d (inr w) = inr (w.0, omega arith, w.2)

      go : Dec (l ≡ m) → (l < m → (last_of nos p m ≡ l + 1) ⊎ ((k : ℕ) × (k < m) × (before nos k ≡ l + 1)))
          → (last_of nos p (suc m) ≡ l + 1) ⊎ ((k : ℕ) × (k < suc m) × (before nos k ≡ l + 1))
      go (yes e) ih =
          let mine : get_or nos m 0 ≡ p = ap (λ (k : ℕ). get_or nos k 0) (sym e) in
          inl (sym step ∙ last_mine p m mine ∙ omega arith)
      go (no e) ih = on (ℕ_discrete (get_or nos m 0) p) (ih (omega arith))

  -- two lines have not the same line before them
  pub before_once : (k j l : ℕ) → before nos k ≡ l + 1 → before nos j ≡ l + 1 → k ≡ j
  before_once k j l e f = go (dec_lt k j) (dec_lt j k)
    where
      path_k : get_or nos l 0 ≡ get_or nos k 0
      path_k = last_path (get_or nos k 0) k l e

      path_j : get_or nos l 0 ≡ get_or nos j 0
      path_j = last_path (get_or nos j 0) j l f

      less : (a b : ℕ) → get_or nos l 0 ≡ get_or nos a 0 → get_or nos l 0 ≡ get_or nos b 0 → before nos a ≡ l + 1 → before nos b ≡ l + 1 → a < b → ⊥
      less a b pa pb ea eb h = omega (arith, last_seen (get_or nos b 0) b a h (sym pa ∙ pb), last_most (get_or nos a 0) a)

      go : Dec (k < j) → Dec (j < k) → k ≡ j
      go (yes h) d = absurd (less k j path_k path_j e f h)
      go (no g) (yes h) = absurd (less j k path_j path_k f e h)
      go (no g) (no h) = omega arith
