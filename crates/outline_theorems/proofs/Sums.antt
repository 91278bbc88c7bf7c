-- Sums over a path's lines, line by line. Assumes nothing.
use mathlib.Core.Path.{◌≡◌, refl}
use mathlib.Core.Bool.{Bool, true, false, not, cond, ◌&&◌}
use mathlib.Core.List.{List}
use Prim.Native.Nat.{ℕ, zero, suc, ◌+◌}
use native.Mathlib.Omega.{arith}
use lib.Dec.{eqb}
use lib.ListN.{get_or}
use borrow.Author.Tests.{eq-eqb, ne_eqb}
use Rattle.outline_theorems.specs.Crossings.{sum_of, one_if}

module _ (nos : List ℕ) (g : ℕ → ℕ) (p : ℕ) where
  pub sum_none : sum_of nos g p 0 ≡ 0
  unfolding sum_of
  sum_none = refl

  pub sum_mine : (i : ℕ) → get_or nos i 0 ≡ p → sum_of nos g p (suc i) ≡ sum_of nos g p i + g i
  unfolding sum_of
  sum_mine i e = rw (eq-eqb (get_or nos i 0) p e)

  pub sum_other : (i : ℕ) → (get_or nos i 0 ≡ p → ⊥) → sum_of nos g p (suc i) ≡ sum_of nos g p i
  unfolding sum_of
  sum_other i e = rw (ne_eqb (get_or nos i 0) p e)

-- of three that add up, line by line, the sums add up
pub sum_adds : (nos : List ℕ) (f g h : ℕ → ℕ) (p : ℕ) → ((l : ℕ) → f l + g l ≡ h l) → (i : ℕ) → sum_of nos f p i + sum_of nos g p i ≡ sum_of nos h p i
unfolding sum_of
sum_adds nos f g h p e zero = refl
sum_adds nos f g h p e (suc i) = go (eqb (get_or nos i 0) p) (sum_adds nos f g h p e i)
  where
    go : (t : Bool) → sum_of nos f p i + sum_of nos g p i ≡ sum_of nos h p i
        → cond t (sum_of nos f p i + f i) (sum_of nos f p i) + cond t (sum_of nos g p i + g i) (sum_of nos g p i) ≡ cond t (sum_of nos h p i + h i) (sum_of nos h p i)
    go true q = omega (arith, e i)
    go false q = q

pub one_left : (s e : Bool) → one_if (s && not e) + one_if (s && e) ≡ one_if s
one_left true true = refl
one_left true false = refl
one_left false e = refl

pub one_come : (s e : Bool) → one_if (not s && e) + one_if (s && e) ≡ one_if e
one_come true true = refl
one_come true false = refl
one_come false true = refl
one_come false false = refl
