-- The first line of a line's outline: laws of `head_of`. Assumes nothing.
use mathlib.Core.Path.{◌≡◌, refl, sym, ap, ◌∙◌}
use mathlib.Core.Bool.{Bool, true, false, cond}
use mathlib.Core.List.{List}
use Prim.Native.Nat.{ℕ, zero, suc, ◌-◌, ◌≤◌}
use native.Mathlib.Omega.{arith}
use lib.ListN.{get_or}
use lib.Ieee.{Float}
use Rattle.outlines.specs.Outlines.{last_of, before, goes_on, back_from, head_of}
use Rattle.outlines.proofs.Lasts.{last_most}

module _ (nos : List ℕ) (fs : List Float) where
  back_most : (n l : ℕ) → back_from nos fs n l ≤ l
  unfolding back_from
  back_most zero l = omega arith
  back_most (suc n) l = go (goes_on nos fs l) (back_most n (before nos l - 1)) (last_most nos (get_or nos l 0) l)
    where
      go : (t : Bool) → back_from nos fs n (before nos l - 1) ≤ before nos l - 1 → before nos l ≤ l → cond t (back_from nos fs n (before nos l - 1)) l ≤ l
      go true h m = omega arith
      go false h m = omega arith

  pub head_most : (l : ℕ) → head_of nos fs l ≤ l
  head_most l = back_most l l

  -- no line comes before the first
  first_new : goes_on nos fs 0 ≡ false
  unfolding last_of
  first_new = refl

  -- more steps back than lines come to the same
  back_same : (n m l : ℕ) → l ≤ n → l ≤ m → back_from nos fs n l ≡ back_from nos fs m l
  unfolding back_from
  back_same zero zero l p q = refl
  back_same zero (suc m) l p q =
      let none : l ≡ 0 = omega arith in
      sym (ap (λ (t : Bool). cond t (back_from nos fs m (before nos l - 1)) l) (ap (goes_on nos fs) none ∙ first_new))
  back_same (suc n) zero l p q =
      let none : l ≡ 0 = omega arith in
      ap (λ (t : Bool). cond t (back_from nos fs n (before nos l - 1)) l) (ap (goes_on nos fs) none ∙ first_new)
  back_same (suc n) (suc m) l p q =
      let h : before nos l - 1 ≤ n = omega (arith, last_most nos (get_or nos l 0) l) in
      let k : before nos l - 1 ≤ m = omega (arith, last_most nos (get_or nos l 0) l) in
      ap (λ (z : ℕ). cond (goes_on nos fs l) z l) (back_same n m (before nos l - 1) h k)

  -- a line that goes on has the first line of the line before it, and one that begins is its own
  pub head_step : (l : ℕ) → head_of nos fs l ≡ cond (goes_on nos fs l) (head_of nos fs (before nos l - 1)) l
  unfolding back_from
  head_step zero = sym (ap (λ (t : Bool). cond t (head_of nos fs (before nos 0 - 1)) 0) first_new)
  head_step (suc l) =
      let h : before nos (suc l) - 1 ≤ l = omega (arith, last_most nos (get_or nos (suc l) 0) (suc l)) in
      let k : before nos (suc l) - 1 ≤ before nos (suc l) - 1 = omega arith in
      ap (λ (z : ℕ). cond (goes_on nos fs (suc l)) z (suc l)) (back_same l (before nos (suc l) - 1) (before nos (suc l) - 1) h k)
