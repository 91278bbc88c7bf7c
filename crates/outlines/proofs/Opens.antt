-- When an outline stands open after a line: another line has ended it, or none is to come. Assumes nothing.
use mathlib.Core.Path.{◌≡◌, refl, sym, ap, ◌∙◌}
use mathlib.Core.Bool.{Bool, true, false, not, ◌&&◌}
use mathlib.Core.List.{List}
use mathlib.Core.Logic.{◌⊎◌, inl, inr}
use Prim.Native.Nat.{ℕ, ◌+◌, ◌≤◌, ◌<◌}
use native.Mathlib.Omega.{arith}
use native.Mathlib.Decide.{dec_lt}
use lib.Dec.{eqb}
use lib.ListN.{length, get_or}
use lib.Ieee.{Float}
use borrow.Author.Tests.{eqb-true, eq-eqb}
use Rattle.meeting.specs.First.{some_below_word}
use Rattle.meeting.proofs.FirstLaws.{first_is, some_is, none_is}
use Rattle.outlines.specs.Outlines.{last_of, before, goes_on, head_of, meets, follows, left_open, first_open}
use Rattle.outlines.specs.Told.{Ended}
use Rattle.outlines.proofs.Lasts.{last_most, last_path, last_seen, last_next, before_once}

module _ (nos : List ℕ) (fs : List Float) where
  abbrev n : ℕ
  n = length nos

  -- none goes on with it, and it is not closed
  open_is : (l : ℕ) → ((k : ℕ) → k < length nos → before nos k ≡ l + 1 → goes_on nos fs k ≡ false) → meets fs l (head_of nos fs l) ≡ false → left_open nos fs l ≡ true
  unfolding left_open
  open_is l f e = ap (λ (t : Bool). not t && not (meets fs l (head_of nos fs l))) (none_is (follows nos fs l) n none) ∙ ap not e
    where
      none : (k : ℕ) → k < n → follows nos fs l k ≡ false
      none k h = go (eqb (before nos k) (l + 1)) refl
        where
          go : (t : Bool) → eqb (before nos k) (l + 1) ≡ t → (t && goes_on nos fs k) ≡ false
          go true q = f k h (eqb-true (before nos k) (l + 1) q)
          go false q = refl

  pub open_ended : (l : ℕ) → Ended nos fs (length nos) l → left_open nos fs l ≡ true
  open_ended l w = open_is l (λ k h e. ap (goes_on nos fs) (before_once nos k w.by l e w.next) ∙ w.apart) w.ajar

  pub open_last : (l : ℕ) → last_of nos (get_or nos l 0) (length nos) ≡ l + 1 → meets fs l (head_of nos fs l) ≡ false → left_open nos fs l ≡ true
  open_last l q e =
      open_is l
      (λ k h b. absurd (omega (arith, last_seen nos (get_or nos l 0) n k h (sym (last_path nos (get_or nos k 0) k l b)), last_most nos (get_or nos k 0) k)))
      e

  pub shut : (l : ℕ) → l < length nos → (Ended nos fs (length nos) l → ⊥) → (last_of nos (get_or nos l 0) (length nos) ≡ l + 1 → meets fs l (head_of nos fs l) ≡ false → ⊥)
      → left_open nos fs l ≡ false
  unfolding left_open
  shut l h p q = go (meets fs l (head_of nos fs l)) refl (last_next nos n l h)
    where
      behind : (t : Bool) → (not t && false) ≡ false
      behind true = refl
      behind false = refl

      gone : (k : ℕ) → k < n → before nos k ≡ l + 1 → meets fs l (head_of nos fs l) ≡ false → (t : Bool) → goes_on nos fs k ≡ t
          → (not (some_below_word (follows nos fs l) n) && not (meets fs l (head_of nos fs l))) ≡ false
      gone k g b e true f =
          ap (λ (t : Bool). not t && not (meets fs l (head_of nos fs l)))
          (some_is (follows nos fs l) n k g (ap (λ (t : Bool). t && goes_on nos fs k) (eq-eqb (before nos k) (l + 1) b) ∙ f))
      gone k g b e false f = absurd (p (record { by = k; early = g; next = b; apart = f; ajar = e }))

      go : (t : Bool) → meets fs l (head_of nos fs l) ≡ t → (last_of nos (get_or nos l 0) n ≡ l + 1) ⊎ ((k : ℕ) × (k < n) × (before nos k ≡ l + 1))
          → (not (some_below_word (follows nos fs l) n) && not (meets fs l (head_of nos fs l))) ≡ false
      go true e w = ap (λ (t : Bool). not (some_below_word (follows nos fs l) n) && not t) e ∙ behind (some_below_word (follows nos fs l) n)
      go false e (inl a) = absurd (q a e)
      go false e (inr w) = gone w.0 w.1 w.2 e (goes_on nos fs w.0) refl

  -- the first open line: r, which is open or the number of lines, and every one before it shut
  pub open_first : (r : ℕ) → r ≤ length nos → (r < length nos → left_open nos fs r ≡ true) → ((l : ℕ) → l < r → left_open nos fs l ≡ false) → r ≡ first_open nos fs
  unfolding first_open
  open_first r m h f = first_is (left_open nos fs) n r m h f

-- what holds below l, and at l, holds below l + 1
pub below_next : (p : ℕ → Bool) (l : ℕ) → ((k : ℕ) → k < l → p k ≡ false) → p l ≡ false → (k : ℕ) → k < l + 1 → p k ≡ false
below_next p l f e k h = go (dec_lt k l)
  where
    go : Dec (k < l) → p k ≡ false
    go (yes g) = f k g
    go (no g) = let same : k ≡ l = omega arith in rw same e
