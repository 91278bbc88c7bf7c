-- A loop that changes a list in place, an element a turn: how it begins, a turn, and what it leaves. Assumes nothing.
use mathlib.Core.Path.{◌≡◌, refl, sym, ap, subst, ◌∙◌}
use mathlib.Core.List.{List}
use mathlib.Core.Bool.{Bool, true, false, cond, ◌&&◌}
use Prim.Native.Nat.{ℕ, ◌+◌, ◌<◌, ◌≤◌}
use native.Mathlib.Nat.{add-zero, add_assoc}
use native.Mathlib.Omega.{arith}
use lib.Dec.{leb, ltb}
use lib.ListN.{length, get_or, set, length-set}
use Rattle.lists.specs.Grid.{mapi, within}
use Rattle.lists.specs.GridLaws.{within_none, within_step, within_all, within_cong, within_join, mapi_is, length_mapi}

-- of the list l₀, the elements from a up to b are done: the list is l now
abbrev pub Done : {A : Type 0} → (ℕ → A → A) → ℕ → ℕ → List A → List A → Type 0
Done f a b l₀ l = (length l ≡ length l₀) × (l ≡ mapi (within a b f) l₀)

module _ {A : Type 0} (f : ℕ → A → A) (d : A) where
  -- from the start of the list on
  pub begun : (l : List A) → Done f 0 0 l l
  begun l = (refl, sym (within_none f 0 d l))

  pub turned : (a i : ℕ) (l₀ l : List A) (v : A) → a ≤ i → Done f a i l₀ l → v ≡ f i (get_or l i d) → Done f a (i + 1) l₀ (set l i v)
  turned a i l₀ l v h done e = (
    length-set l i v ∙ done.0,
    ap (set l i) e ∙ ap (λ (z : List A). set z i (f i (get_or z i d))) done.1 ∙ within_step f a i d l₀ h,
  )

  pub ended : (n i : ℕ) (l₀ l : List A) → Done f 0 i l₀ l → length l₀ ≡ n → n ≤ i → l ≡ mapi f l₀
  ended n i l₀ l done e h = done.1 ∙ within_all f i d l₀ (omega arith)

  -- from the element a on, by i
  pub begun_at : (a : ℕ) (l : List A) → Done f a (a + 0) l l
  begun_at a l = (refl, sym (ap (λ (b : ℕ). mapi (within a b f) l) (add-zero a) ∙ within_none f a d l))

  pub turned_at : (a i : ℕ) (l₀ l : List A) (v : A) → Done f a (a + i) l₀ l → v ≡ f (a + i) (get_or l (a + i) d) → Done f a (a + (i + 1)) l₀ (set l (a + i) v)
  turned_at a i l₀ l v done e = subst (λ (b : ℕ). Done f a b l₀ (set l (a + i) v)) (add_assoc a i 1) (turned a (a + i) l₀ l v (omega arith) done e)

  pub ended_at : (a n i : ℕ) (l₀ l : List A) → Done f a (a + i) l₀ l → i ≡ n → l ≡ mapi (within a (a + n) f) l₀
  ended_at a n i l₀ l done e = done.1 ∙ ap (λ (b : ℕ). mapi (within a (a + b) f) l₀) e

  -- a part at once: from a to b, and then to c
  pub turned_to : (a b c : ℕ) (l₀ l m : List A) → a ≤ b → b ≤ c → Done f a b l₀ l → m ≡ mapi (within b c f) l → Done f a c l₀ m
  turned_to a b c l₀ l m p q done e = (
    ap length e ∙ length_mapi (within b c f) l ∙ done.0,
    e ∙ ap (mapi (within b c f)) done.1 ∙ within_join f a b c d l₀ p q,
  )

  -- where f changes nothing from a to b
  pub kept : (a b : ℕ) (l : List A) → ((k : ℕ) (x : A) → a ≤ k → k < b → x ≡ f k x) → l ≡ mapi (within a b f) l
  kept a b l h = sym untouched ∙ within_cong (λ k x. x) f a b d l h
    where
      same : (t : Bool) (x : A) → x ≡ cond t x x
      same true x = refl
      same false x = refl

      untouched : mapi (within a b (λ k x. x)) l ≡ l
      untouched = sym (mapi_is (within a b (λ k x. x)) l l d d refl (λ k h. same (leb a k && ltb k b) (get_or l k d)))
