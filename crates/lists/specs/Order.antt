-- The order of the lines does not matter to the counts, nor to the backdrops: what each line adds, it adds by sums at places, and such sums
-- can be made in any order. Assumes nothing.
use Rattle.std.specs.Prelude.{◌≡◌, refl, ℕ, zero, suc, ◌+◌, get_or, set, ℤ, pos, ◌+ℤ◌}
use Rattle.std.proofs.Common.{sym, ap, ◌∙◌, arith}
use Rattle.std.proofs.Math.Logic.{∥∥₁_elim}
use mathlib.Core.List.{List, [], ◌∷◌, Perm, Permᴰ, is_set}
use Rattle.std.proofs.Math.Nat.{ℕ_set}
use Rattle.std.proofs.Math.IntN.{+ℤ_assoc, +ℤ_comm, ℤ_set}
use Rattle.lists.specs.Run.{act_all}
use Rattle.lists.specs.Tally.{bump, tally}

-- ---- actions that commute

module _ {A S : Type 0} (act : A → S → S) (comm : (x y : A) (s : S) → act x (act y s) ≡ act y (act x s)) where
  -- one action moves past a list of them
  pub act_past : (x : A) (ys : List A) (s : S) → act x (act_all act ys s) ≡ act_all act ys (act x s)
  act_past x [] s = refl
  act_past x (y ∷ ys) s = act_past x ys (act y s) ∙ ap (act_all act ys) (comm x y s)

  -- and so does a list
  pub act_all_comm : (xs ys : List A) (s : S) → act_all act xs (act_all act ys s) ≡ act_all act ys (act_all act xs s)
  act_all_comm [] ys s = refl
  act_all_comm (x ∷ xs) ys s = ap (act_all act xs) (act_past x ys s) ∙ act_all_comm xs ys (act x s)

  act_all_permᴰ : {xs ys : List A} → Permᴰ xs ys → (s : S) → act_all act xs s ≡ act_all act ys s
  act_all_permᴰ Permᴰ.nil s = refl
  act_all_permᴰ (Permᴰ.cons {a = a} {b = b} {l₁ = l₁} {l₂ = l₂} e d) s =
      act_all_permᴰ d (act a s) ∙ ap (λ (x : A). act_all act l₂ (act x s)) e
  act_all_permᴰ (Permᴰ.swap {a = a} {b = b} {a' = a'} {b' = b'} {l = l} e₁ e₂) s =
      ap (act_all act l) (comm b a s ∙ ap (λ (x : A). act x (act b s)) e₁ ∙ ap (λ (x : A). act b' (act x s)) e₂)
  act_all_permᴰ (Permᴰ.trans d₁ d₂) s = act_all_permᴰ d₁ s ∙ act_all_permᴰ d₂ s

  -- in any order
  pub act_all_perm : IsSet S → {xs ys : List A} → Perm xs ys → (s : S) → act_all act xs s ≡ act_all act ys s
  act_all_perm st {xs} {ys} p s = ∥∥₁_elim p (st (act_all act xs s) (act_all act ys s)) (λ d. act_all_permᴰ d s)

-- ---- sums at places

-- v is added at place i: for counts, marks and wrapped words alike, by an addition in which two summands can change places
module _ {B : Type 0} (z : B) (◌⊕◌ : B → B → B) where
  abbrev pub add_at_word : ℕ × B → List B → List B
  add_at_word m l = set l m.0 (◌⊕◌ (get_or l m.0 z) m.1)

  abbrev pub add_all : List (ℕ × B) → List B → List B
  add_all ms l = act_all add_at_word ms l

  module _ (swap : (a v w : B) → ◌⊕◌ (◌⊕◌ a v) w ≡ ◌⊕◌ (◌⊕◌ a w) v) where
    place_comm : (l : List B) (i j : ℕ) (v w : B) → add_at_word (i, v) (add_at_word (j, w) l) ≡ add_at_word (j, w) (add_at_word (i, v) l)
    place_comm [] i j v w = refl
    place_comm (x ∷ l) zero zero v w = ap (λ (y : B). y ∷ l) (swap x w v)
    place_comm (x ∷ l) zero (suc j) v w = refl
    place_comm (x ∷ l) (suc i) zero v w = refl
    place_comm (x ∷ l) (suc i) (suc j) v w = ap (λ (r : List B). x ∷ r) (place_comm l i j v w)

    pub add_at_comm : (m n : ℕ × B) (l : List B) → add_at_word m (add_at_word n l) ≡ add_at_word n (add_at_word m l)
    add_at_comm m n l = place_comm l m.0 n.0 m.1 n.1

    -- T5. Records that each add at places of their own choice leave the same in any order
    pub sums_any_order : {A : Type 0} (marks : A → List (ℕ × B)) → IsSet B → {xs ys : List A} → Perm xs ys → (l : List B)
        → act_all (λ x. add_all (marks x)) xs l ≡ act_all (λ x. add_all (marks x)) ys l
    sums_any_order marks st p l =
        act_all_perm (λ x. add_all (marks x)) (λ x y s. act_all_comm add_at_word add_at_comm (marks x) (marks y) s) (is_set st) p l

-- ---- backdrops: marks of a whole number

pub ℤ_swap : (a v w : ℤ) → (a +ℤ v) +ℤ w ≡ (a +ℤ w) +ℤ v
ℤ_swap a v w = +ℤ_assoc a v w ∙ ap (λ (k : ℤ). a +ℤ k) (+ℤ_comm v w) ∙ sym (+ℤ_assoc a w v)

abbrev pub mark : List (ℕ × ℤ) → List ℤ → List ℤ
mark ms l = add_all (pos 0) ◌+ℤ◌ ms l

-- ---- counts: one more in each tile hit

pub bump_comm : (t u : ℕ) (l : List ℕ) → bump (bump l t) u ≡ bump (bump l u) t
bump_comm t u l = add_at_comm 0 ◌+◌ (λ a v w. omega arith) (u, 1) (t, 1) l

tally_act : (ts l : List ℕ) → tally l ts ≡ act_all (λ t c. bump c t) ts l
tally_act [] l = refl
tally_act (t ∷ ts) l = tally_act ts (bump l t)

pub tally_comm : (ts us l : List ℕ) → tally (tally l ts) us ≡ tally (tally l us) ts
tally_comm ts us l =
    rw (tally_act ts l, tally_act us l, tally_act us, tally_act ts) (act_all_comm (λ t c. bump c t) (λ x y c. bump_comm y x c) us ts l)

-- T5. the counts after two orders of the same lines
pub counts_any_order : {A : Type 0} (tiles_of : A → List ℕ) {xs ys : List A} → Perm xs ys → (l : List ℕ)
    → act_all (λ x c. tally c (tiles_of x)) xs l ≡ act_all (λ x c. tally c (tiles_of x)) ys l
counts_any_order tiles_of p l =
    act_all_perm (λ x c. tally c (tiles_of x)) (λ x y c. tally_comm (tiles_of y) (tiles_of x) c) (is_set ℕ_set) p l

-- T5. and the backdrops
pub backs_any_order : {A : Type 0} (marks_of : A → List (ℕ × ℤ)) {xs ys : List A} → Perm xs ys → (l : List ℤ)
    → act_all (λ x. mark (marks_of x)) xs l ≡ act_all (λ x. mark (marks_of x)) ys l
backs_any_order marks_of p l = sums_any_order (pos 0) ◌+ℤ◌ ℤ_swap marks_of ℤ_set p l
