-- Laws of `specs/Grid.antt`'s `mapi` and `within`: the loops that change a list in place, an element a turn, cite these. Assumes nothing.
use Rattle.std.specs.Prelude.{◌≡◌, refl, Bool, true, false, cond, ◌&&◌, List, [], ◌∷◌, ◌⊎◌, ℕ, zero, suc, ◌+◌, ◌<◌, ◌≤◌, leb, ltb, replicate, length, get_or, set}
use Rattle.std.proofs.Common.{sym, ap, subst, ◌∙◌, inl, inr, ⊎_elim, zero-le, suc-le-suc, not-suc-le-zero, le_of_suc-le-suc, add-zero, add-suc, suc-add, zero-add, eq-or-lt_of_le, arith, length-set, ext_get_or, get_or-set_same, get_or-set_other, le-leb, lt-ltb, le-ltb}
use Rattle.std.proofs.Math.Seq.{set_out}
use Rattle.std.proofs.lemmas.Bool.{lt-leb}
use Rattle.lists.specs.Grid.{map_from, mapi, within, tab_from, tabulate}

pub le_or_lt : (a b : ℕ) → (a ≤ b) ⊎ (b < a)
le_or_lt zero b = inl zero-le
le_or_lt (suc a) zero = inr (suc-le-suc zero-le)
le_or_lt (suc a) (suc b) = ⊎_elim (λ p. inl (suc-le-suc p)) (λ q. inr (suc-le-suc q)) (le_or_lt a b)

length_map_from : {A B : Type 0} (j : ℕ) (f : ℕ → A → B) (l : List A) → length (map_from j f l) ≡ length l
unfolding map_from
length_map_from j f [] = refl
length_map_from j f (x ∷ l) = ap suc (length_map_from (suc j) f l)

get_d_map_from : {A B : Type 0} (j : ℕ) (f : ℕ → A → B) (l : List A) (k : ℕ) (d : A) (e : B) → k < length l → get_or (map_from j f l) k e ≡ f (j + k) (get_or l k d)
unfolding map_from
get_d_map_from j f [] k d e h = absurd (not-suc-le-zero h)
get_d_map_from j f (x ∷ l) zero d e h = ap (λ (n : ℕ). f n x) (sym (add-zero j))
get_d_map_from j f (x ∷ l) (suc k) d e h = get_d_map_from (suc j) f l k d e (le_of_suc-le-suc h) ∙ ap (λ (n : ℕ). f n (get_or l k d)) (suc-add j k ∙ sym (add-suc j k))

pub length_mapi : {A B : Type 0} (f : ℕ → A → B) (l : List A) → length (mapi f l) ≡ length l
length_mapi f l = length_map_from 0 f l

pub get_d_mapi : {A B : Type 0} (f : ℕ → A → B) (l : List A) (k : ℕ) (d : A) (e : B) → k < length l → get_or (mapi f l) k e ≡ f k (get_or l k d)
get_d_mapi f l k d e h = get_d_map_from 0 f l k d e h ∙ ap (λ (n : ℕ). f n (get_or l k d)) (zero-add k)

-- a list that is as long, and at each index what f makes
pub mapi_is : {A B : Type 0} (f : ℕ → A → B) (l : List A) (m : List B) (d : A) (e : B) → length m ≡ length l → ((k : ℕ) → k < length l → get_or m k e ≡ f k (get_or l k d)) → m ≡ mapi f l
mapi_is f l m d e p h =
    ext_get_or e m (mapi f l) (p ∙ sym (length_mapi f l)) (λ k lt. let lt' : k < length l = subst (λ (n : ℕ). k < n) p lt in h k lt' ∙ sym (get_d_mapi f l k d e lt'))

map_from_map_from : {A B C : Type 0} (j : ℕ) (g : ℕ → B → C) (f : ℕ → A → B) (l : List A) → map_from j g (map_from j f l) ≡ map_from j (λ k x. g k (f k x)) l
unfolding map_from
map_from_map_from j g f [] = refl
map_from_map_from j g f (x ∷ l) = ap (◌∷◌ (g j (f j x))) (map_from_map_from (suc j) g f l)

pub mapi_mapi : {A B C : Type 0} (g : ℕ → B → C) (f : ℕ → A → B) (l : List A) → mapi g (mapi f l) ≡ mapi (λ k x. g k (f k x)) l
mapi_mapi g f l = map_from_map_from 0 g f l

module _ {A : Type 0} (f : ℕ → A → A) where
  within_in : (a b k : ℕ) (x : A) → a ≤ k → k < b → within a b f k x ≡ f k x
  within_in a b k x p q = simp (le-leb a k p, lt-ltb k b q)

  within_low : (a b k : ℕ) (x : A) → k < a → within a b f k x ≡ x
  within_low a b k x p = simp (lt-leb a k p)

  within_high : (a b k : ℕ) (x : A) → b ≤ k → within a b f k x ≡ x
  within_high a b k x p = go (leb a k)
    where
      go : (t : Bool) → cond (t && ltb k b) (f k x) x ≡ x
      go true = simp (le-ltb k b p)
      go false = refl

  -- at any index but the next one, the next step changes nothing
  within_kept : (a i k : ℕ) (x : A) → (k ≡ i → ⊥) → within a i f k x ≡ within a (i + 1) f k x
  within_kept a i k x n =
      ⊎_elim
      (λ p. within_high a i k x p ∙ sym (within_high a (i + 1) k x (after p)))
      (λ q. ⊎_elim (λ r. within_in a i k x r q ∙ sym (within_in a (i + 1) k x r (omega arith))) (λ r. within_low a i k x r ∙ sym (within_low a (i + 1) k x r)) (le_or_lt a k))
      (le_or_lt i k)
    where
      after : i ≤ k → i + 1 ≤ k
      after p = ⊎_elim (λ e. absurd (n (sym e))) (λ l. omega arith) (eq-or-lt_of_le p)

  -- one more element, which is in the list
  within_more : (a i : ℕ) (d : A) (l : List A) → a ≤ i → i < length l
      → set (mapi (within a i f) l) i (f i (get_or (mapi (within a i f) l) i d)) ≡ mapi (within a (i + 1) f) l
  within_more a i d l p q =
      mapi_is (within a (i + 1) f) l (set m i v) d d (length-set m i v ∙ length_mapi (within a i f) l) at
    where
      m : List A
      m = mapi (within a i f) l

      v : A
      v = f i (get_or m i d)

      same : get_or (set m i v) i d ≡ within a (i + 1) f i (get_or l i d)
      same =
          get_or-set_same m i v d (subst (λ (n : ℕ). i < n) (sym (length_mapi (within a i f) l)) q)
          ∙ ap (f i) (get_d_mapi (within a i f) l i d d q ∙ within_high a i i (get_or l i d) (omega arith))
          ∙ sym (within_in a (i + 1) i (get_or l i d) p (omega arith))

      other : (k : ℕ) → k < length l → (k ≡ i → ⊥) → get_or (set m i v) k d ≡ within a (i + 1) f k (get_or l k d)
      other k h n = get_or-set_other m i k v d n ∙ get_d_mapi (within a i f) l k d d h ∙ within_kept a i k (get_or l k d) n

      at : (k : ℕ) → k < length l → get_or (set m i v) k d ≡ within a (i + 1) f k (get_or l k d)
      at k h =
          ⊎_elim
          (λ (r : i ≤ k). ⊎_elim (λ e. subst (λ (n : ℕ). get_or (set m i v) n d ≡ within a (i + 1) f n (get_or l n d)) e same) (λ lt. other k h (λ e. omega arith)) (eq-or-lt_of_le r))
          (λ (r : k < i). other k h (λ e. omega arith))
          (le_or_lt i k)

  -- one more element, in the list or not: past the end neither side changes anything, so a caller need not know the length
  pub within_step : (a i : ℕ) (d : A) (l : List A) → a ≤ i
      → set (mapi (within a i f) l) i (f i (get_or (mapi (within a i f) l) i d)) ≡ mapi (within a (i + 1) f) l
  within_step a i d l p =
      ⊎_elim
      (λ (q : length l ≤ i). set_out m i (f i (get_or m i d)) (subst (λ (n : ℕ). n ≤ i) (sym (length_mapi (within a i f) l)) q)
      ∙ mapi_is (within a (i + 1) f) l m d d (length_mapi (within a i f) l) (λ k h. get_d_mapi (within a i f) l k d d h ∙ within_kept a i k (get_or l k d) (λ e. omega arith)))
      (λ (q : i < length l). within_more a i d l p q)
      (le_or_lt (length l) i)
    where
      m : List A
      m = mapi (within a i f) l

  pub within_none : (a : ℕ) (d : A) (l : List A) → mapi (within a a f) l ≡ l
  within_none a d l =
      sym (mapi_is (within a a f) l l d d refl (λ k h. ⊎_elim (λ p. sym (within_high a a k (get_or l k d) p)) (λ p. sym (within_low a a k (get_or l k d) p)) (le_or_lt a k)))

  pub within_join : (a b c : ℕ) (d : A) (l : List A) → a ≤ b → b ≤ c → mapi (within b c f) (mapi (within a b f) l) ≡ mapi (within a c f) l
  within_join a b c d l p q =
      mapi_is (within a c f) l (mapi (within b c f) m) d d (length_mapi (within b c f) m ∙ length_mapi (within a b f) l)
      (λ k h. get_d_mapi (within b c f) m k d d (subst (λ (n : ℕ). k < n) (sym (length_mapi (within a b f) l)) h) ∙ ap (within b c f k) (get_d_mapi (within a b f) l k d d h) ∙ both k (get_or l k d))
    where
      m : List A
      m = mapi (within a b f) l

      both : (k : ℕ) (x : A) → within b c f k (within a b f k x) ≡ within a c f k x
      both k x =
          ⊎_elim
          (λ (r : b ≤ k). ap (within b c f k) (within_high a b k x r)
          ∙ ⊎_elim (λ (t : c ≤ k). within_high b c k x t ∙ sym (within_high a c k x t)) (λ (t : k < c). within_in b c k x r t ∙ sym (within_in a c k x (omega arith) t)) (le_or_lt c k))
          (λ (r : k < b). within_low b c k (within a b f k x) r
          ∙ ⊎_elim (λ (t : a ≤ k). within_in a b k x t r ∙ sym (within_in a c k x t (omega arith))) (λ (t : k < a). within_low a b k x t ∙ sym (within_low a c k x t)) (le_or_lt a k))
          (le_or_lt b k)

  pub within_all : (b : ℕ) (d : A) (l : List A) → length l ≤ b → mapi (within 0 b f) l ≡ mapi f l
  within_all b d l p = mapi_is f l (mapi (within 0 b f) l) d d (length_mapi (within 0 b f) l) (λ k h. get_d_mapi (within 0 b f) l k d d h ∙ within_in 0 b k (get_or l k d) zero-le (omega arith))

pub within_cong : {A : Type 0} (f g : ℕ → A → A) (a b : ℕ) (d : A) (l : List A) → ((k : ℕ) (x : A) → a ≤ k → k < b → f k x ≡ g k x) → mapi (within a b f) l ≡ mapi (within a b g) l
within_cong f g a b d l e =
    mapi_is (within a b g) l (mapi (within a b f) l) d d (length_mapi (within a b f) l)
    (λ k h. get_d_mapi (within a b f) l k d d h ∙ ⊎_elim (λ (t : a ≤ k). ⊎_elim
    (λ (u : b ≤ k). within_high f a b k (get_or l k d) u ∙ sym (within_high g a b k (get_or l k d) u))
    (λ (u : k < b). within_in f a b k (get_or l k d) t u ∙ e k (get_or l k d) t u ∙ sym (within_in g a b k (get_or l k d) t u)) (le_or_lt b k))
    (λ (t : k < a). within_low f a b k (get_or l k d) t ∙ sym (within_low g a b k (get_or l k d) t)) (le_or_lt a k))

map_from_replicate : {A B : Type 0} (j n : ℕ) (f : ℕ → A → B) (b : A) → map_from j f (replicate n b) ≡ tab_from j n (λ k. f k b)
unfolding map_from tab_from
map_from_replicate j zero f b = refl
map_from_replicate j (suc n) f b = ap (◌∷◌ (f j b)) (map_from_replicate (suc j) n f b)

pub mapi_replicate : {A B : Type 0} (n : ℕ) (f : ℕ → A → B) (b : A) → mapi f (replicate n b) ≡ tabulate n (λ k. f k b)
mapi_replicate n f b = map_from_replicate 0 n f b

get_d_tab_from : {A : Type 0} (j n : ℕ) (f : ℕ → A) (k : ℕ) (d : A) → k < n → get_or (tab_from j n f) k d ≡ f (j + k)
unfolding tab_from
get_d_tab_from j zero f k d h = absurd (not-suc-le-zero h)
get_d_tab_from j (suc n) f zero d h = ap f (sym (add-zero j))
get_d_tab_from j (suc n) f (suc k) d h = get_d_tab_from (suc j) n f k d (le_of_suc-le-suc h) ∙ ap f (suc-add j k ∙ sym (add-suc j k))

pub get_d_tabulate : {A : Type 0} (n : ℕ) (f : ℕ → A) (k : ℕ) (d : A) → k < n → get_or (tabulate n f) k d ≡ f k
get_d_tabulate n f k d h = get_d_tab_from 0 n f k d h ∙ ap f (zero-add k)
