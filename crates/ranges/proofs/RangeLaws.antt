-- What is in a range that is cleared or copied, and what is outside it. Assumes nothing.
use mathlib.Core.Path.{◌≡◌, refl, sym, ap, ◌∙◌}
use mathlib.Core.Bool.{Bool, true, false, cond, ◌&&◌}
use mathlib.Core.List.{List}
use mathlib.Core.Logic.{◌⊎◌, ⊎_elim}
use Prim.Native.Nat.{ℕ, ◌+◌, ◌-◌, ◌<◌, ◌≤◌, zero-le}
use native.Mathlib.Nat.{zero-add}
use lib.Dec.{leb, ltb}
use lib.ListN.{length, get_or, replicate, length-replicate, get_or-replicate}
use borrow.Author.Tests.{le-leb, lt-leb, lt-ltb, le-ltb}
use Rattle.lists.specs.Grid.{within}
use Rattle.lists.specs.GridLaws.{length_mapi, get_d_mapi, mapi_is}
use Rattle.ranges.specs.Ranges.{cleared_of, copied_of}

-- t lies in the range from a up to b, or outside it
pub inside : (a b t : ℕ) → a ≤ t → t < b → (leb a t && ltb t b) ≡ true
inside a b t p q = simp (le-leb a t p, lt-ltb t b q)

pub outside : (a b t : ℕ) → (t < a) ⊎ (b ≤ t) → (leb a t && ltb t b) ≡ false
outside a b t o = ⊎_elim (λ p. simp (lt-leb a t p)) (λ q. simp (le-ltb t b q) (second (leb a t))) o
  where
    second : (x : Bool) → (x && false) ≡ false
    second true = refl
    second false = refl

module _ {A : Type 0} (z : A) (a n : ℕ) (xs : List A) where
  pub length_cleared : length (cleared_of z a n xs) ≡ length xs
  unfolding cleared_of
  length_cleared = length_mapi (within a (a + n) (λ k x. z)) xs

  pub cleared_in : (t : ℕ) → a ≤ t → t < a + n → t < length xs → get_or (cleared_of z a n xs) t z ≡ z
  unfolding cleared_of
  cleared_in t p q h = get_d_mapi (within a (a + n) (λ k x. z)) xs t z z h ∙ ap (λ (w : Bool). cond w z (get_or xs t z)) (inside a (a + n) t p q)

  pub cleared_out : (t : ℕ) → (t < a) ⊎ (a + n ≤ t) → t < length xs → get_or (cleared_of z a n xs) t z ≡ get_or xs t z
  unfolding cleared_of
  cleared_out t o h =
      get_d_mapi (within a (a + n) (λ k x. z)) xs t z z h ∙ ap (λ (w : Bool). cond w z (get_or xs t z)) (outside a (a + n) t o)

module _ {A : Type 0} (d : A) (from : List A) (a b n : ℕ) (xs : List A) where
  pub length_copied : length (copied_of d from a b n xs) ≡ length xs
  unfolding copied_of
  length_copied = length_mapi (within b (b + n) (λ k x. get_or from (a + (k - b)) d)) xs

  pub copied_in : (t : ℕ) → b ≤ t → t < b + n → t < length xs → get_or (copied_of d from a b n xs) t d ≡ get_or from (a + (t - b)) d
  unfolding copied_of
  copied_in t p q h =
      get_d_mapi (within b (b + n) (λ k x. get_or from (a + (k - b)) d)) xs t d d h
      ∙ ap (λ (w : Bool). cond w (get_or from (a + (t - b)) d) (get_or xs t d)) (inside b (b + n) t p q)

  pub copied_out : (t : ℕ) → (t < b) ⊎ (b + n ≤ t) → t < length xs → get_or (copied_of d from a b n xs) t d ≡ get_or xs t d
  unfolding copied_of
  copied_out t o h =
      get_d_mapi (within b (b + n) (λ k x. get_or from (a + (k - b)) d)) xs t d d h
      ∙ ap (λ (w : Bool). cond w (get_or from (a + (t - b)) d) (get_or xs t d)) (outside b (b + n) t o)

-- a list cleared whole
pub cleared_all : {A : Type 0} (z : A) (xs : List A) → cleared_of z 0 (length xs) xs ≡ replicate (length xs) z
unfolding cleared_of
cleared_all z xs =
    rw (zero-add (length xs)) (sym (mapi_is (within 0 (length xs) (λ k x. z)) xs (replicate (length xs) z) z z (length-replicate (length xs) z)
    (λ k h. get_or-replicate (length xs) k z z h ∙ sym (ap (λ (w : Bool). cond w z (get_or xs k z)) (inside 0 (length xs) k zero-le h)))))
