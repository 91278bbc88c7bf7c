-- A part of a list put over a part of another: that is a range copied. Assumes nothing.
use mathlib.Core.Path.{◌≡◌, sym, ap, ◌∙◌}
use mathlib.Core.Bool.{Bool, cond}
use mathlib.Core.List.{List, ◌++◌}
use mathlib.Core.Logic.{inl, inr, ⊎_elim}
use Prim.Native.Nat.{ℕ, ◌+◌, ◌-◌, ◌<◌, ◌≤◌}
use native.Mathlib.Omega.{arith}
use lib.ListN.{length, get_or, take, drop, get_or-append, length-append, length-drop}
use lib.Seq.{get_or-append_right, get_or-take, get_or-drop, length-take-le}
use borrow.Rule.Slice.PartMut.{put_mid, post_of}
use Rattle.lists.specs.GridLaws.{le_or_lt, mapi_is}
use Rattle.ranges.specs.Ranges.{copied_of}
use Rattle.ranges.proofs.RangeLaws.{inside, outside}

module _ {A : Type 0} (d : A) (from : List A) (a b n : ℕ) (xs ys : List A) (fits : b + n ≤ length xs) (long : length ys ≡ n)
    (is : (j : ℕ) → j < n → get_or ys j d ≡ get_or from (a + j) d) where
  front : length (take b xs) ≡ b
  front = length-take-le b xs (omega arith)

  abbrev m : List A
  m = put_mid b n xs ys

  ends : length (post_of b n xs) ≡ length xs - b - n
  ends = length-drop n (drop b xs) ∙ ap (λ (k : ℕ). k - n) (length-drop b xs)

  as_long : length m ≡ length xs
  as_long = length-append (take b xs) _ ∙ ap (λ (k : ℕ). length (take b xs) + k) (length-append ys _) ∙ omega (arith, front, long, ends, fits)

  before : (k : ℕ) → k < b → get_or m k d ≡ get_or xs k d
  before k h = get_or-append (take b xs) _ d k (omega (arith, front)) ∙ get_or-take b xs k d h

  later : (k : ℕ) → b ≤ k → get_or m k d ≡ get_or (ys ++ post_of b n xs) (k - b) d
  later k h = get_or-append_right (take b xs) _ k d (omega (arith, front)) ∙ ap (λ (i : ℕ). get_or (ys ++ post_of b n xs) (k - i) d) front

  among : (k : ℕ) → b ≤ k → k < b + n → get_or m k d ≡ get_or from (a + (k - b)) d
  among k p q = later k p ∙ get_or-append ys _ d (k - b) (omega (arith, long)) ∙ is (k - b) (omega arith)

  after : (k : ℕ) → b + n ≤ k → get_or m k d ≡ get_or xs k d
  after k h =
      later k (omega arith) ∙ get_or-append_right ys _ (k - b) d (omega (arith, long)) ∙ get_or-drop n (drop b xs) _ d ∙ get_or-drop b xs _ d
      ∙ ap (λ (i : ℕ). get_or xs i d) (omega (arith, long))

  pub pasted : m ≡ copied_of d from a b n xs
  unfolding copied_of
  pasted = mapi_is _ xs m d d as_long (λ k h. ⊎_elim (λ (p : b ≤ k). ⊎_elim
      (λ (q : b + n ≤ k). after k q ∙ sym (ap (λ (w : Bool). cond w (get_or from (a + (k - b)) d) (get_or xs k d)) (outside b (b + n) k (inr q))))
      (λ (q : k < b + n). among k p q ∙ sym (ap (λ (w : Bool). cond w (get_or from (a + (k - b)) d) (get_or xs k d)) (inside b (b + n) k p q))) (le_or_lt (b + n) k))
      (λ (p : k < b). before k p ∙ sym (ap (λ (w : Bool). cond w (get_or from (a + (k - b)) d) (get_or xs k d)) (outside b (b + n) k (inl p))))
      (le_or_lt b k))

-- the n elements from a on, cut out and put over those from b on
pub copied : {A : Type 0} (d : A) (from : List A) (a b n i k : ℕ) (xs ys : List A) → a + n ≤ length from → b + n ≤ length xs → i ≡ n → k ≡ n
    → ys ≡ take i (drop a from) → put_mid b k xs ys ≡ copied_of d from a b n xs
copied d from a b n i k xs ys p q e f cut =
    ap (λ (z : ℕ). put_mid b z xs ys) f
    ∙ pasted d from a b n xs ys q (ap length cut ∙ length-take-le i (drop a from) (omega (arith, length-drop a from, p, e)) ∙ e)
    (λ j h. ap (λ (l : List _). get_or l j d) cut ∙ get_or-take i (drop a from) j d (omega arith) ∙ get_or-drop a from j d)
