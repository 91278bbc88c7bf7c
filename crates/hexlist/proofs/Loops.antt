-- The loops over a row, for every kind of element: one that puts it into a slice, and one that compares. Assumes nothing.
use mathlib.Core.Path.{◌≡◌, refl, sym, ap, ◌∙◌}
use mathlib.Core.Bool.{Bool, true, false, ◌&&◌}
use mathlib.Core.List.{List, [], ◌∷◌}
use Prim.Native.Nat.{ℕ, suc, ◌+◌, ◌≤◌, ◌<◌, zero-le}
use native.Mathlib.Numerals.{add-one}
use native.Mathlib.Omega.{arith}
use lib.ListN.{length, get_or, set, drop}
use lib.Seq.{drop-cons, drop-length}
use Rattle.lists.specs.Grid.{mapi, map_from, within}
use Rattle.lists.specs.GridLaws.{length_mapi, within_step, within_none, within_all}
use Rattle.hexlist.specs.Rows.{same_row}

-- ---- a row put into a slice: the first i elements are done
pub put_none : {A : Type 0} (f : ℕ → A → A) (l : List A) → l ≡ mapi (within 0 0 f) l
unfolding map_from
put_none f [] = refl
put_none f (d ∷ l) = sym (within_none f 0 d (d ∷ l))

put_length : {A : Type 0} (f : ℕ → A → A) (l out : List A) (i : ℕ) → out ≡ mapi (within 0 i f) l → length out ≡ length l
put_length f l out i e = ap length e ∙ length_mapi (within 0 i f) l

-- d is any element
pub put_turn : {A : Type 0} (f : ℕ → A → A) (d : A) (l out : List A) (i : ℕ) (v : A) → out ≡ mapi (within 0 i f) l → v ≡ f i (get_or (mapi (within 0 i f) l) i d) → set out i v ≡ mapi (within 0 (i + 1) f) l
put_turn f d l out i v e h = rw (e, h) (within_step f 0 i d l zero-le)

pub put_all : {A : Type 0} (f : ℕ → A → A) (l out : List A) (i : ℕ) → out ≡ mapi (within 0 i f) l → length out ≤ i → out ≡ mapi f l
unfolding map_from
put_all f [] out i e h = e
put_all f (d ∷ l) out i e h = e ∙ within_all f i d (d ∷ l) (rw (put_length f (d ∷ l) out i e) at h)

-- ---- a row compared with a slice, from element i on
module _ {A : Type 0} (is : A → ℕ → Bool) (word : ℕ → ℕ) (d : A) (xs : List A) (i : ℕ) where
  row_step : i < length xs → same_row is word i (drop i xs) ≡ (is (get_or xs i d) (word i) && same_row is word (suc i) (drop (suc i) xs))
  unfolding same_row
  row_step h = rw (drop-cons xs i d h)

  pub row_more : i < length xs → is (get_or xs i d) (word i) ≡ true → same_row is word (i + 1) (drop (i + 1) xs) ≡ same_row is word i (drop i xs)
  row_more h e = rw (row_step h, e) (ap (λ (n : ℕ). same_row is word n (drop n xs)) (add-one i))

  pub row_less : i < length xs → is (get_or xs i d) (word i) ≡ false → false ≡ same_row is word i (drop i xs)
  row_less h e = rw (row_step h, e)

pub row_done : {A : Type 0} (is : A → ℕ → Bool) (word : ℕ → ℕ) (xs : List A) (i : ℕ) → length xs ≤ i → i ≤ length xs → true ≡ same_row is word i (drop i xs)
unfolding same_row
row_done is word xs i h l = let e : i ≡ length xs = omega arith in rw (e, drop-length)
