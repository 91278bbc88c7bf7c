-- Counting into tiles. `ts` is the tile of each reference, in order; the tiles' counts are a list, and each reference adds one to its tile's.
-- A reference's slice number is its tile's count before. Assumes nothing.
use Rattle.std.specs.Prelude.{◌≡◌, refl, ◌≢◌, List, [], ◌∷◌, ◌++◌, ℕ, zero, suc, ◌+◌, ◌-◌, ◌<◌, length, get_or, set, take, replicate}
use Rattle.std.proofs.Common.{sym, ap, ◌∙◌, not-suc-le-zero, le_of_suc-le-suc, zero-add, add-zero, add-one, arith, length-set, get_or-set_same, get_or-set_other}
use Rattle.std.proofs.Math.Decide.{ℕ_discrete}
use Rattle.std.proofs.lemmas.List.{length-replicate}
use Rattle.lists.specs.Run.{All}
use Rattle.lists.specs.Sums.{sum, sum_set, sum_replicate_zero, from}
use Rattle.lists.specs.Occ.{is, occ, is_same, is_other}

-- one more in tile t
abbrev pub bump : List ℕ → ℕ → List ℕ
bump l t = set l t (get_or l t 0 + 1)

-- the counts after the references whose tiles are ts
abbrev pub tally : List ℕ → List ℕ → List ℕ
tally l [] = l
tally l (t ∷ ts) = tally (bump l t) ts

-- the slice number of each reference
abbrev pub slices : List ℕ → List ℕ → List ℕ
slices l [] = []
slices l (t ∷ ts) = get_or l t 0 ∷ slices (bump l t) ts

-- each tile is below n
abbrev pub Below : ℕ → List ℕ → Type 0
Below n [] = Unit {0}
Below n (t ∷ ts) = (t < n) × Below n ts

pub below_at : (n : ℕ) (ts : List ℕ) (i : ℕ) → Below n ts → i < length ts → get_or ts i 0 < n
below_at n [] i b h = absurd (not-suc-le-zero h)
below_at n (t ∷ ts) zero b h = b.0
below_at n (t ∷ ts) (suc i) b h = below_at n ts i b.1 (le_of_suc-le-suc h)

-- ---- batches

pub tally_append : (l xs ys : List ℕ) → tally l (xs ++ ys) ≡ tally (tally l xs) ys
tally_append l [] ys = refl
tally_append l (x ∷ xs) ys = tally_append (bump l x) xs ys

pub slices_append : (l xs ys : List ℕ) → slices l (xs ++ ys) ≡ slices l xs ++ slices (tally l xs) ys
slices_append l [] ys = refl
slices_append l (x ∷ xs) ys = ap (λ (r : List ℕ). get_or l x 0 ∷ r) (slices_append (bump l x) xs ys)

pub length_tally : (l ts : List ℕ) → length (tally l ts) ≡ length l
length_tally l [] = refl
length_tally l (t ∷ ts) = length_tally (bump l t) ts ∙ length-set l t (get_or l t 0 + 1)

pub length_slices : (l ts : List ℕ) → length (slices l ts) ≡ length ts
length_slices l [] = refl
length_slices l (t ∷ ts) = ap suc (length_slices (bump l t) ts)

-- ---- one step: tile t has one more, if t is the one that was hit
pub bump_at : (l : List ℕ) (x t : ℕ) → t < length l → get_or (bump l x) t 0 ≡ get_or l t 0 + is x t
bump_at l x t h = go (ℕ_discrete x t)
  where
    go : Dec (x ≡ t) → get_or (bump l x) t 0 ≡ get_or l t 0 + is x t
    go (yes e) = rw (e, get_or-set_same l t (get_or l t 0 + 1) 0 h) (omega (arith, is_same t t refl))
    go (no e) = rw (get_or-set_other l x t (get_or l x 0 + 1) 0 (λ q. e (sym q)), is_other x t e) (omega arith)

-- ---- tiles that all differ

abbrev pub Distinct : List ℕ → Type 0
Distinct [] = Unit {0}
Distinct (t ∷ ts) = All (λ u. u ≢ t) ts × Distinct ts

-- T2. Each tile's count grows by the number of references whose tile it is
pub tally_at : (l ts : List ℕ) (t : ℕ) → t < length l → get_or (tally l ts) t 0 ≡ get_or l t 0 + occ t ts
tally_at l [] t h = omega arith
tally_at l (x ∷ ts) t h = omega (arith, tally_at (bump l x) ts t (rw length-set h), bump_at l x t h)

-- T2. The sum of the counts grows by the number of references
pub sum_tally : (l ts : List ℕ) → Below (length l) ts → sum (tally l ts) ≡ sum l + length ts
sum_tally l [] b = omega arith
sum_tally l (t ∷ ts) b = omega (arith, sum_tally (bump l t) ts (rw length-set b.1), sum_set l t (get_or l t 0 + 1) b.0)

-- T2. The slice number of reference i: how many of its tile stand before it
pub slice_at : (l ts : List ℕ) (i : ℕ) → i < length ts → get_or ts i 0 < length l
    → get_or (slices l ts) i 0 ≡ get_or l (get_or ts i 0) 0 + occ (get_or ts i 0) (take i ts)
slice_at l [] i h b = absurd (not-suc-le-zero h)
slice_at l (t ∷ ts) zero h b = omega arith
slice_at l (t ∷ ts) (suc i) h b =
    omega (arith, slice_at (bump l t) ts i (le_of_suc-le-suc h) (rw length-set b), bump_at l t (get_or ts i 0) b)

-- those of xs that stand where ts has t, in order
abbrev pub pick_if : ℕ → ℕ → List ℕ → List ℕ
pick_if zero x r = r
pick_if (suc n) x r = x ∷ r

abbrev pub of_tile : ℕ → List ℕ → List ℕ → List ℕ
of_tile t [] xs = []
of_tile t (u ∷ ts) [] = []
of_tile t (u ∷ ts) (x ∷ xs) = pick_if (is u t) x (of_tile t ts xs)

-- T2. The slice numbers of the references of tile t, in order: the count before, the next, .., as many as there are
pub slices_of_tile : (l ts : List ℕ) (t : ℕ) → t < length l → of_tile t ts (slices l ts) ≡ from (get_or l t 0) (occ t ts)
slices_of_tile l [] t h = refl
slices_of_tile l (u ∷ ts) t h = go (ℕ_discrete u t) (slices_of_tile (bump l u) ts t (rw length-set h))
  where
    go : Dec (u ≡ t) → of_tile t ts (slices (bump l u) ts) ≡ from (get_or (bump l u) t 0) (occ t ts)
        → pick_if (is u t) (get_or l u 0) (of_tile t ts (slices (bump l u) ts)) ≡ from (get_or l t 0) (is u t + occ t ts)
    go (yes e) ih =
        let one_more : 1 + occ t ts ≡ suc (occ t ts) = omega arith in
        rw (ih, bump_at l u t h, is_same u t e, one_more, add-one, e)
    go (no e) ih = rw (ih, bump_at l u t h, is_other u t e, zero-add, add-zero)

-- ---- from zeroed tiles

abbrev pub zeros : ℕ → List ℕ
zeros n = replicate n 0

pub zeros_at : (n t : ℕ) → get_or (zeros n) t 0 ≡ 0
zeros_at zero t = refl
zeros_at (suc n) zero = refl
zeros_at (suc n) (suc t) = zeros_at n t

module _ (n : ℕ) (ts : List ℕ) where
  -- T2. each tile's count is the number of references whose tile it is
  pub count_is_occ : (t : ℕ) → t < n → get_or (tally (zeros n) ts) t 0 ≡ occ t ts
  count_is_occ t h =
      tally_at (zeros n) ts t (rw length-replicate h) ∙ rw (zeros_at n t) (omega arith)

  -- T2. the sum of the counts is the number of references
  pub count_sum : Below n ts → sum (tally (zeros n) ts) ≡ length ts
  count_sum b = sum_tally (zeros n) ts (rw length-replicate b) ∙ rw (sum_replicate_zero n) (omega arith)

  -- T2. a reference's slice number is the number of references of its tile that stand before it
  pub slice_is_occ : (i : ℕ) → i < length ts → get_or ts i 0 < n → get_or (slices (zeros n) ts) i 0 ≡ occ (get_or ts i 0) (take i ts)
  slice_is_occ i h b =
      slice_at (zeros n) ts i h (rw length-replicate b) ∙ rw (zeros_at n (get_or ts i 0)) (omega arith)

  -- T2. the slice numbers of tile t, in order, are 0, 1, .., its count less one
  pub slices_are_from : (t : ℕ) → t < n → of_tile t ts (slices (zeros n) ts) ≡ from 0 (get_or (tally (zeros n) ts) t 0)
  slices_are_from t h =
      slices_of_tile (zeros n) ts t (rw length-replicate h) ∙ rw (zeros_at n t, count_is_occ t h)
