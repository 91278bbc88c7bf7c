-- What a record that was made reads back as: its path's box, the first tile past those before it, its beam number. Assumes nothing.
use mathlib.Core.Path.{◌≡◌, ap, ap₂, ◌∙◌}
use mathlib.Core.List.{List, map}
use Prim.Native.Nat.{ℕ, zero, suc, ◌+◌, ◌<◌}
use native.Mathlib.Omega.{arith}
use lib.ListN.{get_or}
use Rattle.lists.specs.Sums.{sum, from}
use Rattle.panel.specs.Paths.{path_at, beam_at, end_of}
use Rattle.panel.specs.declared.kinds.Path.{Path}
use Rattle.panel.proofs.RecordLaws.{path_first, beam_first, path_next, beam_next}
use Rattle.box_records.specs.Records.{area_of_word, records_from}

-- one more at the end of a sum
sum_more : (f : ℕ → ℕ) (k n : ℕ) → sum (map f (from k (suc n))) ≡ sum (map f (from k n)) + f (k + n)
sum_more f k zero = let z : k + 0 ≡ k = omega arith in rw z (omega arith)
sum_more f k (suc n) = let z : k + suc n ≡ suc k + n = omega arith in rw z (omega (arith, sum_more f (suc k) n))

pub sum_next : (f : ℕ → ℕ) (n : ℕ) → sum (map f (from 0 (suc n))) ≡ sum (map f (from 0 n)) + f n
sum_next f n = let z : 0 + n ≡ n = omega arith in sum_more f 0 n ∙ ap (λ (j : ℕ). sum (map f (from 0 n)) + f j) z

module _ (box : ℕ → ℕ → Path) (beams : List ℕ) (first_is : (k t : ℕ) → (box k t).first ≡ t) (area_is : (k t : ℕ) → area_of_word (box k t) ≡ area_of_word (box k 0)) where
  abbrev areas : ℕ → ℕ
  areas k = area_of_word (box k 0)

  end_is : (k t : ℕ) → end_of (box k t) ≡ t + areas k
  end_is k t = ap₂ (λ (a b : ℕ). a + b) (first_is k t) (area_is k t)

  pub record_at : (more k first i : ℕ) → i < more → path_at (records_from box beams more k first) i ≡ box (k + i) (first + sum (map (λ j. area_of_word (box j 0)) (from k i)))
  record_at zero k first i h = absurd (omega arith)
  record_at (suc more) k first zero h =
      let z : k + 0 ≡ k = omega arith in
      let y : first + 0 ≡ first = omega arith in
      path_first (box k first) (get_or beams k 0) (records_from box beams more (suc k) (end_of (box k first))) ∙ rw (z, y)
  record_at (suc more) k first (suc i) h =
      let z : suc k + i ≡ k + suc i = omega arith in
      let e = end_is k first in
      let y : end_of (box k first) + sum (map (λ j. area_of_word (box j 0)) (from (suc k) i)) ≡ first + sum (map (λ j. area_of_word (box j 0)) (from k (suc i))) = omega (arith, e) in
      path_next (box k first) (get_or beams k 0) (records_from box beams more (suc k) (end_of (box k first))) i
      ∙ record_at more (suc k) (end_of (box k first)) i (omega arith)
      ∙ ap₂ box z y

  pub beam_is : (more k first i : ℕ) → i < more → beam_at (records_from box beams more k first) i ≡ get_or beams (k + i) 0
  beam_is zero k first i h = absurd (omega arith)
  beam_is (suc more) k first zero h =
      let z : k + 0 ≡ k = omega arith in
      beam_first (box k first) (get_or beams k 0) (records_from box beams more (suc k) (end_of (box k first))) ∙ rw z
  beam_is (suc more) k first (suc i) h =
      let z : suc k + i ≡ k + suc i = omega arith in
      beam_next (box k first) (get_or beams k 0) (records_from box beams more (suc k) (end_of (box k first))) i
      ∙ beam_is more (suc k) (end_of (box k first)) i (omega arith)
      ∙ ap (λ (j : ℕ). get_or beams j 0) z
