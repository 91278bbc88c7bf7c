-- Records one after another, and sums of tiles. Assumes nothing.
use mathlib.Core.Path.{◌≡◌, refl, ap, ap₂, ◌∙◌}
use mathlib.Core.List.{List, ◌++◌, map, append-nil}
use Prim.Native.Nat.{ℕ, zero, suc, ◌+◌, ◌-◌, ◌*◌, ◌≤◌, ◌<◌}
use native.Mathlib.Numerals.{add-one}
use native.Mathlib.Omega.{arith}
use lib.ListN.{length, get_or, drop_of_length-le}
use lib.Seq.{sets, sets-eq}
use Rattle.lists.specs.Cells.{sets_append}
use Rattle.lists.specs.Sums.{sum, from}
use Rattle.panel.specs.Widths.{path_words}
use Rattle.panel.specs.Paths.{path_record, end_of}
use Rattle.panel.specs.declared.kinds.Path.{Path}
use Rattle.box_records.specs.Records.{records_from}

-- ---- records

module _ (box : ℕ → ℕ → Path) (beams : List ℕ) where
  pub length_records : (more k first : ℕ) → length (records_from box beams more k first) ≡ more * path_words
  length_records zero k first = refl
  length_records (suc more) k first = omega (arith, length_records more (suc k) (end_of (box k first)))

  -- a turn of a loop that writes them
  pub put_turn : (n k first : ℕ) (ws : List ℕ) → k < n
      → sets ws (k * path_words) (records_from box beams (n - k) k first)
      ≡ sets (sets ws (k * path_words) (path_record (box k first) (get_or beams k 0))) ((k + 1) * path_words) (records_from box beams (n - (k + 1)) (k + 1) (end_of (box k first)))
  put_turn n k first ws h =
      let one_more : n - k ≡ suc (n - suc k) = omega arith in
      let on : k * path_words + path_words ≡ suc k * path_words = omega arith in
      rw (one_more, add-one) (sets_append (path_record (box k first) (get_or beams k 0)) (records_from box beams (n - suc k) (suc k) (end_of (box k first))) ws (k * path_words)
      ∙ ap (λ (i : ℕ). sets (sets ws (k * path_words) (path_record (box k first) (get_or beams k 0))) i (records_from box beams (n - suc k) (suc k) (end_of (box k first)))) on)

  pub put_end : (n k first : ℕ) (ws : List ℕ) → n ≤ k → sets ws (k * path_words) (records_from box beams (n - k) k first) ≡ ws
  put_end n k first ws h = let none_left : n - k ≡ 0 = omega arith in rw none_left

-- the same boxes, the same records
pub records_same : (f g : ℕ → ℕ → Path) (beams : List ℕ) (more k first : ℕ) → ((i : ℕ) → k ≤ i → i < k + more → (t : ℕ) → f i t ≡ g i t)
    → records_from f beams more k first ≡ records_from g beams more k first
records_same f g beams zero k first e = refl
records_same f g beams (suc more) k first e =
    let here : f k first ≡ g k first = e k (omega arith) (omega arith) first in
    ap₂ (λ (p : Path) (r : List ℕ). path_record p (get_or beams k 0) ++ r) here
    (ap (λ (p : Path). records_from f beams more (suc k) (end_of p)) here
    ∙ records_same f g beams more (suc k) (end_of (g k first)) (λ i p q. e i (omega arith) (omega arith)))

-- as many words as there are
pub sets_whole : (vs ws : List ℕ) → length vs ≡ length ws → sets ws 0 vs ≡ vs
sets_whole vs ws e =
    let all : length ws ≤ 0 + length vs = omega arith in
    sets-eq vs ws 0 (omega arith) ∙ ap (λ (r : List ℕ). vs ++ r) (drop_of_length-le ws all) ∙ append-nil vs

-- ---- sums

module _ (f : ℕ → ℕ) where
  pub sum_turn : (n k : ℕ) → k < n → sum (map f (from k (n - k))) ≡ f k + sum (map f (from (k + 1) (n - (k + 1))))
  sum_turn n k h = let one_more : n - k ≡ suc (n - suc k) = omega arith in rw (one_more, add-one)

  pub sum_end : (n k : ℕ) → n ≤ k → sum (map f (from k (n - k))) ≡ 0
  sum_end n k h = let none_left : n - k ≡ 0 = omega arith in rw none_left

pub sum_same : (f g : ℕ → ℕ) (n k : ℕ) → ((i : ℕ) → k ≤ i → i < k + n → f i ≡ g i) → sum (map f (from k n)) ≡ sum (map g (from k n))
sum_same f g zero k e = refl
sum_same f g (suc n) k e = ap₂ (λ (a b : ℕ). a + b) (e k (omega arith) (omega arith)) (sum_same f g n (suc k) (λ i p q. e i (omega arith) (omega arith)))
