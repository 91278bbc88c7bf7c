-- The paths made pass the paths' checks, in any call that is lent at least as many tiles as were told. Assumes nothing.
--     made_at         path k's record: its box, the tiles of those before it, its beam number
--     paths_checked   never 1, 2, 3 or 4
use mathlib.Core.Path.{◌≡◌, refl, sym, ap, ap₂, ◌∙◌}
use mathlib.Core.Bool.{true}
use mathlib.Core.List.{List, map}
use Prim.Native.Nat.{ℕ, zero, suc, ◌+◌, ◌*◌, ◌/◌, ◌%◌, ◌≤◌, ◌<◌}
use native.Mathlib.Nat.{zero-add}
use native.Mathlib.Omega.{arith}
use lib.ListN.{length, get_or}
use lib.Ieee.{Float}
use borrow.Author.Tests.{le-leb, eq-eqb}
use Rattle.lists.specs.Sums.{sum, from}
use Rattle.panel.specs.Limits.{most_paths, most_tiles}
use Rattle.panel.specs.Widths.{path_words}
use Rattle.panel.specs.Paths.{path_at, beam_at, path_count, box_fits, end_of, path_checks, paths_from, paths_answer}
use Rattle.panel.specs.Paths as Paths
use Rattle.panel.specs.declared.kinds.Path.{Path}
use Rattle.panel.specs.Answer as Answer
use Rattle.panel.proofs.CheckLaws.{none_fails, unless_fine}
use Rattle.box_records.specs.Records.{area_of_word}
use Rattle.boxes.specs.Boxes.{ends_from, box_of, tiles_of, BoxesMet}
use Rattle.boxes.specs.Boxed.{Done}
use Rattle.box_records.proofs.RowLaws.{length_records}
use Rattle.boxes.proofs.CallLaws.{lent_told}
use Rattle.box_theorems.proofs.Ways.{MadeTold, made_told}
use Rattle.box_theorems.proofs.Around.{first_of, area_of, box_fits_lem}
use Rattle.box_theorems.proofs.Records.{record_at, beam_is, sum_next}

-- paths whose tiles stand one after another from `end` on
module _ (ws : List ℕ) (tiles : ℕ) (box : ℕ → ℕ → Path) (first_is : (k t : ℕ) → (box k t).first ≡ t) (area_is : (k t : ℕ) → area_of_word (box k t) ≡ area_of_word (box k 0))
    (fits : (k t : ℕ) → box_fits (box k t) ≡ true) where
  abbrev start : ℕ → ℕ
  start k = sum (map (λ j. area_of_word (box j 0)) (from 0 k))

  pub in_order : (n k end : ℕ) → ((i : ℕ) → k ≤ i → i < k + n → path_at ws i ≡ box i (start i)) → end ≡ start k → start (k + n) ≤ tiles → paths_from ws tiles n k end ≡ Answer.Done
  unfolding paths_from
  in_order zero k end f e h = refl
  in_order (suc n) k end f e h =
      let p : path_at ws k ≡ box k (start k) = f k (omega arith) (omega arith) in
      let more : start (suc k) ≡ start k + area_of_word (box k 0) = sum_next (λ j. area_of_word (box j 0)) k in
      let ends : end_of (box k (start k)) ≡ start (suc k) = ap₂ (λ (a b : ℕ). a + b) (first_is k (start k)) (area_is k (start k)) ∙ sym more in
      let z : k + suc n ≡ suc k + n = omega arith in
      let part : start (suc k) ≤ start (suc k + n) = grows n (suc k) in
      let long : start (suc k + n) ≤ tiles = rw z at h in
      rw p (unless_fine _ k _ (none_fails (path_checks (box k (start k)) end tiles)
      (fits k (start k), (le-leb end _ (omega (arith, first_is k (start k))), (le-leb _ tiles (omega (arith, ends)), tt))))
      ∙ in_order n (suc k) (end_of (box k (start k))) (λ i a b. f i (omega arith) (omega arith)) ends long)
    where
      grows : (d j : ℕ) → start j ≤ start (j + d)
      grows zero j = let y : j + 0 ≡ j = omega arith in rw y (omega arith)
      grows (suc d) j =
          let y : j + suc d ≡ suc (j + d) = omega arith in
          rw y (omega (arith, grows d j, sum_next (λ i. area_of_word (box i 0)) (j + d)))

-- ---- the paths made

module _ (nos : List ℕ) (coords : List Float) (beams : List ℕ) (m : ℕ) (paths work : List ℕ) (tiles : ℕ) (ps us : List ℕ)
    (met : BoxesMet nos coords beams m paths work (Done tiles) ps us) where
  told : MadeTold nos coords beams m paths work tiles ps
  told = made_told nos coords beams m paths work tiles ps us met

  first_is : (k t : ℕ) → (box_of nos coords m k t).first ≡ t
  first_is k t = first_of m (ends_from nos coords k (length nos) 0) t

  area_is : (k t : ℕ) → area_of_word (box_of nos coords m k t) ≡ area_of_word (box_of nos coords m k 0)
  area_is k t = area_of m (ends_from nos coords k (length nos) 0) t

  -- path k's record: its box, and the first tile past those of the paths before it
  pub made_at : (k : ℕ) → k < length beams → path_at ps k ≡ box_of nos coords m k (tiles_of nos coords m k)
  made_at k h =
      ap (λ (l : List ℕ). path_at l k) told.records_are ∙ record_at (box_of nos coords m) beams first_is area_is (length beams) 0 0 k h
      ∙ ap₂ (box_of nos coords m) (zero-add k) (zero-add (tiles_of nos coords m k))

  -- and its beam number
  pub made_beam : (k : ℕ) → k < length beams → beam_at ps k ≡ get_or beams k 0
  made_beam k h =
      ap (λ (l : List ℕ). beam_at l k) told.records_are ∙ beam_is (box_of nos coords m) beams first_is area_is (length beams) 0 0 k h
      ∙ ap (λ (j : ℕ). get_or beams j 0) (zero-add k)

  pub made_long : length ps ≡ length beams * path_words
  made_long = ap length told.records_are ∙ length_records (box_of nos coords m) beams (length beams) 0 0

  pub made_count : path_count ps ≡ length beams
  made_count = omega (arith, made_long)

  -- The paths made are never refused, in a call that is lent so many tiles or more
  pub paths_checked : (n : ℕ) → tiles ≤ n → n ≤ most_tiles → paths_answer ps n ≡ Answer.Done
  unfolding paths_answer
  paths_checked n h k =
      let few = (lent_told (length nos) (length coords) (length paths) (length beams) (length work) told.lent).few in
      let whole : length ps % path_words ≡ 0 = omega (arith, made_long) in
      let count : length ps / path_words ≡ length beams = made_count in
      unless_fine _ 0 _ (none_fails (Paths.lent_checks (length ps) n)
      (eq-eqb _ 0 whole, (le-leb (length ps / path_words) most_paths (omega arith), (le-leb n most_tiles k, tt))))
      ∙ ap (λ (c : ℕ). paths_from ps n c 0 0) count
      ∙ in_order ps n (box_of nos coords m) first_is area_is (λ i t. box_fits_lem m (ends_from nos coords i (length nos) 0) t) (length beams) 0 0
      (λ i a b. made_at i (omega arith)) refl (rw (zero-add (length beams)) (omega (arith, told.tiles_are)))
