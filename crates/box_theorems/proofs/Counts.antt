-- A count over boxes made with a margin of a tile or more, of lines that lie a tile and more from 0 and from the edge limit: all lines are counted, or the room
-- for references ends. Assumes nothing.
--     count_called   the count's first checks pass
--     boxes_count    all lines are counted, or 9 is answered where the room ends
use mathlib.Core.Path.{◌≡◌, ap, ◌∙◌}
use mathlib.Core.List.{List}
use Prim.Native.Nat.{ℕ, ◌/◌, ◌%◌, ◌≤◌, ◌<◌}
use native.Mathlib.Omega.{arith}
use lib.ListN.{length, replicate, length-replicate}
use lib.IntN.{pos}
use lib.Ieee.{Float}
use borrow.Author.Tests.{eq-eqb, le-leb, eqb-true}
use Rattle.lists.specs.Tally.{zeros}
use Rattle.panel.specs.Limits.{most_tiles}
use Rattle.panel.specs.Widths.{line_floats, ref_words}
use Rattle.panel.specs.Paths.{paths_answer}
use Rattle.panel.specs.Answer as Answer
use Rattle.panel.proofs.CheckLaws.{all_ok, none_fails, unless_fine}
use Rattle.path_count.specs.Count.{lent_checks, call_answer}
use Rattle.theorems.proofs.SumLaws.{start_of}
use Rattle.margin_theorems.specs.Fit.{FitCount}
use Rattle.margin_theorems.proofs.Counts.{count_fit}
use Rattle.boxes.specs.Boxes as Boxes
use Rattle.boxes.specs.Boxes.{BoxesMet}
use Rattle.boxes.specs.Boxed.{Done}
use Rattle.box_theorems.specs.Made.{InnerLine}
use Rattle.box_theorems.proofs.Ways.{made_told}
use Rattle.box_theorems.proofs.Paths.{paths_checked}
use Rattle.box_theorems.proofs.Ends.{line_fit}

module _ (nos : List ℕ) (coords : List Float) (beams : List ℕ) (m : ℕ) (paths work : List ℕ) (tiles : ℕ) (ps us : List ℕ)
    (met : BoxesMet nos coords beams m paths work (Done tiles) ps us) (n : ℕ) (enough : tiles ≤ n) (few : n ≤ most_tiles)
    (refs : List ℕ) (whole : length refs % ref_words ≡ 0) where
  -- A count of all lines over the paths made passes its first checks
  pub count_called : call_answer nos coords ps 0 (length nos) (start_of n refs) ≡ Answer.Done
  unfolding call_answer
  count_called =
      let k = all_ok (Boxes.lent_checks (length nos) (length coords) (length paths) (length beams) (length work)) (made_told nos coords beams m paths work tiles ps us met).lent in
      let lines : length nos ≡ length coords / line_floats = eqb-true _ _ k.1.0 in
      let b : length (replicate n (pos 0)) ≡ n = length-replicate n (pos 0) in
      let c : length (zeros n) ≡ n = length-replicate n 0 in
      let row = none_fails (lent_checks (length nos) (length coords) (length (replicate n (pos 0))) (length (zeros n)) (length refs) 0 (length nos))
      (k.0, (k.1.0, (eq-eqb _ _ (b ∙ rw c), (eq-eqb _ _ whole, (le-leb 0 (length nos) (omega arith), (le-leb (length nos) (length coords / line_floats) (omega arith), tt)))))) in
      unless_fine _ 0 _ row ∙ ap (paths_answer ps) c ∙ paths_checked nos coords beams m paths work tiles ps us met n enough few

  -- With a margin, and lines well inside: all lines are counted, or 9 is answered where the room for references ends
  pub boxes_count : 1 ≤ m → ((l : ℕ) → l < length nos → InnerLine coords l) → FitCount (length nos) nos coords ps n refs
  boxes_count h inner =
      count_fit (length nos) nos coords ps n refs count_called (λ l q. line_fit nos coords beams m paths work tiles ps us met l q h (inner l q))
