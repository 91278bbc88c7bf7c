-- What a line's checks tell, and all lines'. Assumes nothing.
use mathlib.Core.Path.{◌≡◌, refl, sym, ◌∙◌}
use mathlib.Core.Bool.{true, false, ◌&&◌}
use mathlib.Core.List.{List, [], ◌∷◌}
use Prim.Native.Nat.{ℕ, zero, suc, ◌+◌, ◌-◌, ◌≤◌, ◌<◌}
use native.Mathlib.Numerals.{add-one}
use native.Mathlib.Decide.{ℕ_discrete}
use native.Mathlib.Omega.{arith}
use lib.Dec.{ltb}
use lib.ListN.{get_or}
use lib.Ieee.{Float}
use borrow.Author.Tests.{lt-ltb, le-ltb, ltb-true}
use Rattle.panel.specs.Limits.{most_lines, edge_most}
use Rattle.panel.specs.Refusals.{bad_box, line_number, coordinate, no_such}
use Rattle.panel.specs.Checks.{check, first_no, unless}
use Rattle.panel.specs.Lines.{line_at}
use Rattle.panel.specs.Answer.{Answer}
use Rattle.panel.specs.Answer.{Done, Refused}
use Rattle.panel.specs.declared.lines.LineEnds.{LineEnds}
use Rattle.panel.proofs.BoolLaws.{both}
use Rattle.panel.proofs.CheckLaws.{all_ok, unless_done}
use Rattle.walk.specs.Lent.{reached_of}
use Rattle.end_tiles.specs.Lines.{tile_at, in_tiles, line_answer, onward, lines_from, LineOk}

-- ---- one line

module _ (e : LineEnds) (path n l : ℕ) where
  pub line_five : most_lines ≤ l → line_answer e path n l ≡ Refused line_number l
  unfolding line_answer
  line_five h = rw (le-ltb l most_lines h)

  pub line_six : l < most_lines → reached_of e.p0 e.p1 ≡ false → line_answer e path n l ≡ Refused coordinate l
  unfolding line_answer
  line_six h r = rw (lt-ltb l most_lines h, r)

  pub line_seven : l < most_lines → reached_of e.p0 e.p1 ≡ true → n ≤ path → line_answer e path n l ≡ Refused no_such l
  unfolding line_answer
  line_seven h r k = rw (lt-ltb l most_lines h, r, le-ltb path n k)

  pub line_three : l < most_lines → reached_of e.p0 e.p1 ≡ true → path < n → (in_tiles e.p0 && in_tiles e.p1) ≡ false
      → line_answer e path n l ≡ Refused bad_box path
  unfolding line_answer
  line_three h r k t = rw (lt-ltb l most_lines h, r, lt-ltb path n k, t)

  pub line_done : l < most_lines → reached_of e.p0 e.p1 ≡ true → path < n → (in_tiles e.p0 && in_tiles e.p1) ≡ true → line_answer e path n l ≡ Done
  unfolding line_answer
  line_done h r k t = rw (lt-ltb l most_lines h, r, lt-ltb path n k, t)

  -- what a line that passes is
  pub line_ok : line_answer e path n l ≡ Done → LineOk e path n l
  unfolding line_answer in_tiles
  line_ok q =
      let cs = check (ltb l most_lines) line_number ∷ check (reached_of e.p0 e.p1) coordinate ∷ check (ltb path n) no_such ∷ [] in
      let u = unless_done (first_no cs) l (unless (first_no (check (in_tiles e.p0 && in_tiles e.p1) bad_box ∷ [])) path Done) q in
      let k = all_ok cs u.0 in
      let v = unless_done (first_no (check (in_tiles e.p0 && in_tiles e.p1) bad_box ∷ [])) path Done u.1 in
      let b = both (in_tiles e.p0) (in_tiles e.p1) (all_ok (check (in_tiles e.p0 && in_tiles e.p1) bad_box ∷ []) v.0).0 in
      let s = both (ltb (tile_at e.p0.x) edge_most) (ltb (tile_at e.p0.y) edge_most) b.0 in
      let t = both (ltb (tile_at e.p1.x) edge_most) (ltb (tile_at e.p1.y) edge_most) b.1 in
      record {
        numbered = ltb-true l most_lines k.0;
        reached = k.1.0;
        there = ltb-true path n k.1.1.0;
        p0x = ltb-true (tile_at e.p0.x) edge_most s.0;
        p0y = ltb-true (tile_at e.p0.y) edge_most s.1;
        p1x = ltb-true (tile_at e.p1.x) edge_most t.0;
        p1y = ltb-true (tile_at e.p1.y) edge_most t.1;
      }

-- ---- line after line

onward_done : (a b : Answer) → onward a b ≡ Done → (a ≡ Done) × (b ≡ Done)
onward_done Done b e = (refl, e)
onward_done (Refused why item) b e = let z : ◌≡◌ {A = ℕ} 0 1 = cc in absurd (omega arith)

module _ (nos : List ℕ) (coords : List Float) (n : ℕ) where
  lines_suc : (more l : ℕ) → lines_from nos coords n (suc more) l ≡ onward (line_answer (line_at coords l) (get_or nos l 0) n l) (lines_from nos coords n more (suc l))
  unfolding lines_from
  lines_suc more l = refl

  -- a turn of the loop over all lines, and its ends
  pub lines_turn : (all l : ℕ) → l < all → line_answer (line_at coords l) (get_or nos l 0) n l ≡ Done → lines_from nos coords n (all - l) l ≡ lines_from nos coords n (all - (l + 1)) (l + 1)
  lines_turn all l h e =
      let one_more : all - l ≡ suc (all - suc l) = omega arith in
      rw (one_more, add-one) (lines_suc (all - suc l) l ∙ rw e)

  pub lines_no : (all l why item : ℕ) → l < all → line_answer (line_at coords l) (get_or nos l 0) n l ≡ Refused why item → lines_from nos coords n (all - l) l ≡ Refused why item
  lines_no all l why item h e =
      let one_more : all - l ≡ suc (all - suc l) = omega arith in
      rw one_more (lines_suc (all - suc l) l ∙ rw e)

  pub lines_end : (all l : ℕ) → all ≤ l → lines_from nos coords n (all - l) l ≡ Done
  unfolding lines_from
  lines_end all l h = let none_left : all - l ≡ 0 = omega arith in rw none_left

  -- where all pass, each does
  pub each_line : (more l : ℕ) → lines_from nos coords n more l ≡ Done → (i : ℕ) → l ≤ i → i < l + more → LineOk (line_at coords i) (get_or nos i 0) n i
  each_line zero l e i p q = absurd (omega arith)
  each_line (suc more) l e i p q =
      go (onward_done (line_answer (line_at coords l) (get_or nos l 0) n l) (lines_from nos coords n more (suc l)) (sym (lines_suc more l) ∙ e)) (each_line more (suc l)) (ℕ_discrete l i)
    where
      go : (line_answer (line_at coords l) (get_or nos l 0) n l ≡ Done) × (lines_from nos coords n more (suc l) ≡ Done)
          → (lines_from nos coords n more (suc l) ≡ Done → (j : ℕ) → suc l ≤ j → j < suc l + more → LineOk (line_at coords j) (get_or nos j 0) n j)
          → Dec (l ≡ i) → LineOk (line_at coords i) (get_or nos i 0) n i
      go f ih (yes s) = rw (← s) (line_ok (line_at coords l) (get_or nos l 0) n l f.0)
      go f ih (no s) = ih f.1 i (omega arith) (omega arith)
