-- Refusals of a recount are exact: each is given where its ground holds, and nowhere else. Assumes nothing.
use mathlib.Core.Path.{◌≡◌, refl, sym, ap, ◌∙◌}
use mathlib.Core.Logic.{◌↔◌}
use mathlib.Core.Bool.{Bool, true, false, cond}
use mathlib.Core.List.{List}
use Prim.Native.Nat.{ℕ, ◌+◌, ◌<◌}
use native.Mathlib.Decide.{ℕ_discrete, dec_lt}
use native.Mathlib.Omega.{arith}
use lib.Dec.{leb}
use lib.ListN.{length, get_or}
use lib.Ieee.{Float}
use borrow.Author.Tests.{le-leb, lt-leb}
use Rattle.lists.specs.Run.{Step, halted, refused}
use Rattle.panel.specs.Limits.{most_lines}
use Rattle.panel.specs.Refusals.{line_number, coordinate, no_such}
use Rattle.panel.specs.Checks.{first_no, unless}
use Rattle.panel.specs.Paths.{path_count, paths_answer}
use Rattle.panel.specs.Verdict.{Verdict, Fine, Against}
use Rattle.panel.specs.Answer.{Answer, Done, Refused}
use Rattle.panel.specs.Lines.{line_at}
use Rattle.walk.specs.Lent.{reached_of}
use Rattle.acts.specs.Acts.{St}
use Rattle.acts.specs.Line.{Refusal}
use Rattle.walked_lines.specs.Line.{line_step}
use Rattle.stretches.specs.Stretches.{other_no}
use Rattle.new_lines.specs.Own.{own_step, lines_ran}
use Rattle.new_lines.proofs.OwnLaws.{own_same, own_other}
use Rattle.recount.specs.Recount.{lent_checks, range_checks, and_answer, asked_of}
use Rattle.theorems.proofs.Exact.{row_exact, line_exact}
use Rattle.theorems.proofs.ExactPaths.{paths_exact}
use Rattle.theorems.proofs.ExactRuns.{batch_why, batch_halts}
use Rattle.theorems.proofs.Grounds.{ends_exact, ends_good, good_ends}
use Rattle.recount_theorems.specs.Lines.{lent_nos, lent_coords}
use Rattle.recount_theorems.specs.Refusing.{AskedWhy, lent, path, range, OwnWhy, counting, five, six, seven, LinesWhy}
use Rattle.recount_theorems.proofs.OwnLines.{step_at}

-- ---- before the lines

module _ (p : ℕ) (paths : List ℕ) (nl nn nc nb nt nr kb kc n item : ℕ) where
  abbrev Why : Type 0
  Why = AskedWhy p paths nl nn nc nb nt nr kb kc n item

  abbrev last : Verdict → Answer
  last w = unless w 0 Done

  pub asked_exact : (asked_of p paths nl nn nc nb nt nr kb kc ≡ Refused n item) ↔ AskedWhy p paths nl nn nc nb nt nr kb kc n item
  unfolding asked_of
  asked_exact = (why (first_no (lent_checks nl nn nc nb nt nr)) refl, halts)
    where
      by_range : first_no (lent_checks nl nn nc nb nt nr) ≡ Fine → paths_answer paths nt ≡ Done → (w : Verdict) → first_no (range_checks p paths kb kc) ≡ w → last w ≡ Refused n item → Why
      by_range f g Fine q e = let z : ◌≡◌ {A = ℕ} 0 1 = cc in absurd (omega arith)
      by_range f g (Against m) q e =
          let x : m ≡ n = cc in
          let y : 0 ≡ item = cc in
          range f g (sym y) ((row_exact n (range_checks p paths kb kc)).0 (q ∙ ap Against x))

      by_path_lem : first_no (lent_checks nl nn nc nb nt nr) ≡ Fine → (a : Answer) → paths_answer paths nt ≡ a → and_answer a (last (first_no (range_checks p paths kb kc))) ≡ Refused n item → Why
      by_path_lem f Done q e = by_range f q (first_no (range_checks p paths kb kc)) refl e
      by_path_lem f (Refused m k) q e = path f ((paths_exact paths nt n item).0 (q ∙ e))

      why : (v : Verdict) → first_no (lent_checks nl nn nc nb nt nr) ≡ v
          → unless v 0 (and_answer (paths_answer paths nt) (last (first_no (range_checks p paths kb kc)))) ≡ Refused n item → Why
      why Fine q e = by_path_lem q (paths_answer paths nt) refl e
      why (Against m) q e =
          let x : m ≡ n = cc in
          let y : 0 ≡ item = cc in
          lent (sym y) ((row_exact n (lent_checks nl nn nc nb nt nr)).0 (q ∙ ap Against x))

      halts : Why → unless (first_no (lent_checks nl nn nc nb nt nr)) 0 (and_answer (paths_answer paths nt) (last (first_no (range_checks p paths kb kc)))) ≡ Refused n item
      halts (lent y w) = rw ((row_exact n (lent_checks nl nn nc nb nt nr)).1 w, y)
      halts (path f w) = rw (f, (paths_exact paths nt n item).1 w)
      halts (range f g y w) = rw (f, g, (row_exact n (range_checks p paths kb kc)).1 w, y)

-- ---- a line

module _ (p : ℕ) (nos : List ℕ) (coords : List Float) (paths : List ℕ) (room l k : ℕ) (s : St) (n : ℕ) (h : p < path_count paths) where
  other_no_lem : (a b : Bool) → leb most_lines l ≡ a → reached_of (line_at coords k).p0 (line_at coords k).p1 ≡ b → other_no l (line_at coords k) ≡ cond a line_number (cond b no_such coordinate)
  other_no_lem a b e f = rw (e, f)

  other_said : (get_or nos k 0 ≡ p → ⊥) → own_step p nos coords paths room l k s ≡ halted n → other_no l (line_at coords k) ≡ n
  other_said q e =
      let f : ◌≡◌ {A = Step St ℕ} (halted (other_no l (line_at coords k))) (halted n) = sym (own_other p nos coords paths room l k s q) ∙ e in
      cc

  at_place : get_or nos k 0 ≡ p → line_step (lent_nos nos k l) (lent_coords coords k l) paths room l l s ≡ own_step p nos coords paths room l k s
  at_place q = step_at nos coords k l paths room s ∙ sym (own_same p nos coords paths room l k s h q)

  pub own_exact : (own_step p nos coords paths room l k s ≡ halted n) ↔ OwnWhy p nos coords paths room l k s n
  own_exact = ((λ e. why e (ℕ_discrete (get_or nos k 0) p)), halts)
    where
      of_other : (get_or nos k 0 ≡ p → ⊥) → other_no l (line_at coords k) ≡ n → Dec (l < most_lines) → (b : Bool) → reached_of (line_at coords k).p0 (line_at coords k).p1 ≡ b
          → OwnWhy p nos coords paths room l k s n
      of_other q e (no a) b r = five (sym e ∙ other_no_lem true b (le-leb most_lines l (omega arith)) r) q (omega arith)
      of_other q e (yes a) true r = seven (sym e ∙ other_no_lem false true (lt-leb most_lines l a) r) q a (good_ends (line_at coords k) r)
      of_other q e (yes a) false r = six (sym e ∙ other_no_lem false false (lt-leb most_lines l a) r) q a ((ends_exact (line_at coords k)).0 r)

      why : own_step p nos coords paths room l k s ≡ halted n → Dec (get_or nos k 0 ≡ p) → OwnWhy p nos coords paths room l k s n
      why e (yes q) = counting q ((line_exact (lent_nos nos k l) (lent_coords coords k l) paths room l s n).0 (at_place q ∙ e))
      why e (no q) = of_other q (other_said q e) (dec_lt l most_lines) (reached_of (line_at coords k).p0 (line_at coords k).p1) refl

      halts : OwnWhy p nos coords paths room l k s n → own_step p nos coords paths room l k s ≡ halted n
      halts (counting q w) = sym (at_place q) ∙ (line_exact (lent_nos nos k l) (lent_coords coords k l) paths room l s n).1 w
      halts (five e q a) =
          own_other p nos coords paths room l k s q
          ∙ ap halted (other_no_lem true (reached_of (line_at coords k).p0 (line_at coords k).p1) (le-leb most_lines l a) refl ∙ sym e)
      halts (six e q a w) =
          own_other p nos coords paths room l k s q ∙ ap halted (other_no_lem false false (lt-leb most_lines l a) ((ends_exact (line_at coords k)).1 w) ∙ sym e)
      halts (seven e q a w) =
          own_other p nos coords paths room l k s q ∙ ap halted (other_no_lem false true (lt-leb most_lines l a) (ends_good (line_at coords k) w) ∙ sym e)

-- ---- the lines

module _ (p : ℕ) (line_nos nos : List ℕ) (coords : List Float) (paths : List ℕ) (room : ℕ) (s u : St) (why : Refusal) where
  abbrev step : ℕ → St → Step St ℕ
  step k = own_step p nos coords paths room (get_or line_nos k 0) k

  pub lines_exact : (lines_ran p line_nos nos coords paths room s ≡ refused u why) ↔ LinesWhy p line_nos nos coords paths room s u why
  lines_exact = (told, back)
    where
      told : lines_ran p line_nos nos coords paths room s ≡ refused u why → LinesWhy p line_nos nos coords paths room s u why
      told e =
          let r = batch_why step (length nos) 0 s u why e in
          let z : r.at ≡ why.line = omega (arith, r.line) in
          let y : 0 + r.at ≡ why.line = omega (arith, r.line) in
          record { inside = omega (arith, r.inside, z); ran = rw z at r.ran; halts = rw y at r.halts }

      back : LinesWhy p line_nos nos coords paths room s u why → lines_ran p line_nos nos coords paths room s ≡ refused u why
      back r =
          let z : 0 + why.line ≡ why.line = omega arith in
          let w : record { no = why.no; line = 0 + why.line } ≡ why = λ i. record { no = why.no; line = z i } in
          batch_halts step (length nos) 0 why.line s u why.no r.inside r.ran (rw z r.halts) ∙ ap (refused u) w
