-- A batch's answer, and a call's.
-- Assumes nothing.
use mathlib.Core.Path.{◌≡◌, refl, sym, ap, ap₂, ◌∙◌}
use mathlib.Core.List.{List, [], ◌∷◌}
use Prim.Native.Nat.{ℕ, ◌+◌, ◌-◌, ◌*◌, ◌/◌, ◌≤◌}
use native.Mathlib.Nat.{zero-add}
use native.Mathlib.Omega.{arith}
use lib.ListN.{length}
use lib.IntN.{ℤ}
use lib.Ieee.{Float}
use borrow.Author.Tests.{leb-true, eqb-true}
use Rattle.lists.specs.Run.{Ran, done, refused, and_then}
use Rattle.panel.specs.Refusals.{done_no}
use Rattle.panel.specs.Widths.{line_floats, ref_words}
use Rattle.panel.specs.Checks.{first_no}
use Rattle.panel.specs.Paths.{paths_answer}
use Rattle.panel.specs.declared.kinds.Running.{Running}
use Rattle.panel.specs.Answer.{Answer}
use Rattle.panel.specs.Answer.{Done as AnswerDone, Refused as AnswerRefused}
use Rattle.panel.specs.Verdict.{Verdict}
use Rattle.panel.specs.Verdict.{Fine, Against}
use Rattle.panel.proofs.CheckLaws.{all_ok, unless_no, unless_fine}
use Rattle.acts.specs.Acts.{St, st_of}
use Rattle.acts.specs.Line.{Refusal, batch_of}
use Rattle.acts.proofs.Lines.{batch_cut}
use Rattle.panel.specs.Kinds.{running_of}
use Rattle.walked_lines.specs.Line.{line_step}
use Rattle.path_count.specs.Count.{paper_of, batch, Told, told_of, batch_told, lent_checks, call_answer, counted}
use Rattle.short_runs.specs.Ones.{first_ran}
use Rattle.short_runs.proofs.Ones.{run_left}
use Rattle.path_count.specs.Runs.{batch_from, from_told}
use Rattle.path_count.specs.Counted.{Counted}
use Rattle.path_count.specs.Counted.{Done, Refused}

-- ---- a batch

-- the paper has one answer only
pub counted_once : (a b : Counted) → paper_of a ≡ paper_of b → a ≡ b
counted_once (Done r) (Done s) e =
    let p : r.lines ≡ s.lines = cc in
    let q : r.refs ≡ s.refs = cc in
    ap₂ (λ (l n : ℕ). Done (running_of l n)) p q
counted_once (Done r) (Refused n i s) e = let z : ◌≡◌ {A = ℕ} 0 1 = cc in absurd (omega arith)
counted_once (Refused m h r) (Done s) e = let z : ◌≡◌ {A = ℕ} 0 1 = cc in absurd (omega arith)
counted_once (Refused m h r) (Refused n i s) e =
    let k : m ≡ n = cc in
    let j : h ≡ i = cc in
    let p : r.lines ≡ s.lines = cc in
    let q : r.refs ≡ s.refs = cc in
    rw (k, j) (ap₂ (λ (l x : ℕ). Refused n i (running_of l x)) p q)

pub batch_refused : (base b a m n : ℕ) (s u : St) (all : Ran St Refusal) → m ≡ n → u ≡ s → refused s (record { no = n; line = a }) ≡ all
    → told_of (m ∷ (base + a) ∷ a ∷ s.made ∷ []) u ≡ from_told base b all
batch_refused base b a m n s u all p q e = rw (p, q) (ap (from_told base b) e)

pub batch_through : (base b a : ℕ) (s : St) (all : Ran St Refusal) → a ≡ b → done s ≡ all → told_of (done_no ∷ a ∷ s.made ∷ []) s ≡ from_told base b all
batch_through base b a s all p e = rw p (ap (from_told base b) e)

-- numbered from 0 on, a line's number is its place
pub from_zero : (nos : List ℕ) (coords : List Float) (paths : List ℕ) (room a b : ℕ) (s : St)
    → from_told 0 b (batch_from 0 nos coords paths room a b s) ≡ batch_told b (batch nos coords paths room a b s)
from_zero nos coords paths room a b s =
    told (batch_from 0 nos coords paths room a b s)
    ∙ ap (batch_told b) (λ i. batch_of (λ k. line_step nos coords paths room (zero-add k i) k) a (b - a) s)
  where
    told : (o : Ran St Refusal) → from_told 0 b o ≡ batch_told b o
    told (done t) = refl
    told (refused t why) = rw (zero-add why.line)

-- what is left of a batch after a run of its first lines says what all of it says
pub ones_left : (nos : List ℕ) (coords : List Float) (paths : List ℕ) (room base a e n : ℕ) (s t : St) → a + n ≤ e
    → done t ≡ first_ran (λ j. line_step nos coords paths room (base + a + j) (a + j)) n s
    → batch_from base nos coords paths room (a + n) e t ≡ batch_from base nos coords paths room a e s
ones_left nos coords paths room base a e n s t h g =
    let q : (j : ℕ) → base + a + j ≡ base + (a + j) = λ j. omega arith in
    run_left (λ k. line_step nos coords paths room (base + k) k) a e n s t h (g ∙ λ i. first_ran (λ j. line_step nos coords paths room (q j i) (a + j)) n s)

-- a batch from a to b and then one from b to c is one from a to c, refusals included
pub batches : (nos : List ℕ) (coords : List Float) (paths : List ℕ) (room a b c : ℕ) (s : St) → a ≤ b → b ≤ c
    → batch nos coords paths room a c s ≡ and_then (batch nos coords paths room a b s) (batch nos coords paths room b c)
batches nos coords paths room a b c s h k = batch_cut (λ l. line_step nos coords paths room l l) a b c s h k

-- ---- a call

-- what the checks of the lengths lent tell where none fails
pub record Ranged (nn nc nb nt a b : ℕ) : Type 0 where
  pub paired : nb ≡ nt
  pub forward : a ≤ b
  pub numbered : b ≤ nn
  pub whole : b * line_floats ≤ nc

pub ranged : (nn nc nb nt nr a b : ℕ) → first_no (lent_checks nn nc nb nt nr a b) ≡ Fine → Ranged nn nc nb nt a b
ranged nn nc nb nt nr a b e =
    let k = all_ok (lent_checks nn nc nb nt nr a b) e in
    let n : nn ≡ nc / line_floats = eqb-true _ _ k.1.0 in
    let r : b ≤ nc / line_floats = leb-true _ _ k.1.1.1.1.1.0 in
    record { paired = eqb-true _ _ k.1.1.0; forward = leb-true _ _ k.1.1.1.1.0; numbered = omega arith; whole = omega arith }

module _ (r : Running) (b : ℕ) (nos : List ℕ) (coords : List Float) (paths : List ℕ) (bs : List ℤ) (cs rs : List ℕ) (v : Verdict)
    (ev : v ≡ first_no (lent_checks (length nos) (length coords) (length bs) (length cs) (length rs) r.lines b)) where
  answer_no : (n : ℕ) → v ≡ Against n → call_answer nos coords paths r.lines b (st_of bs cs rs r.refs) ≡ AnswerRefused n 0
  unfolding call_answer
  answer_no n e = unless_no _ n 0 _ (sym ev ∙ e)

  answer_fine : v ≡ Fine → call_answer nos coords paths r.lines b (st_of bs cs rs r.refs) ≡ paths_answer paths (length cs)
  unfolding call_answer
  answer_fine e = unless_fine _ 0 _ (sym ev ∙ e)

  pub call_no : (n : ℕ) → v ≡ Against n → told_of (n ∷ 0 ∷ r.lines ∷ r.refs ∷ []) (st_of bs cs rs r.refs) ≡ counted r b nos coords paths bs cs rs
  unfolding counted
  call_no n e = rw (answer_no n e)

  module _ (f : v ≡ Fine) (a : Answer) (ea : a ≡ paths_answer paths (length cs)) where
    pub call_path : (n item : ℕ) → a ≡ AnswerRefused n item → told_of (n ∷ item ∷ r.lines ∷ r.refs ∷ []) (st_of bs cs rs r.refs) ≡ counted r b nos coords paths bs cs rs
    unfolding counted
    call_path n item e = rw (answer_fine f ∙ sym ea ∙ e)

    pub call_goes : (t : Told) → a ≡ AnswerDone → t ≡ batch_told b (batch nos coords paths (length rs / ref_words) r.lines b (st_of bs cs rs r.refs)) → t ≡ counted r b nos coords paths bs cs rs
    unfolding counted
    call_goes t e g = rw (answer_fine f ∙ sym ea ∙ e) g
