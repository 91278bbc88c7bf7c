-- A batch's effect and a call's: answers and all that is lent. docs/RULES.md, "When the panel says no", counting. Definitions only.
use Rattle.std.specs.Prelude.{◌≡◌, List, [], ◌∷◌, ℕ, ◌-◌, ◌/◌, ◌%◌, leb, eqb, length, ℤ, Float}
use Rattle.lists.specs.Run.{Ran, done, refused}
use Rattle.panel.specs.Refusals.{done_no, not_whole}
use Rattle.panel.specs.Widths.{line_floats, ref_words}
use Rattle.panel.specs.Checks.{Check, check, first_no, unless}
use Rattle.panel.specs.Paths.{paths_answer}
use Rattle.panel.specs.declared.kinds.Running.{Running}
use Rattle.panel.specs.Answer.{Answer}
use Rattle.panel.specs.Answer.{Done as AnswerDone, Refused as AnswerRefused}
use Rattle.acts.specs.Acts.{St, st_of}
use Rattle.acts.specs.Line.{Refusal, batch_of}
use Rattle.walked_lines.specs.Line.{line_step}
use Rattle.path_count.specs.Counted.{Counted}
use Rattle.path_count.specs.Counted.{Done, Refused}

-- ---- a batch

-- from line a up to line b; a line's number is its place
abbrev pub batch : (nos : List ℕ) (coords : List Float) (paths : List ℕ) (room a b : ℕ) → St → Ran St Refusal
batch nos coords paths room a b s = batch_of (λ l. line_step nos coords paths room l l) a (b - a) s

-- an answer on paper: its number, the item's of a refusal, then lines and references so far
abbrev pub paper_of : Counted → List ℕ
paper_of (Done r) = done_no ∷ r.lines ∷ r.refs ∷ []
paper_of (Refused n item r) = n ∷ item ∷ r.lines ∷ r.refs ∷ []

-- references so far, as an answer has them
abbrev pub made_of : Counted → ℕ
made_of (Done r) = r.refs
made_of (Refused n item r) = r.refs

-- an answer on paper, with all that was lent as it is afterwards
pub record Told : Type 0 where
  pub paper : List ℕ
  pub backs : List ℤ
  pub counts : List ℕ
  pub refs : List ℕ

abbrev pub told_of : List ℕ → St → Told
told_of p s = record { paper = p; backs = s.backs; counts = s.counts; refs = s.refs }

-- a batch up to line b: all its lines, or those before the line refused
abbrev pub batch_told : ℕ → Ran St Refusal → Told
batch_told b (done s) = told_of (done_no ∷ b ∷ s.made ∷ []) s
batch_told b (refused s why) = told_of (why.no ∷ why.line ∷ why.line ∷ s.made ∷ []) s

-- ---- a call

-- the lengths lent: path numbers, coordinates, backdrops, counts, references. Then the batch's range
abbrev pub lent_checks : (nn nc nb nt nr a b : ℕ) → List Check
lent_checks nn nc nb nt nr a b =
    check (eqb (nc % line_floats) 0) not_whole
    ∷ check (eqb nn (nc / line_floats)) not_whole
    ∷ check (eqb nb nt) not_whole
    ∷ check (eqb (nr % ref_words) 0) not_whole
    ∷ check (leb a b) not_whole
    ∷ check (leb b (nc / line_floats)) not_whole
    ∷ []

-- 1, 2, then the paths in order for 3 and 4
unfoldable pub call_answer : (nos : List ℕ) (coords : List Float) (paths : List ℕ) (a b : ℕ) → St → Answer
call_answer nos coords paths a b s =
    unless (first_no (lent_checks (length nos) (length coords) (length s.backs) (length s.counts) (length s.refs) a b)) 0
    (paths_answer paths (length s.counts))

-- a refusal there changes nothing
abbrev pub call_told : Answer → Running → St → Told → Told
call_told AnswerDone r s next = next
call_told (AnswerRefused n item) r s next = told_of (n ∷ item ∷ r.lines ∷ r.refs ∷ []) s

-- the call, from the running numbers up to line b
unfoldable pub counted : Running → ℕ → (nos : List ℕ) (coords : List Float) (paths : List ℕ) → (backs : List ℤ) (counts refs : List ℕ) → Told
counted r b nos coords paths backs counts refs =
    let s = st_of backs counts refs r.refs in
    call_told (call_answer nos coords paths r.lines b s) r s (batch_told b (batch nos coords paths (length refs / ref_words) r.lines b s))

-- the call's promise: the answer r, and all that was lent as it is afterwards, are these
abbrev pub CountMet : Running → ℕ → (nos : List ℕ) (coords : List Float) (paths : List ℕ) (bs : List ℤ) (cs rs : List ℕ) → Counted → (bs' : List ℤ) (cs' rs' : List ℕ) → Type 0
CountMet running end nos coords paths bs cs rs r bs' cs' rs' = told_of (paper_of r) (st_of bs' cs' rs' (made_of r)) ≡ counted running end nos coords paths bs cs rs
