-- One call for a frame: the stages' own definitions one after another, up to the first that refuses. docs/RULES.md, "A frame". Definitions only.
use Rattle.std.specs.Prelude.{◌≡◌, List, [], ◌∷◌, ℕ, ◌/◌, ◌%◌, eqb, length, replicate, ℤ, pos, Float}
use Rattle.panel.specs.Refusals.{done_no, not_whole}
use Rattle.panel.specs.Widths.{line_floats, ref_words, segment_floats}
use Rattle.panel.specs.Kinds.{running_of}
use Rattle.panel.specs.Checks.{Check, check, first_no, unless}
use Rattle.panel.specs.Paths.{paths_answer}
use Rattle.panel.specs.Pieces.{Pieces}
use Rattle.panel.specs.declared.kinds.Running.{Running}
use Rattle.panel.specs.Answer.{Answer}
use Rattle.path_count.specs.Count.{counted}
use Rattle.path_count.specs.Counted.{Counted}
use Rattle.backdrop.specs.Backdrop as Backdrop
use Rattle.hand_out.specs.HandOut as HandOut
use Rattle.looks.specs.Look.{lent}
use Rattle.path_tiling.specs.Tiling.{slots_of, tiled_of}
use Rattle.frame.specs.declared.kinds.Stage.{Stage}
use Rattle.frame.specs.Framed.{Framed, Done, Refused}

-- ---- the answer on paper

-- 0 is kept for no stage
abbrev pub stage_no : Stage → ℕ
stage_no Stage.Lent = 1
stage_no Stage.Count = 2
stage_no Stage.Backdrop = 3
stage_no Stage.HandOut = 4
stage_no Stage.Tile = 5

-- the number, then of a refusal the stage's and the item's, then lines and references counted
abbrev pub paper_of : Framed → List ℕ
paper_of (Done s) = done_no ∷ s.lines ∷ s.refs ∷ []
paper_of (Refused at n item s) = n ∷ stage_no at ∷ item ∷ s.lines ∷ s.refs ∷ []

-- with all that was lent to be changed, as it is afterwards
pub record Out : Type 0 where
  pub paper : List ℕ
  pub backs : List ℤ
  pub stored : List ℕ
  pub tally : List ℕ
  pub refs : List ℕ
  pub pieces : Pieces

abbrev pub out_of : Framed → List ℤ → List ℕ → List ℕ → List ℕ → Pieces → Out
out_of f bs ts ks rs p = record { paper = paper_of f; backs = bs; stored = ts; tally = ks; refs = rs; pieces = p }

-- ---- a stage's answer, read off its paper

abbrev pub answer_on : List ℕ → Answer
answer_on [] = Answer.Done
answer_on (n ∷ []) = Answer.Done
answer_on (n ∷ item ∷ more) = Answer.Refused n item

abbrev pub counted_on : List ℕ → Counted
counted_on [] = Counted.Done (running_of 0 0)
counted_on (n ∷ []) = Counted.Done (running_of 0 0)
counted_on (n ∷ l ∷ []) = Counted.Done (running_of l 0)
counted_on (n ∷ l ∷ m ∷ []) = Counted.Done (running_of l m)
counted_on (n ∷ item ∷ l ∷ m ∷ more) = Counted.Refused n item (running_of l m)

-- a stage that is done goes on; one that refused ends the frame, with what it left
abbrev pub go_on : Answer → Stage → Running → (Framed → Out) → Out → Out
go_on Answer.Done at s ends next = next
go_on (Answer.Refused n item) at s ends next = ends (Refused at n item s)

abbrev pub go_on_counted : Counted → (Framed → Out) → (Running → Out) → Out
go_on_counted (Counted.Done s) ends next = next s
go_on_counted (Counted.Refused n item s) ends next = ends (Refused Stage.Count n item s)

-- ---- the stages

-- after counting, with so many lines and references: the sums, the slots as far as there is room for segments, and a segment and its tag for each
-- reference
unfoldable pub placed_of : Running → (nos : List ℕ) (coords : List Float) (paths : List ℕ) (backs : List ℤ) (stored tally refs : List ℕ) (p : Pieces) → Out
placed_of s nos coords paths backs stored tally refs p =
    let b = Backdrop.backdrop_of paths backs in
    let h = HandOut.hand_out_of (slots_of (length p.segments)) stored tally in
    let t = tiled_of 0 s.refs (lent nos coords paths h.stored refs) p in
    go_on (answer_on b.paper) Stage.Backdrop s (λ f. out_of f b.backs stored tally refs p)
    (go_on (answer_on h.paper) Stage.HandOut s (λ f. out_of f b.backs h.stored h.tally refs p)
    (go_on (answer_on t.paper) Stage.Tile s (λ f. out_of f b.backs h.stored h.tally refs t.pieces)
    (out_of (Done s) b.backs h.stored h.tally refs t.pieces)))

-- all lines, counted into cleared tiles; then the rest
unfoldable pub drawn_of : (nos : List ℕ) (coords : List Float) (paths : List ℕ) (backs : List ℤ) (stored tally refs : List ℕ) (p : Pieces) → Out
drawn_of nos coords paths backs stored tally refs p =
    let c = counted (running_of 0 0) (length nos) nos coords paths (replicate (length backs) (pos 0)) (replicate (length stored) 0) refs in
    go_on_counted (counted_on c.paper) (λ f. out_of f c.backs c.counts tally c.refs p)
    (λ s. placed_of s nos coords paths c.backs c.counts tally c.refs p)

-- ---- the call

-- the lengths lent: path numbers, coordinates, backdrops, stored words, tally, references, segments, tags
abbrev pub lent_checks : (nn nc nb nt nk nr ns ng : ℕ) → List Check
lent_checks nn nc nb nt nk nr ns ng =
    check (eqb (nc % line_floats) 0) not_whole
    ∷ check (eqb nn (nc / line_floats)) not_whole
    ∷ check (eqb nb nt) not_whole
    ∷ check (eqb nt nk) not_whole
    ∷ check (eqb (nr % ref_words) 0) not_whole
    ∷ check (eqb (ns % segment_floats) 0) not_whole
    ∷ check (eqb ng (ns / segment_floats)) not_whole
    ∷ []

-- 1 of all stages, then 1, 2, 3 and 4 of the paths
unfoldable pub checks_of : (nos : List ℕ) (coords : List Float) (paths : List ℕ) (backs : List ℤ) (stored tally refs : List ℕ) (p : Pieces) → Answer
checks_of nos coords paths backs stored tally refs p =
    unless
    (first_no
    (lent_checks (length nos) (length coords) (length backs) (length stored) (length tally) (length refs) (length p.segments) (length p.tags)))
    0
    (paths_answer paths (length stored))

-- a refusal there changes nothing
unfoldable pub frame_of : (nos : List ℕ) (coords : List Float) (paths : List ℕ) (backs : List ℤ) (stored tally refs : List ℕ) (p : Pieces) → Out
frame_of nos coords paths backs stored tally refs p =
    go_on (checks_of nos coords paths backs stored tally refs p) Stage.Lent (running_of 0 0) (λ f. out_of f backs stored tally refs p)
    (drawn_of nos coords paths backs stored tally refs p)

-- the call's promise: the answer r, and all that was lent to be changed as it is afterwards, are these
abbrev pub FrameMet : (nos : List ℕ) (coords : List Float) (paths : List ℕ) (bs : List ℤ) (ts ks rs : List ℕ) (p : Pieces) → Framed
    → (bs' : List ℤ) (ts' ks' rs' : List ℕ) (p' : Pieces) → Type 0
FrameMet nos coords paths bs ts ks rs p r bs' ts' ks' rs' p' = out_of r bs' ts' ks' rs' p' ≡ frame_of nos coords paths bs ts ks rs p
