-- A recount of one path: its range kept and zeroed, its new lines counted, and the range given back where a line is refused. docs/RULES.md,
-- "A recount". What its lines come to is said in new_lines/specs/Own.antt, what becomes of its range in kept_range/specs/Kept.antt. Definitions only.
use Rattle.std.specs.Prelude.{◌≡◌, List, [], ◌∷◌, ℕ, ◌/◌, ◌%◌, ltb, eqb, length, ℤ, Float}
use Rattle.panel.specs.Refusals.{not_whole, no_such}
use Rattle.panel.specs.Widths.{line_floats, ref_words}
use Rattle.panel.specs.Checks.{Check, check, first_no, unless}
use Rattle.panel.specs.Paths.{path_at, path_count, paths_answer}
use Rattle.panel.specs.Answer.{Answer}
use Rattle.new_lines.specs.Recounted.{Recounted}
use Rattle.new_lines.specs.Recounted.{Refused}
pub use Rattle.kept_range.specs.Kept.{Out}
use Rattle.kept_range.specs.Kept.{out_of, tiles_in, redrawn_of}

-- the lengths lent: line numbers, path numbers, coordinates, backdrops, counts, references
abbrev pub lent_checks : (nl nn nc nb nt nr : ℕ) → List Check
lent_checks nl nn nc nb nt nr =
    check (eqb (nc % line_floats) 0) not_whole
    ∷ check (eqb nn (nc / line_floats)) not_whole
    ∷ check (eqb nl (nc / line_floats)) not_whole
    ∷ check (eqb nb nt) not_whole
    ∷ check (eqb (nr % ref_words) 0) not_whole
    ∷ []

-- the path, and the lengths of the kept slices
abbrev pub range_checks : ℕ → List ℕ → (kb kc : ℕ) → List Check
range_checks p paths kb kc =
    check (ltb p (path_count paths)) no_such
    ∷ check (eqb kb (tiles_in (path_at paths p))) not_whole
    ∷ check (eqb kc (tiles_in (path_at paths p))) not_whole
    ∷ []

abbrev pub and_answer : Answer → Answer → Answer
and_answer Answer.Done next = next
and_answer (Answer.Refused n item) next = Answer.Refused n item

-- 1 of all that needs no path, then 1 to 4 of the paths, then 7 for a path not there and 1 for the kept slices
unfoldable pub asked_of : (p : ℕ) (paths : List ℕ) (nl nn nc nb nt nr kb kc : ℕ) → Answer
asked_of p paths nl nn nc nb nt nr kb kc =
    unless (first_no (lent_checks nl nn nc nb nt nr)) 0
    (and_answer (paths_answer paths nt)
    (unless (first_no (range_checks p paths kb kc)) 0 Answer.Done))

-- a refusal there changes nothing
abbrev pub asked_out : Answer → (Recounted → Out) → Out → Out
asked_out Answer.Done ends next = next
asked_out (Answer.Refused n item) ends next = ends (Refused n item 0)

unfoldable pub recounted_of : (p : ℕ) (line_nos nos : List ℕ) (coords : List Float) (paths : List ℕ) (bs : List ℤ) (cs rs : List ℕ) (kb : List ℤ) (kc : List ℕ) → Out
recounted_of p line_nos nos coords paths bs cs rs kb kc =
    asked_out (asked_of p paths (length line_nos) (length nos) (length coords) (length bs) (length cs) (length rs) (length kb) (length kc))
    (λ r. out_of r bs cs rs kb kc)
    (redrawn_of p line_nos nos coords paths bs cs rs kb kc)

-- the call's promise: the answer r, and all that was lent to be changed as it is afterwards, are these
abbrev pub RecountMet : (p : ℕ) (line_nos nos : List ℕ) (coords : List Float) (paths : List ℕ) (bs : List ℤ) (cs rs : List ℕ) (kb : List ℤ) (kc : List ℕ) → Recounted
    → (bs' : List ℤ) (cs' rs' : List ℕ) (kb' : List ℤ) (kc' : List ℕ) → Type 0
RecountMet p line_nos nos coords paths bs cs rs kb kc r bs' cs' rs' kb' kc' =
    out_of r bs' cs' rs' kb' kc' ≡ recounted_of p line_nos nos coords paths bs cs rs kb kc
