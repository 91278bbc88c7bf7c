-- The call: what is checked before our own count, the count, and the first entry at fault of another's tables. No key, no window and no word of the
-- working room decides anything here: that room is only asked for and cleared. docs/RULES.md, "A check of another's tables". Definitions only.
use Rattle.std.specs.Prelude.{◌≡◌, cond, List, [], ◌∷◌, ◌++◌, ℕ, ◌+◌, ◌*◌, ◌/◌, ◌%◌, min, leb, ltb, eqb, length, drop, replicate, ℤ, Float}
use Rattle.lists.specs.Run.{Ran, done, refused}
use Rattle.panel.specs.Limits.{most_slots}
use Rattle.panel.specs.Refusals.{not_whole, no_room_word}
use Rattle.panel.specs.Widths.{line_floats, ref_words}
use Rattle.panel.specs.Checks.{Check, check, first_no, unless}
use Rattle.panel.specs.Paths.{paths_answer}
use Rattle.panel.specs.Answer.{Answer}
use Rattle.acts.specs.Acts.{St}
use Rattle.acts.specs.Line.{Refusal}
use Rattle.entries.specs.Entries.{first_count_fault, first_slot_fault}
use Rattle.made.specs.Made.{made_of}
use Rattle.made.specs.MadeAt.{Made}
use Rattle.own_count.specs.Own.{own_ran}
use Rattle.tile_check.specs.Faults.{ref_count, first_ref_fault, first_back_fault}
use Rattle.tile_check.specs.Checked.{Checked, Yes, Reference, Count, Backdrop, Slots, Refused}

-- ---- the tables

-- an entry at fault is named where there is one among n
abbrev pub no_if : (ℕ → Checked) → (first n : ℕ) → Checked → Checked
no_if name first n next = cond (ltb first n) (name first) next

-- beside what our own count left: the first entry at fault, in the order references, counts, backdrops, slots; where no entry is at fault and a
-- reference is missing, the place after the last
unfoldable pub tables_of : (ℕ → ℕ → Made) → St → (refs counts : List ℕ) (backs : List ℤ) (stored : List ℕ) (room : ℕ) → Checked
tables_of made ours refs counts backs stored room =
    no_if Reference (first_ref_fault made ours.counts refs) (ref_count refs)
    (no_if Count (first_count_fault counts ours.counts) (length counts)
    (no_if Backdrop (first_back_fault backs ours.backs) (length backs)
    (no_if Slots (first_slot_fault (min room most_slots) counts stored) (length counts)
    (no_if Reference (ref_count refs) ours.made Yes))))

-- our own count's refusal is the answer; else the tables are looked at
abbrev pub ran_of : Ran St Refusal → (St → Checked) → Checked
ran_of (done s) next = next s
ran_of (refused s why) next = Refused why.no why.line

-- ---- the call

-- the lengths lent: path numbers, coordinates, references, counts, backdrops, stored words
abbrev pub lent_checks : (nn nc nr nt nb ns : ℕ) → List Check
lent_checks nn nc nr nt nb ns =
    check (eqb (nc % line_floats) 0) not_whole
    ∷ check (eqb nn (nc / line_floats)) not_whole
    ∷ check (eqb (nr % ref_words) 0) not_whole
    ∷ check (eqb nb nt) not_whole
    ∷ check (eqb ns nt) not_whole
    ∷ []

-- so many words of working room are asked for: four for each tile, line and reference
abbrev pub work_words : (tiles lines refs : ℕ) → ℕ
work_words tiles lines refs = 4 * (tiles + lines + refs)

abbrev pub and_answer : Answer → Answer → Answer
and_answer Answer.Done next = next
and_answer (Answer.Refused n item) next = Answer.Refused n item

-- 1 of all lengths, 1 to 4 of the paths, then 9 for the working room
unfoldable pub asked_of : (paths : List ℕ) (nn nc nr nt nb ns nw : ℕ) → Answer
asked_of paths nn nc nr nt nb ns nw =
    unless (first_no (lent_checks nn nc nr nt nb ns)) 0
    (and_answer (paths_answer paths nt)
    (unless (first_no (check (leb (work_words nt nn (nr / ref_words)) nw) no_room_word ∷ [])) 0 Answer.Done))

-- the answer, and the working room afterwards
pub record Out : Type 0 where
  pub answer : Checked
  pub work : List ℕ

abbrev pub out_of : Checked → List ℕ → Out
out_of r work = record { answer = r; work = work }

-- the first n words are 0 afterwards, and the rest are as they were
abbrev pub cleared : ℕ → List ℕ → List ℕ
cleared n work = replicate n 0 ++ drop n work

-- a refusal of the checks leaves the working room untouched
abbrev pub asked_out : Answer → List ℕ → Out → Out
asked_out Answer.Done work next = next
asked_out (Answer.Refused n item) work next = out_of (Refused n item) work

-- the answer once all is checked
unfoldable pub looked_of : (nos : List ℕ) (coords : List Float) (paths refs counts : List ℕ) (backs : List ℤ) (stored : List ℕ) (room : ℕ) → Checked
looked_of nos coords paths refs counts backs stored room =
    ran_of (own_ran nos coords paths (length counts)) (λ ours. tables_of (made_of nos coords paths) ours refs counts backs stored room)

unfoldable pub checked_of : (nos : List ℕ) (coords : List Float) (paths refs counts : List ℕ) (backs : List ℤ) (stored : List ℕ) (room : ℕ) (work : List ℕ) → Out
checked_of nos coords paths refs counts backs stored room work =
    asked_out (asked_of paths (length nos) (length coords) (length refs) (length counts) (length backs) (length stored) (length work)) work
    (out_of (looked_of nos coords paths refs counts backs stored room) (cleared (work_words (length counts) (length nos) (ref_count refs)) work))

-- the call's promise: the answer r, and the working room as it is afterwards, are these
abbrev pub CheckMet : (nos : List ℕ) (coords : List Float) (paths refs counts : List ℕ) (backs : List ℤ) (stored : List ℕ) (room : ℕ) (work : List ℕ)
    → Checked → (work' : List ℕ) → Type 0
CheckMet nos coords paths refs counts backs stored room work r work' = out_of r work' ≡ checked_of nos coords paths refs counts backs stored room work
