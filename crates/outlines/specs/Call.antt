-- The call: its checks, the lines' own, and the first outline that stands open. No word of the working room decides anything here: that room is only
-- asked for and cleared. docs/RULES.md, "Closed outlines". Definitions only.
use Rattle.std.specs.Prelude.{◌≡◌, Bool, cond, ◌||◌, List, [], ◌∷◌, ◌++◌, ℕ, ◌*◌, ◌/◌, ◌%◌, leb, ltb, eqb, length, get_or, drop, replicate, Float}
use Rattle.panel.specs.Limits.{most_paths, most_lines}
use Rattle.panel.specs.Refusals.{not_whole, too_many, line_number, no_such, no_room_word, left_open}
use Rattle.panel.specs.Widths.{line_floats}
use Rattle.panel.specs.Checks.{Check, check, first_no}
use Rattle.panel.specs.Verdict.{Verdict}
use Rattle.panel.specs.Answer.{Answer}
use Rattle.panel.specs.Answer.{Done, Refused}
use Rattle.meeting.specs.First.{first_of}
use Rattle.outlines.specs.Outlines.{first_open}

-- words of working room for each path
abbrev pub room_words : ℕ
room_words = 2

-- the lengths lent, the number of paths, the working room
abbrev pub lent_checks : (nn nc paths nw : ℕ) → List Check
lent_checks nn nc paths nw =
    check (eqb (nc % line_floats) 0) not_whole
    ∷ check (eqb nn (nc / line_floats)) not_whole
    ∷ check (leb paths most_paths) too_many
    ∷ check (leb (paths * room_words) nw) no_room_word
    ∷ []

-- a line that counting would refuse for its number, or for a path that isn't there
abbrev pub bad_line : (nos : List ℕ) (paths l : ℕ) → Bool
bad_line nos paths l = leb most_lines l || leb paths (get_or nos l 0)

unfoldable pub first_bad : (nos : List ℕ) (paths : ℕ) → ℕ
first_bad nos paths = first_of (bad_line nos paths) (length nos)

-- 5, and then 7
unfoldable pub bad_answer : ℕ → Answer
bad_answer l = cond (leb most_lines l) (Refused line_number l) (Refused no_such l)

-- 23 where line l is one of n; done where there is none
unfoldable pub open_if : (l n : ℕ) → Answer
open_if l n = cond (ltb l n) (Refused left_open l) Done

-- the answer, and the working room afterwards
pub record Out : Type 0 where
  pub answer : Answer
  pub work : List ℕ

abbrev pub out_of : Answer → List ℕ → Out
out_of a work = record { answer = a; work = work }

-- the first n words are 0 afterwards, and the rest are as they were
abbrev pub cleared : ℕ → List ℕ → List ℕ
cleared n work = replicate n 0 ++ drop n work

-- a refusal of the checks, or of a line, leaves the working room untouched
abbrev pub asked : Verdict → List ℕ → Out → Out
asked Verdict.Fine work next = next
asked (Verdict.Against n) work next = out_of (Refused n 0) work

unfoldable pub outlines_of : (nos : List ℕ) (fs : List Float) (paths : ℕ) (work : List ℕ) → Out
outlines_of nos fs paths work =
    asked (first_no (lent_checks (length nos) (length fs) paths (length work))) work
    (cond (ltb (first_bad nos paths) (length nos)) (out_of (bad_answer (first_bad nos paths)) work)
    (out_of (open_if (first_open nos fs) (length nos)) (cleared (paths * room_words) work)))

-- the call's promise: the answer a, and the working room as it is afterwards, are these
abbrev pub OutlinesMet : (nos : List ℕ) (fs : List Float) (paths : ℕ) (work : List ℕ) → Answer → (work' : List ℕ) → Type 0
OutlinesMet nos fs paths work a work' = out_of a work' ≡ outlines_of nos fs paths work
