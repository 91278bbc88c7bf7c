-- How many references counting makes of all lines: one for each step of a line's clipped walk. The steps themselves are not walked. docs/RULES.md,
-- "Sizes". Definitions only.
use Rattle.std.specs.Prelude.{Bool, true, false, List, ℕ, ◌+◌, ◌-◌, leb, ltb, length, Float}
use Rattle.lists.specs.Run.{Step, taken, halted, Ran, done, refused, run}
use Rattle.lists.specs.Sums.{from}
use Rattle.panel.specs.Limits.{most_lines, most_slots}
use Rattle.panel.specs.Refusals.{line_number, count_over, no_room_word}
use Rattle.walk.specs.Lent.{walk_at}
use Rattle.walk.specs.Walked.{Walked}
use Rattle.walk.specs.Walked.{Refused as WalkRefused, Skipped, Line}
use Rattle.acts.specs.Line.{Plan, too_far, Refusal}
use Rattle.walked_lines.specs.Line.{plan_of}
use Rattle.walked_lines.specs.Tallied.{Tallied, On, Against}
use Rattle.sizes.specs.RefsMade.{Refs, Made, Refused}

-- ---- a line, after so many references: how many there are then, or why it is refused

abbrev pub stop_if : Bool → ℕ → Step ℕ ℕ → Step ℕ ℕ
stop_if true n next = halted n
stop_if false n next = next

-- 8 for its largest step number, 9 where there would be more references than there can be, as counting has them
unfoldable pub plan_size : Plan → ℕ → Step ℕ ℕ
plan_size p made =
    let after = made + (p.imax - p.imin) in
    stop_if (too_far p) count_over (stop_if (ltb most_slots after) no_room_word (taken after))

abbrev pub walked_size : Walked → ℕ → Step ℕ ℕ
walked_size (WalkRefused n) made = halted n
walked_size Skipped made = taken made
walked_size (Line w b) made = plan_size (plan_of w b) made

-- line l of those lent: 5, then 6, 7 and the skip rules, then its walk
unfoldable pub line_size : (nos : List ℕ) (coords : List Float) (paths : List ℕ) (l : ℕ) → ℕ → Step ℕ ℕ
line_size nos coords paths l made = stop_if (leb most_lines l) line_number (walked_size (walk_at nos coords paths l) made)

-- ---- the lines in order, up to the first that is refused

abbrev pub size_at : ℕ → Step ℕ ℕ → Step ℕ Refusal
size_at l (taken m) = taken m
size_at l (halted n) = halted (record { no = n; line = l })

-- those from line a up to line b, after so many references
unfoldable pub lines_size : (nos : List ℕ) (coords : List Float) (paths : List ℕ) (a b : ℕ) → ℕ → Ran ℕ Refusal
lines_size nos coords paths a b made = run (λ l m. size_at l (line_size nos coords paths l m)) (from a (b - a)) made

-- what is told of it: the references, or the number of the refusal and the line
abbrev pub told_ran : Ran ℕ Refusal → Refs
told_ran (done m) = Made m
told_ran (refused m r) = Refused r.no r.line

unfoldable pub refs_of : (nos : List ℕ) (coords : List Float) (paths : List ℕ) → Refs
refs_of nos coords paths = told_ran (lines_size nos coords paths 0 (length nos) 0)

-- ---- only proofs lean on this

-- a line's answer in code, after so many references
abbrev pub tallied_size : ℕ → Tallied → Step ℕ ℕ
tallied_size made (On k) = taken (made + k)
tallied_size made (Against n) = halted n
