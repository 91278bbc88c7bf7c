-- One line, all or nothing, and a batch of lines. What a line's walk comes to is handed in as a `Plan`, apart from memory; the room for
-- references is a number, and the line's number need not be its place in a list. Definitions only.
use Rattle.std.specs.Prelude.{Bool, true, false, ◌&&◌, List, [], ◌∷◌, ◌++◌, ℕ, ◌+◌, ◌-◌, min, ltb}
use Rattle.lists.specs.Run.{Step, taken, halted, Ran, run, all_or_none}
use Rattle.lists.specs.Sums.{from}
use Rattle.panel.specs.Limits.{most_steps, most_slots}
use Rattle.panel.specs.Refusals.{count_over, no_room_word}
use Rattle.acts.specs.Acts.{St, Act, mark, visit, stop, Hit, steps_acts, run_acts, delta_of}
use Rattle.acts.specs.Rows.{rows_acts}
use Rattle.acts.specs.declared.rows.Rows.{Rows}

-- a line's clipped walk: its direction, its row marks, and its steps imin .. imax with where each falls
pub record Plan : Type 0 where
  pub up : Bool
  pub rows : Rows
  pub imin : ℕ
  pub imax : ℕ
  pub hit : ℕ → Hit

-- row marks upward in y, then the steps in order
abbrev pub plan_acts : Plan → List Act
plan_acts p = rows_acts p.rows ++ steps_acts p.hit (p.imax - p.imin) p.imin

-- a reference apart from memory: its tile and its step
pub record Ref : Type 0 where
  pub tile : ℕ
  pub step : ℕ

abbrev pub refs_of : List Act → List Ref
refs_of [] = []
refs_of (mark t ∷ more) = refs_of more
refs_of (visit t i ∷ more) = record { tile = t; step = i } ∷ refs_of more
refs_of (stop n ∷ more) = refs_of more

abbrev pub plan_refs : Plan → List Ref
plan_refs p = refs_of (plan_acts p)

-- whether the largest step number, imax - 1, is over the limit: asked only where there is a step
abbrev pub too_far : Plan → Bool
too_far p = ltb p.imin p.imax && ltb most_steps p.imax

abbrev pub halt_if : Bool → ℕ → Step St ℕ → Step St ℕ
halt_if true n next = halted n
halt_if false n next = next

-- the line with number l: 8 for its largest step number, 9 for the room, then its acts, all or none
unfoldable pub plan_step : (room l : ℕ) → Plan → St → Step St ℕ
plan_step room l p s =
    halt_if (too_far p) count_over
    (halt_if (ltb (min room most_slots) (s.made + (p.imax - p.imin))) no_room_word
    (all_or_none (run_acts (delta_of p.up) l (plan_acts p) s)))

-- ---- batches

-- why a batch stops: the number, and the line it stops before
pub record Refusal : Type 0 where
  pub no : ℕ
  pub line : ℕ

abbrev pub at_line : ℕ → Step St ℕ → Step St Refusal
at_line l (taken s) = taken s
at_line l (halted n) = halted (record { no = n; line = l })

-- the n lines from line a on, each by f
unfoldable pub batch_of : (ℕ → St → Step St ℕ) → (a n : ℕ) → St → Ran St Refusal
batch_of f a n s = run (λ l t. at_line l (f l t)) (from a n) s
