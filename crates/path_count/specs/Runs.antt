-- How a batch asks for runs of lines that each lie within one tile, and a batch by its lines' numbers. Only proofs lean on this: no promise of a public call does. Definitions only.
use Rattle.std.specs.Prelude.{◌≡◌, Bool, cond, List, [], ◌∷◌, ℕ, ◌+◌, ◌-◌, ◌/◌, ◌≤◌, min, length, ℤ, Float}
use Rattle.lists.specs.Run.{Ran, done, refused}
use Rattle.panel.specs.Refusals.{done_no}
use Rattle.panel.specs.Widths.{ref_words}
use Rattle.panel.specs.declared.kinds.Running.{Running}
use Rattle.acts.specs.Acts.{St, st_of}
use Rattle.acts.specs.Line.{Refusal, batch_of}
use Rattle.walked_lines.specs.Line.{line_step}
use Rattle.path_count.specs.Count.{Told, told_of}

-- after so many misses in a row nothing is asked
abbrev pub tries : ℕ
tries = 4

-- the misses in a row after one line more
abbrev pub misses_of : ℕ → Bool → ℕ
misses_of misses hit = cond hit 0 (min (misses + 1) tries)

-- ---- a batch whose lines are numbered from base on: the line at place k has the number base + k

abbrev pub batch_from : ℕ → (nos : List ℕ) (coords : List Float) (paths : List ℕ) (room a b : ℕ) → St → Ran St Refusal
batch_from base nos coords paths room a b s = batch_of (λ k. line_step nos coords paths room (base + k) k) a (b - a) s

-- up to place b: all its lines, or those before the line refused, which is named by its number
abbrev pub from_told : (base b : ℕ) → Ran St Refusal → Told
from_told base b (done s) = told_of (done_no ∷ b ∷ s.made ∷ []) s
from_told base b (refused s why) = told_of (why.no ∷ (base + why.line) ∷ why.line ∷ s.made ∷ []) s

-- some lines up to end are counted, from the running numbers s to r: to count those left from here is to count all from there
abbrev pub LeftMet : ℕ → (nos : List ℕ) (coords : List Float) (paths : List ℕ) → ℕ → Running → (cs rs cs' rs' : List ℕ) → Running → Type 0
LeftMet base nos coords paths end s cs rs cs' rs' r =
    (s.lines ≤ r.lines) × (r.lines ≤ end)
    × ((bs : List ℤ) → batch_from base nos coords paths (length rs / ref_words) r.lines end (st_of bs cs' rs' r.refs)
    ≡ batch_from base nos coords paths (length rs / ref_words) s.lines end (st_of bs cs rs s.refs))
