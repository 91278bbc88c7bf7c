-- What is said of a run of lines that each lie within one tile. Only proofs lean on this: no promise of a public call does. Definitions only.
use Rattle.std.specs.Prelude.{◌≡◌, List, ℕ, zero, suc, ◌+◌, ◌/◌, ◌<◌, ◌≤◌, ◌^◌, length, ℤ, Float}
use Rattle.lists.specs.Run.{Step, Ran, done, and_then}
use Rattle.panel.specs.Widths.{ref_words}
use Rattle.acts.specs.Acts.{St, st_of}
use Rattle.walked_lines.specs.Line.{line_step, line_ran}

-- the first n lines, line j by f j, as far as none is refused
abbrev pub first_ran : (ℕ → St → Step St ℕ) → ℕ → St → Ran St ℕ
first_ran f zero s = done s
first_ran f (suc n) s = and_then (first_ran f n s) (λ (t : St). line_ran (f n t) t)

-- of many lines from place k on, with numbers from l on, the first r are counted and make a reference each; backdrops don't matter
abbrev pub OnesMet : (nos : List ℕ) (coords : List Float) (paths : List ℕ) (l k many made : ℕ) → (cs rs cs' rs' : List ℕ) → ℕ → Type 0
OnesMet nos coords paths l k many made cs rs cs' rs' r =
    (r ≤ many) × (made + r < 2 ^ 32)
    × ((bs : List ℤ) → done (st_of bs cs' rs' (made + r)) ≡ first_ran (λ j. line_step nos coords paths (length rs / ref_words) (l + j) (k + j)) r (st_of bs cs rs made))
