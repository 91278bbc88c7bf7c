-- The pixel's coverage, or the number of the refusal. Definitions only.
use Rattle.std.specs.Prelude.{Result, Ok, Err, ℕ, Float}
use Rattle.panel.specs.Refusals.{no_of}
use Rattle.panel.specs.declared.refusals.Refusal.{Refusal}

pub data Covered : Type 0 where
  Done : Float → Covered
  Refused : ℕ → Covered

-- what code answers, in these words
abbrev pub covered_told : Result Float Refusal → Covered
covered_told (Ok x) = Done x
covered_told (Err why) = Refused (no_of why)
