-- The pixel, packed, or the number of the refusal. Definitions only.
use Rattle.std.specs.Prelude.{Result, Ok, Err, ℕ}
use Rattle.panel.specs.Refusals.{no_of}
use Rattle.panel.specs.declared.refusals.Refusal.{Refusal}

pub data Coloured : Type 0 where
  Done : ℕ → Coloured
  Refused : ℕ → Coloured

-- what code answers, in these words
abbrev pub coloured_told : Result ℕ Refusal → Coloured
coloured_told (Ok n) = Done n
coloured_told (Err why) = Refused (no_of why)
