-- What a call answers: how many bytes it wrote, or the number of the refusal. Definitions only.
use Rattle.std.specs.Prelude.{Result, Ok, Err, ℕ}
use Rattle.panel.specs.Refusals.{no_of}
use Rattle.panel.specs.declared.refusals.Refusal.{Refusal}

pub data Written : Type 0 where
  Done : ℕ → Written
  Refused : ℕ → Written

-- what code answers, in these words
abbrev pub written_told : Result ℕ Refusal → Written
written_told (Ok n) = Done n
written_told (Err why) = Refused (no_of why)
