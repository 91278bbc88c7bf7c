-- How far a tile's commands were carried out: to END, to one that is refused, or to a COLOR of this word that END follows. That COLOR is the caller's to lay. Definitions only.
use Rattle.std.specs.Prelude.{Result, Ok, Err, ℕ, Option, Some, None}
use Rattle.panel.specs.Refusals.{no_of}
use Rattle.panel.specs.declared.refusals.Refusal.{Refusal}

pub data Stop : Type 0 where
  End : Stop
  Against : ℕ → Stop
  Last : ℕ → Stop

-- what code answers, in these words
abbrev pub stop_told : Result (Option ℕ) Refusal → Stop
stop_told (Ok None) = End
stop_told (Err why) = Against (no_of why)
stop_told (Ok (Some colour)) = Last colour
