-- A command is refused, or does something, and the next one stands at the place given. Definitions only.
use Rattle.std.specs.Prelude.{Result, Ok, Err, ℕ}
use Rattle.panel.specs.Refusals.{no_of}
use Rattle.panel.specs.declared.refusals.Refusal.{Refusal}
use Rattle.commands.specs.declared.steps.Act.{Act}

pub data Move : Type 0 where
  Refused : ℕ → Move
  Goes : Act → ℕ → Move

-- what code answers, in these words
abbrev pub move_told : Result (Act × ℕ) Refusal → Move
move_told (Err why) = Refused (no_of why)
move_told (Ok (a, at)) = Goes a at
