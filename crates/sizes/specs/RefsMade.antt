-- The references of all lines; or the number of a refusal and the line. Definitions only.
use Rattle.std.specs.Prelude.{Result, Ok, Err, ℕ}
use Rattle.panel.specs.Refusals.{no_of}
use Rattle.panel.specs.declared.kinds.Refused as E

pub data Refs : Type 0 where
  Made : ℕ → Refs
  Refused : ℕ → ℕ → Refs

-- what code answers, in these words
abbrev pub refs_told : Result ℕ E.Refused → Refs
refs_told (Ok n) = Made n
refs_told (Err e) = Refused (no_of e.why) e.item
