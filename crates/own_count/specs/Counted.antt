-- All lines, with the number of references that they make; or the first refusal's number, and its line's. Definitions only.
use Rattle.std.specs.Prelude.{Result, Ok, Err, ℕ}
use Rattle.panel.specs.Refusals.{no_of}
use Rattle.panel.specs.declared.kinds.Refused as E

pub data Own : Type 0 where
  Done : ℕ → Own
  Refused : ℕ → ℕ → Own

-- what code answers, in these words
abbrev pub own_told : Result ℕ E.Refused → Own
own_told (Ok n) = Done n
own_told (Err e) = Refused (no_of e.why) e.item
