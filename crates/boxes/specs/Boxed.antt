-- What the call answers: done, with the number of tiles that the boxes take in all; or refused, with the number and the item's (the line's, for 3 the path's). Definitions only.
use Rattle.std.specs.Prelude.{Result, Ok, Err, ℕ}
use Rattle.panel.specs.Refusals.{no_of}
use Rattle.panel.specs.declared.kinds.Refused as E

pub data Boxed : Type 0 where
  Done : ℕ → Boxed
  Refused : ℕ → ℕ → Boxed

-- what code answers, in these words
abbrev pub boxed_told : Result ℕ E.Refused → Boxed
boxed_told (Ok n) = Done n
boxed_told (Err e) = Refused (no_of e.why) e.item
