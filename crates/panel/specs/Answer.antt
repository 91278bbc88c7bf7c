-- What a call answers that has nothing to hand back: done, or refused with the number and the item's (the path's, the reference's, the screen tile's). Definitions only.
use Rattle.std.specs.Prelude.{Result, Ok, Err, ℕ, ⊤}
use Rattle.panel.specs.Refusals.{no_of}
use Rattle.panel.specs.declared.kinds.Refused as E

pub data Answer : Type 0 where
  Done : Answer
  Refused : ℕ → ℕ → Answer

-- what code answers, in these words
abbrev pub answer_told : Result ⊤ E.Refused → Answer
answer_told (Ok x) = Done
answer_told (Err e) = Refused (no_of e.why) e.item
