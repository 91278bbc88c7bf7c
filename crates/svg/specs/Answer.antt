-- What a call answers: the number of lines; or the number of the refusal, and the text's place where it is the text's fault. Definitions only.
use Rattle.std.specs.Prelude.{Result, Ok, Err, ℕ}
use Rattle.panel.specs.Refusals.{no_of}
use Rattle.svg.specs.declared.TextRefused as E

pub data Answer : Type 0 where
  Done : ℕ → Answer
  Refused : ℕ → ℕ → Answer

-- what code answers, in these words
abbrev pub answer_told : Result ℕ E.TextRefused → Answer
answer_told (Ok n) = Done n
answer_told (Err e) = Refused (no_of e.why) e.at
