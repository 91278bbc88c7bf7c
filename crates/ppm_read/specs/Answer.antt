-- What a call answers: width and height, or the number of the refusal. Definitions only.
use Rattle.std.specs.Prelude.{Result, Ok, Err, ℕ}
use Rattle.panel.specs.Refusals.{no_of}
use Rattle.panel.specs.declared.refusals.Refusal.{Refusal}

pub data Answer : Type 0 where
  Done : ℕ → ℕ → Answer
  Refused : ℕ → Answer

-- what code answers, in these words
abbrev pub answer_told : Result (ℕ × ℕ) Refusal → Answer
answer_told (Ok (w, h)) = Done w h
answer_told (Err why) = Refused (no_of why)
