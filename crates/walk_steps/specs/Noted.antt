-- The same, with the word that is noted of it. Definitions only.
use Rattle.std.specs.Prelude.{Result, Ok, Err, ℕ, Float}
use Rattle.panel.specs.Refusals.{no_of}
use Rattle.panel.specs.declared.refusals.Refusal.{Refusal}

pub data Noted : Type 0 where
  Passed : Float → ℕ → Noted
  Against : ℕ → Noted

-- what code answers, in these words
abbrev pub noted_told : Result (Float × ℕ) Refusal → Noted
noted_told (Ok (z, word)) = Passed z word
noted_told (Err why) = Against (no_of why)
