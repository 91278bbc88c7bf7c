-- What a check finds: nothing against it, or the number of the refusal. Definitions only.
use Rattle.std.specs.Prelude.{Result, Ok, Err, ℕ, ⊤}
use Rattle.panel.specs.Refusals.{no_of}
use Rattle.panel.specs.declared.refusals.Refusal.{Refusal}

pub data Verdict : Type 0 where
  Fine : Verdict
  Against : ℕ → Verdict

-- what code answers, in these words
abbrev pub verdict_told : Result ⊤ Refusal → Verdict
verdict_told (Ok x) = Fine
verdict_told (Err why) = Against (no_of why)
