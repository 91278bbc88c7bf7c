-- A line counted, with the number of its references; or the number of its refusal. Definitions only.
use Rattle.std.specs.Prelude.{Result, Ok, Err, ℕ}
use Rattle.panel.specs.Refusals.{no_of}
use Rattle.panel.specs.declared.refusals.Refusal.{Refusal}

pub data Tallied : Type 0 where
  On : ℕ → Tallied
  Against : ℕ → Tallied

-- what code answers, in these words
abbrev pub tallied_told : Result ℕ Refusal → Tallied
tallied_told (Ok n) = On n
tallied_told (Err why) = Against (no_of why)
