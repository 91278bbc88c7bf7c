-- A step that passes its check, with its z; or the number of its refusal. Definitions only.
use Rattle.std.specs.Prelude.{Result, Ok, Err, ℕ, Float}
use Rattle.panel.specs.Refusals.{no_of}
use Rattle.panel.specs.declared.refusals.Refusal.{Refusal}

pub data Seen : Type 0 where
  Passed : Float → Seen
  Against : ℕ → Seen

-- what code answers, in these words
abbrev pub seen_told : Result Float Refusal → Seen
seen_told (Ok z) = Passed z
seen_told (Err why) = Against (no_of why)
