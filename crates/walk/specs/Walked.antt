-- What becomes of a line: refused with its number, skipped, or walked over its path's box. Definitions only.
use Rattle.std.specs.Prelude.{Result, Ok, Err, ℕ, Option, Some, None}
use Rattle.panel.specs.Refusals.{no_of}
use Rattle.panel.specs.declared.refusals.Refusal.{Refusal}
use Rattle.panel.specs.declared.kinds.Path.{Path}
use Rattle.walk.specs.declared.kinds.Walk.{Walk}

pub data Walked : Type 0 where
  Refused : ℕ → Walked
  Skipped : Walked
  Line : Walk → Path → Walked

-- what code answers, in these words
abbrev pub walked_told : Result (Option (Walk × Path)) Refusal → Walked
walked_told (Err why) = Refused (no_of why)
walked_told (Ok None) = Skipped
walked_told (Ok (Some (w, p))) = Line w p
