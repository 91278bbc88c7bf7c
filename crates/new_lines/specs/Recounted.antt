-- What a recount answers. All lines counted, with the number of their references; or refused, with the refusal's number, the item's (the path's, or the line's own number), and the references made before it. Definitions only.
use Rattle.std.specs.Prelude.{Result, Ok, Err, ℕ}
use Rattle.panel.specs.Refusals.{no_of}
use Rattle.new_lines.specs.declared.RecountRefused as E

pub data Recounted : Type 0 where
  Done : ℕ → Recounted
  Refused : ℕ → ℕ → ℕ → Recounted

-- what code answers, in these words
abbrev pub recounted_told : Result ℕ E.RecountRefused → Recounted
recounted_told (Ok n) = Done n
recounted_told (Err e) = Refused (no_of e.why) e.item e.made
