-- A batch: all its lines, or stopped before the line, or at the path, that is refused, with the refusal's number and the item's. Lines and references so far are carried on. Definitions only.
use Rattle.std.specs.Prelude.{Result, Ok, Err, ℕ}
use Rattle.panel.specs.Refusals.{no_of}
use Rattle.panel.specs.declared.kinds.Running.{Running}
use Rattle.path_count.specs.declared.kinds.Stopped as E

pub data Counted : Type 0 where
  Done : Running → Counted
  Refused : ℕ → ℕ → Running → Counted

-- what code answers, in these words
abbrev pub counted_told : Result Running E.Stopped → Counted
counted_told (Ok s) = Done s
counted_told (Err e) = Refused (no_of e.why) e.item e.running
