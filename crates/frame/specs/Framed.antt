-- A frame done, or refused: by which part, with the refusal's number and the item's. Lines and references counted are told either way. Definitions only.
use Rattle.std.specs.Prelude.{Result, Ok, Err, ℕ}
use Rattle.panel.specs.Refusals.{no_of}
use Rattle.panel.specs.declared.kinds.Refused as R
use Rattle.panel.specs.declared.kinds.Running.{Running}
use Rattle.frame.specs.declared.kinds.Stage.{Stage}
use Rattle.frame.specs.declared.kinds.FrameRefused as E

pub data Framed : Type 0 where
  Done : Running → Framed
  Refused : Stage → ℕ → ℕ → Running → Framed

-- what a part refuses, as code has it
abbrev pub refused_by : Stage → R.Refused → Running → E.FrameRefused
refused_by at r s = record { stage = at; why = r.why; item = r.item; running = s }

-- what code answers, in these words
abbrev pub framed_told : Result Running E.FrameRefused → Framed
framed_told (Ok s) = Done s
framed_told (Err e) = Refused e.stage (no_of e.why) e.item e.running
