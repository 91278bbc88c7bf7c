-- Done, or refused: by which part (1 to 5 as a frame has them, then the lists and fine), with the refusal's number and the item's. Lines and references counted are told either way. Definitions only.
use Rattle.std.specs.Prelude.{Result, Ok, Err, ℕ}
use Rattle.panel.specs.Refusals.{no_of}
use Rattle.panel.specs.declared.kinds.Running.{Running}
use Rattle.panel.specs.declared.kinds.Refused as Refused'
use Rattle.frame.specs.declared.kinds.FrameRefused as F
use Rattle.paint.specs.declared.kinds.Part.{Part}
use Rattle.paint.specs.declared.kinds.Part.TheVariants as Part'
use Rattle.paint.specs.declared.kinds.DrawRefused as E
use Rattle.paint.specs.Parts.{part_no}

pub data Drawn : Type 0 where
  Done : Running → Drawn
  Refused : ℕ → ℕ → ℕ → Running → Drawn

-- what code answers, in these words
abbrev pub drawn_told : Result Running E.DrawRefused → Drawn
drawn_told (Ok s) = Done s
drawn_told (Err e) = Refused (part_no e.part) (no_of e.why) e.item e.running

-- what a part refuses, as code has it; and what a frame refuses
abbrev pub refused_by : Part → Refused'.Refused → Running → E.DrawRefused
refused_by at r s = record { part = at; why = r.why; item = r.item; running = s }

abbrev pub drawn_by : F.FrameRefused → E.DrawRefused
drawn_by f = record { part = Part'.Frame f.stage; why = f.why; item = f.item; running = f.running }
