-- What is needed; or the number of a refusal and its item's. Definitions only.
use Rattle.std.specs.Prelude.{Result, Ok, Err, ℕ}
use Rattle.panel.specs.Refusals.{no_of}
use Rattle.sizes.specs.declared.Room.{Room}
use Rattle.panel.specs.declared.kinds.Refused as E

pub data Measured : Type 0 where
  Done : Room → Measured
  Refused : ℕ → ℕ → Measured

-- what code answers, in these words
abbrev pub measured_told : Result Room E.Refused → Measured
measured_told (Ok r) = Done r
measured_told (Err e) = Refused (no_of e.why) e.item
