-- Yes; or no, with the first entry at fault of the table named; or refused, with the number and the item's (the path's or the line's). Definitions only.
use Rattle.std.specs.Prelude.{Result, Ok, Err, ℕ, Option, Some, None}
use Rattle.panel.specs.Refusals.{no_of}
use Rattle.panel.specs.declared.kinds.Refused as E
use Rattle.tile_check.specs.declared.kinds.Fault.{Fault}
use Rattle.tile_check.specs.declared.kinds.Fault.TheVariants as F

pub data Checked : Type 0 where
  Yes : Checked
  Reference : ℕ → Checked
  Count : ℕ → Checked
  Backdrop : ℕ → Checked
  Slots : ℕ → Checked
  Refused : ℕ → ℕ → Checked

-- what code answers, in these words
abbrev pub checked_told : Result (Option Fault) E.Refused → Checked
checked_told (Ok None) = Yes
checked_told (Ok (Some (F.Reference n))) = Reference n
checked_told (Ok (Some (F.Count n))) = Count n
checked_told (Ok (Some (F.Backdrop n))) = Backdrop n
checked_told (Ok (Some (F.Slots n))) = Slots n
checked_told (Err e) = Refused (no_of e.why) e.item
