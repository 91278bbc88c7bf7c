-- A segment and its slot; nothing, where the tile is empty; or a refusal. Definitions only.
use Rattle.std.specs.Prelude.{Result, Ok, Err, ℕ, Option, Some, None}
use Rattle.panel.specs.Refusals.{no_of}
use Rattle.panel.specs.declared.refusals.Refusal.{Refusal}
use Rattle.panel.specs.declared.segments.Segment.{Segment}
use Rattle.panel.specs.declared.kinds.SlotNo.{SlotNo}

pub data Look : Type 0 where
  Put : SlotNo → Segment → Look
  Empty : Look
  Against : ℕ → Look

-- what code answers, in these words
abbrev pub look_told : Result (Option (SlotNo × Segment)) Refusal → Look
look_told (Ok (Some (slot, s))) = Put slot s
look_told (Ok None) = Empty
look_told (Err why) = Against (no_of why)
