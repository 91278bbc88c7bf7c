-- What the kinds stand for on paper. Definitions only.
use Rattle.std.specs.Prelude.{ℕ, ◌+◌, List, [], ◌∷◌}
use Rattle.panel.specs.declared.refusals.Refusal.{Refusal}
use Rattle.panel.specs.declared.kinds.Refused as E
use Rattle.panel.specs.Refusals.{done_no}
use Rattle.panel.specs.declared.kinds.Running.{Running}
use Rattle.panel.specs.declared.kinds.TileNo.{TileNo}
use Rattle.panel.specs.declared.kinds.SlotNo.{SlotNo}
use Rattle.panel.specs.Answer.{Answer}
use Rattle.panel.specs.Answer.{Done, Refused}

abbrev pub tile_no_of : ℕ → TileNo
tile_no_of n = record { 0 = n }

abbrev pub slot_no_of : ℕ → SlotNo
slot_no_of n = record { 0 = n }

abbrev pub running_of : ℕ → ℕ → Running
running_of l n = record { lines = l; refs = n }

-- one line more, with n references
abbrev pub stepped_of : Running → ℕ → Running
stepped_of s n = record { lines = s.lines + 1; refs = s.refs + n }

-- an answer's number, and after it the values that come with it: the item's number of a refusal
abbrev pub paper_of : Answer → List ℕ
paper_of Done = done_no ∷ []
paper_of (Refused n item) = n ∷ item ∷ []

-- the number alone, and the item's alone: 0 where there is none
abbrev pub number_of : Answer → ℕ
number_of Done = done_no
number_of (Refused n item) = n

abbrev pub item_of : Answer → ℕ
item_of Done = 0
item_of (Refused n item) = item

-- a refusal of an item, as code has it
abbrev pub refused_at : Refusal → ℕ → E.Refused
refused_at why item = record { why = why; item = item }
