-- No stray piece over another's tables: what is claimed of the writes of tiling after a yes. `theorems`, specs/Stray has the same of our own count and
-- hand-out. Definitions only.
use Rattle.std.specs.Prelude.{◌≡◌, ◌⊎◌, List, ℕ, ◌≤◌, ◌<◌, min, length, get_or, Float}
use Rattle.lists.specs.Run.{All}
use Rattle.lists.specs.Sums.{from}
use Rattle.lists.specs.Occ.{occ}
use Rattle.lists.specs.Tally.{Distinct}
use Rattle.panel.specs.Limits.{most_slots}
use Rattle.panel.specs.Refusals.{no_room_word, crooked}
use Rattle.panel.specs.Refs.{line_at}
use Rattle.panel.specs.Paths.{path_at, path_count, end_of}
use Rattle.panel.specs.Segments.{Straight}
use Rattle.panel.specs.Answer.{Done, Refused}
use Rattle.path_tiling.specs.Tiling.{Write, Range}
use Rattle.tile_check.specs.Faults.{ref_count}
use Rattle.theorems.specs.Stray.{written_to, written_from}
use Rattle.check_theorems.specs.Good.{RefMade, SlotOf}

-- a write is its own path's: it comes from one of the references, of that reference's line and that line's path; the reference's tile lies in that
-- path's range, and the slot is one of that tile's; both ends lie in the tile, and its y_edge is finite
pub record OwnPiece (nos : List ℕ) (coords : List Float) (paths refs counts stored : List ℕ) (w : Write) : Type 0 where
  pub inside : w.ref < ref_count refs
  pub line : w.line ≡ line_at refs w.ref
  pub path : w.path ≡ get_or nos w.line 0
  pub path_there : w.path < path_count paths
  pub made : RefMade nos coords paths refs counts w.ref
  pub tile_low : (path_at paths w.path).first ≤ made.tile
  pub tile_high : made.tile < end_of (path_at paths w.path)
  pub slot : SlotOf counts stored made.tile w.slot
  pub straight : Straight w.segment

-- what the tiling of all references comes to, with so many slots lent
pub record NoStray (nos : List ℕ) (coords : List Float) (paths refs counts stored : List ℕ) (room slots : ℕ) (r : Range) : Type 0 where
  -- every write is its own path's
  pub each : All (OwnPiece nos coords paths refs counts stored) r.writes
  -- the references are written in order and none is left out: those up to the one refused, or all
  pub in_order : written_from r.writes ≡ from 0 (length r.writes)
  pub all : r.answer ≡ Done → length r.writes ≡ ref_count refs
  pub before : (why item : ℕ) → r.answer ≡ Refused why item → length r.writes ≡ item
  -- a reference is refused only where its segment's ends leave the tile, or where fewer slots are lent than the room that was checked
  pub grounds : (why item : ℕ) → r.answer ≡ Refused why item → (why ≡ crooked) ⊎ ((why ≡ no_room_word) × (slots < min room most_slots))
  -- no slot is written twice; and where no reference was refused, each tile's slots are written once
  pub apart : Distinct (written_to r.writes)
  pub once : r.answer ≡ Done → (t k : ℕ) → t < length counts → SlotOf counts stored t k → occ k (written_to r.writes) ≡ 1
