-- What a yes says: the tables are as good as our own count and hand-out would have made them, in any order of the references and wherever each tile's
-- slots lie. Definitions only.
use Rattle.std.specs.Prelude.{◌≡◌, List, ℕ, ◌+◌, ◌≤◌, ◌<◌, min, length, get_or, ℤ, Float}
use Rattle.lists.specs.Run.{done}
use Rattle.panel.specs.Limits.{most_slots}
use Rattle.panel.specs.Refs.{line_at}
use Rattle.panel.specs.Paths.{paths_answer}
use Rattle.panel.specs.Answer.{Done}
use Rattle.acts.specs.Acts.{St}
use Rattle.made.specs.Made.{made_of}
use Rattle.made.specs.MadeAt.{At}
use Rattle.entries.specs.Entries.{first_slot}
use Rattle.own_count.specs.Own.{own_ran}
use Rattle.tile_check.specs.Faults.{ref_count, step_at, slice_at}

-- reference j is one that our lines make: its step is in its line's clipped walk, with so many steps before it, and falls on this tile
pub record RefMade (nos : List ℕ) (coords : List Float) (paths refs counts : List ℕ) (j : ℕ) : Type 0 where
  pub before : ℕ
  pub tile : ℕ
  pub made : made_of nos coords paths (line_at refs j) (step_at refs j) ≡ At before tile
  pub tile_in_lem : tile < length counts
  pub slice_in : slice_at refs j < get_or counts tile 0

-- one of the references is of that line and that step
pub record StepThere (refs : List ℕ) (l k : ℕ) : Type 0 where
  pub ref : ℕ
  pub inside : ref < ref_count refs
  pub line : line_at refs ref ≡ l
  pub step : step_at refs ref ≡ k

-- one of them is of that tile and has that slice number
pub record SliceThere (nos : List ℕ) (coords : List Float) (paths refs counts : List ℕ) (t s : ℕ) : Type 0 where
  pub ref : ℕ
  pub inside : ref < ref_count refs
  pub made : RefMade nos coords paths refs counts ref
  pub tile : made.tile ≡ t
  pub slice : slice_at refs ref ≡ s

-- tile t has slot k: as many slots as its count, from the first that its stored word names
abbrev pub SlotOf : (counts stored : List ℕ) → (t k : ℕ) → Type 0
SlotOf counts stored t k = (first_slot stored t ≤ k) × (k < first_slot stored t + get_or counts t 0)

-- a yes is as good as our own count
pub record AsGood (nos : List ℕ) (coords : List Float) (paths refs counts : List ℕ) (backs : List ℤ) (stored : List ℕ) (room : ℕ) : Type 0 where
  -- the paths are good, of as many tiles as there are stored words
  pub paths_good : paths_answer paths (length counts) ≡ Done
  pub paired : length stored ≡ length counts
  -- our own count of these lines is done, and counts and backdrops are what it leaves
  pub ours : St
  pub counted : own_ran nos coords paths (length counts) ≡ done ours
  pub counts_ours : counts ≡ ours.counts
  pub backs_ours : backs ≡ ours.backs
  -- the references are those that our lines make, each once, and no other
  pub as_many : ref_count refs ≡ ours.made
  pub each : (j : ℕ) → j < ref_count refs → RefMade nos coords paths refs counts j
  pub steps_once : (i j : ℕ) → i < ref_count refs → j < ref_count refs → line_at refs i ≡ line_at refs j → step_at refs i ≡ step_at refs j → i ≡ j
  pub every_step : (l k n t : ℕ) → made_of nos coords paths l k ≡ At n t → StepThere refs l k
  -- each tile's slice numbers are 0 up to its count less one, each once
  pub slices_once : (i j : ℕ) → i < ref_count refs → j < ref_count refs → (x : RefMade nos coords paths refs counts i) (y : RefMade nos coords paths refs counts j)
      → x.tile ≡ y.tile → slice_at refs i ≡ slice_at refs j → i ≡ j
  pub every_slice : (t s : ℕ) → t < length counts → s < get_or counts t 0 → SliceThere nos coords paths refs counts t s
  -- no slot is two tiles', and all lie within the room named and the limit
  pub slots_once : (t u k : ℕ) → t < length counts → u < length counts → SlotOf counts stored t k → SlotOf counts stored u k → t ≡ u
  pub slots_in : (t k : ℕ) → t < length counts → SlotOf counts stored t k → k < min room most_slots
