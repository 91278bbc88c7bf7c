-- Keys of references: their places among ours by line and step, and by tile and slice. What the functions tell each other of them and of the working room.
-- Only proofs lean on this: no promise of the public call does. Definitions only.
use Rattle.std.specs.Prelude.{◌≡◌, true, false, List, ℕ, ◌+◌, ◌<◌, min, length, get_or, take, ℤ, Float}
use Rattle.lists.specs.Run.{done}
use Rattle.lists.specs.Sums.{first}
use Rattle.panel.specs.Limits.{most_slots}
use Rattle.panel.specs.Refs.{line_at}
use Rattle.acts.specs.Acts.{St}
use Rattle.entries.specs.Entries.{first_count_fault, first_slot_fault}
use Rattle.meeting.specs.First.{first_of}
use Rattle.meeting.specs.Found.{KeptBelow}
use Rattle.made.specs.MadeAt.{Made, At, Not}
use Rattle.own_count.specs.Own.{own_ran}
use Rattle.own_count.specs.View.{view_of, StartsNoted}
use Rattle.tile_check.specs.Faults.{slice_at, made_ref, stray_ref, first_back_fault}
use Rattle.tile_check.specs.Tables.{no_if}
use Rattle.tile_check.specs.Checked.{Checked, Yes, Reference, Count, Backdrop, Slots}
use Rattle.tile_check.specs.Key.{Key, Places, Stray}

-- how many steps of its line stand before a reference's; its tile
abbrev pub before_in : Made → ℕ
before_in (At n t) = n
before_in Not = 0

abbrev pub tile_in : Made → ℕ
tile_in (At n t) = t
tile_in Not = 0

-- its place among ours by line and step, where a line's references begin at `start`
abbrev pub step_key : (ℕ → ℕ → Made) → (ℕ → ℕ) → List ℕ → ℕ → ℕ
step_key made start refs j = start (line_at refs j) + before_in (made_ref made refs j)

-- and by tile and slice
abbrev pub slice_key : (ℕ → ℕ → Made) → List ℕ → List ℕ → ℕ → ℕ
slice_key made ours refs j = first ours (tile_in (made_ref made refs j)) + slice_at refs j

-- a reference's places, where it isn't stray
abbrev pub KeyMet : (ℕ → ℕ → Made) → (ℕ → ℕ) → (ours refs : List ℕ) → ℕ → Key → Type 0
KeyMet made start ours refs j Stray = stray_ref made ours refs j ≡ true
KeyMet made start ours refs j (Places a b) = (stray_ref made ours refs j ≡ false) × (a ≡ step_key made start refs j) × (b ≡ slice_key made ours refs j)

-- where the tiles' starts stand in the room, and where what is ours ends
abbrev pub sums_at : (tiles lines : ℕ) → ℕ
sums_at tiles lines = tiles + tiles + lines

abbrev pub own_end : (tiles lines : ℕ) → ℕ
own_end tiles lines = sums_at tiles lines + tiles

-- the room holds our own count, of m references, and the starts of lines and of tiles
pub record RoomHas (nos : List ℕ) (coords : List Float) (paths : List ℕ) (tiles m : ℕ) (ws : List ℕ) : Type 0 where
  pub own : own_ran nos coords paths tiles ≡ done (view_of tiles ws m)
  pub starts : StartsNoted nos coords paths tiles ws (tiles + tiles) (length nos)
  pub sums : (t : ℕ) → t < tiles → get_or ws (sums_at tiles (length nos) + t) 0 ≡ first (take tiles ws) t

-- the keys of the first r references stand in the room, the ones from a on and the others from b on
pub record KeysNoted (made : ℕ → ℕ → Made) (start : ℕ → ℕ) (ours refs ws : List ℕ) (a b r : ℕ) : Type 0 where
  pub steps : (j : ℕ) → j < r → get_or ws (a + j) 0 ≡ step_key made start refs j
  pub slices : (j : ℕ) → j < r → get_or ws (b + j) 0 ≡ slice_key made ours refs j

-- the first stray one of n, with the keys of those before it
pub record NotedTo (made : ℕ → ℕ → Made) (start : ℕ → ℕ) (ours refs ws ws' : List ℕ) (a n r : ℕ) : Type 0 where
  pub first_stray : r ≡ first_of (stray_ref made ours refs) n
  pub kept : KeptBelow a ws ws'
  pub noted : KeysNoted made start ours refs ws' a (a + n) r

-- ---- the tables

-- so many references are looked at of those lent: one more than ours hold a fault
unfoldable pub looked_at : (lent made : ℕ) → ℕ
looked_at lent made = min lent (made + 1)

-- the tables past the references; then whether one is missing of those lent
unfoldable pub rest_of : St → (lent : ℕ) (counts : List ℕ) (backs : List ℤ) (stored : List ℕ) (room : ℕ) → Checked
rest_of ours lent counts backs stored room =
    no_if Count (first_count_fault counts ours.counts) (length counts)
    (no_if Backdrop (first_back_fault backs ours.backs) (length backs)
    (no_if Slots (first_slot_fault (min room most_slots) counts stored) (length counts)
    (no_if Reference lent ours.made Yes)))
