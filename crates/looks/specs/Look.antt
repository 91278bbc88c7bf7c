-- What one reference comes to: docs/RULES.md, tiling's part of "When the panel says no". Definitions only.
use Rattle.std.specs.Prelude.{ℕ, ◌+◌, ◌≤◌, ◌<◌, cond, List, ltb, length, get_or, Float}
use Rattle.panel.specs.Limits.{edge_most}
use Rattle.panel.specs.Refusals.{no_such, no_room_word, outside, crooked}
pub use Rattle.panel.specs.Refs.{line_at, packed_at, step_no, slice_no}
use Rattle.panel.specs.Kinds.{slot_no_of}
use Rattle.panel.specs.Paths.{end_of, beam_at}
use Rattle.panel.specs.Slots.{skips, slot_of}
use Rattle.exact.specs.Reach.{Starts}
use Rattle.walk.specs.Step.{Boxed, step_of}
use Rattle.walk.specs.Lent.{walk_at}
use Rattle.walk.specs.declared.kinds.Walk.{Walk}
use Rattle.walk.specs.Stepped.{Step}
use Rattle.walk.specs.Stepped as On
use Rattle.walk.specs.Walked.{Walked}
use Rattle.walk.specs.Walked as Found
use Rattle.segment.specs.Clips.{piece_of}
use Rattle.segment.specs.Piece.{Piece}
use Rattle.segment.specs.Piece.{Kept, Crooked}
use Rattle.looks.specs.Looked.{Look, Put, Empty, Against}

-- what is lent to be read
pub record Lent : Type 0 where
  pub path_nos : List ℕ
  pub coords : List Float
  pub paths : List ℕ
  pub stored : List ℕ
  pub refs : List ℕ

abbrev pub lent : List ℕ → List Float → List ℕ → List ℕ → List ℕ → Lent
lent ns cs ps xs rs = record { path_nos = ns; coords = cs; paths = ps; stored = xs; refs = rs }

-- a line's tag: the beam number of its path
abbrev pub tag_of : Lent → ℕ → ℕ
tag_of L l = beam_at L.paths (get_or L.path_nos l 0)

-- line l, as the walk finds it; no such line is refused
unfoldable pub found_of : List ℕ → List Float → List ℕ → ℕ → Walked
found_of ns cs ps l = cond (ltb l (length ns)) (walk_at ns cs ps l) (Found.Refused no_such)

-- a slot, and the segment that goes there
unfoldable pub piece_to : ℕ → Piece → Look
piece_to slot (Kept s) = Put (slot_no_of slot) s
piece_to slot Crooked = Against crooked

-- a tile's word: empty, or a slot that must be among the slots that there are
unfoldable pub word_to : ℕ → ℕ → ℕ → Piece → Look
word_to slots word slice piece =
    cond (skips word) Empty
    (cond (ltb slots (slot_of word slice + 1)) (Against no_room_word) (piece_to (slot_of word slice) piece))

-- step i, which must lie in its path's box
unfoldable pub step_to : List ℕ → ℕ → Walk → ℕ → ℕ → Step → Look
step_to stored slots w i slice (On.Tile t x y z) = word_to slots (get_or stored t.0 0) slice (piece_of w i z x y)
step_to stored slots w i slice On.Refused = Against outside

-- what a step's tile is known to be: one of n tiles, in a box within the limits
abbrev pub StepFits : ℕ → Step → Type 0
StepFits n (On.Tile t x y z) = (t.0 < n) × (x ≤ edge_most) × (y ≤ edge_most)
StepFits n On.Refused = Unit {0}

-- a line that was found
unfoldable pub found_to : List ℕ → ℕ → ℕ → Walked → Look
found_to stored slots packed (Found.Line w p) =
    step_to stored slots w (step_no packed) (slice_no packed) (step_of w.pace p (step_no packed))
found_to stored slots packed Found.Skipped = Against no_such
found_to stored slots packed (Found.Refused why) = Against why

-- what a line that was found is known of: its path's box is within the limits, its tiles are among n, and it was checked
abbrev pub FoundFits : ℕ → Walked → Type 0
FoundFits n (Found.Line w p) = Boxed p × (end_of p ≤ n) × Starts w.pace.sign w.pace.x0 w.pace.y0
FoundFits n Found.Skipped = Unit {0}
FoundFits n (Found.Refused why) = Unit {0}

-- reference k
unfoldable pub look_of : Lent → ℕ → ℕ → Look
look_of L slots k = found_to L.stored slots (packed_at L.refs k) (found_of L.path_nos L.coords L.paths (line_at L.refs k))
