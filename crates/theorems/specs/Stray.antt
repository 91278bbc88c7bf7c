-- No stray piece: what is claimed of the writes of tiling. Definitions only.
use Rattle.std.specs.Prelude.{◌≡◌, ◌≢◌, List, map, ℕ, ◌+◌, ◌≤◌, ◌<◌, length, get_or, Float}
use Rattle.lists.specs.Run.{All}
use Rattle.lists.specs.Sums.{first, from}
use Rattle.lists.specs.Occ.{occ}
use Rattle.lists.specs.Tally.{Distinct}
use Rattle.panel.specs.Paths.{path_at, path_count, end_of, beam_at}
use Rattle.panel.specs.Pieces.{Pieces}
use Rattle.panel.specs.Answer.{Done, Refused}
use Rattle.looks.specs.Look.{line_at}
use Rattle.panel.specs.Segments.{segment_at, Straight}
use Rattle.path_tiling.specs.Tiling.{Write, Range, applied}
use Rattle.theorems.specs.Refs.{ref_tile}
use Rattle.theorems.specs.Drawn.{InPath}

-- the tag at a slot
abbrev pub tag_at : Pieces → ℕ → ℕ
tag_at p k = get_or p.tags k 0

-- the slots that writes go to, and the references they come from, in order
abbrev pub written_to : List Write → List ℕ
written_to ws = map (λ w. w.slot) ws

abbrev pub written_from : List Write → List ℕ
written_from ws = map (λ w. w.ref) ws

-- a write is its own path's: it comes from one of the m references that counting made, of that reference's line and that line's path; the
-- reference's tile lies in that path's range, and the slot in that tile's; both ends lie in the tile, and its y_edge is finite; its tag is the path's
-- beam number
pub record OwnWrite (nos : List ℕ) (coords : List Float) (paths : List ℕ) (cs rs : List ℕ) (m : ℕ) (w : Write) : Type 0 where
  pub counted : w.ref < m
  pub line : w.line ≡ line_at rs w.ref
  pub path : w.path ≡ get_or nos w.line 0
  pub tag : w.tag ≡ beam_at paths w.path
  pub path_there : w.path < path_count paths
  pub tile_low : (path_at paths w.path).first ≤ ref_tile nos coords paths rs w.ref
  pub tile_high : ref_tile nos coords paths rs w.ref < end_of (path_at paths w.path)
  pub slot_low : first cs (ref_tile nos coords paths rs w.ref) ≤ w.slot
  pub slot_high : w.slot < first cs (ref_tile nos coords paths rs w.ref) + get_or cs (ref_tile nos coords paths rs w.ref) 0
  pub straight : Straight w.segment

-- what the tiling of all m references came to
pub record NoStray (nos : List ℕ) (coords : List Float) (paths : List ℕ) (cs rs : List ℕ) (m : ℕ) (p : Pieces) (r : Range) : Type 0 where
  -- every write is its own path's
  pub each : All (OwnWrite nos coords paths cs rs m) r.writes
  -- the references are written in order and none is left out: those up to the one refused, or all
  pub in_order : written_from r.writes ≡ from 0 (length r.writes)
  pub all : r.answer ≡ Done → length r.writes ≡ m
  pub before : (why item : ℕ) → r.answer ≡ Refused why item → length r.writes ≡ item
  -- no slot is written twice; and where no reference was refused, each slot below their number is written once
  pub apart : Distinct (written_to r.writes)
  pub once : r.answer ≡ Done → (k : ℕ) → k < m → occ k (written_to r.writes) ≡ 1
  -- afterwards coverage reads at each slot written its segment, and its tag stands there; every other slot holds what it held, segment and tag
  pub kept : All (λ w. segment_at (applied r.writes p).segments w.slot ≡ w.segment) r.writes
  pub tagged : All (λ w. tag_at (applied r.writes p) w.slot ≡ w.tag) r.writes
  pub others : (k : ℕ) → All (λ w. k ≢ w.slot) r.writes → segment_at (applied r.writes p).segments k ≡ segment_at p.segments k
  pub other_tags : (k : ℕ) → All (λ w. k ≢ w.slot) r.writes → tag_at (applied r.writes p) k ≡ tag_at p k

-- ---- the tags

-- where slot k's tag comes from: one of the m references that counting made, and the beam number of the path of the line that it names
pub record SlotTag (nos paths rs : List ℕ) (m : ℕ) (p : Pieces) (k : ℕ) : Type 0 where
  pub ref : ℕ
  pub counted : ref < m
  pub tag : tag_at p k ≡ beam_at paths (get_or nos (line_at rs ref) 0)

-- every slot of a tile in a path's range carries that path's beam number, where the tiles' counts are cs
abbrev pub Carries : (paths cs : List ℕ) → Pieces → Type 0
Carries paths cs p = (q t j : ℕ) → InPath paths q t → j < get_or cs t 0 → tag_at p (first cs t + j) ≡ beam_at paths q
