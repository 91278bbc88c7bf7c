-- References as they stand in the words lent: each one's tile is found again from its line and its step, as tiling finds it. Definitions only.
use Rattle.std.specs.Prelude.{◌≡◌, List, map, ℕ, ◌+◌, ◌<◌, ◌≤◌, length, get_or, replicate, ℤ, pos, Float}
use Rattle.lists.specs.Sums.{sum, from}
use Rattle.lists.specs.Occ.{occ}
use Rattle.lists.specs.Tally.{zeros, of_tile}
use Rattle.panel.specs.Kinds.{running_of}
use Rattle.walk.specs.Step.{step_of}
use Rattle.walk.specs.Lent.{walk_at}
use Rattle.walk.specs.Stepped.{Step}
use Rattle.walk.specs.Stepped as On
use Rattle.walk.specs.Walked.{Walked, Refused, Skipped, Line}
use Rattle.acts.specs.Acts.{st_of}
use Rattle.path_count.specs.Count.{Told, told_of, paper_of, counted}
use Rattle.path_count.specs.Counted.{Done}
use Rattle.looks.specs.Look.{line_at, packed_at, step_no, slice_no}

-- the tile that a step falls on; a step that is refused has none, which no reference of counting's has
abbrev pub step_tile : Step → ℕ
step_tile (On.Tile t x y z) = t.0
step_tile On.Refused = 0

abbrev pub walk_tile : Walked → ℕ → ℕ
walk_tile (Refused n) i = 0
walk_tile Skipped i = 0
walk_tile (Line w b) i = step_tile (step_of w.pace b i)

-- the tile of reference i of the words rs
abbrev pub ref_tile : (nos : List ℕ) (coords : List Float) (paths rs : List ℕ) → ℕ → ℕ
ref_tile nos coords paths rs i = walk_tile (walk_at nos coords paths (line_at rs i)) (step_no (packed_at rs i))

-- the tiles and the slice numbers of the first m references
abbrev pub ref_tiles : (nos : List ℕ) (coords : List Float) (paths rs : List ℕ) → ℕ → List ℕ
ref_tiles nos coords paths rs m = map (ref_tile nos coords paths rs) (from 0 m)

abbrev pub ref_slices : List ℕ → ℕ → List ℕ
ref_slices rs m = map (λ i. slice_no (packed_at rs i)) (from 0 m)

-- ---- the premise of most theorems: the first b lines are counted into n zeroed tiles, and none is refused; the backdrops, counts and words are then
-- bs, cs and rs, and m references are made

abbrev pub from_zero : ℕ → (nos : List ℕ) (coords : List Float) (paths : List ℕ) → ℕ → List ℕ → Told
from_zero b nos coords paths n refs = counted (running_of 0 0) b nos coords paths (replicate n (pos 0)) (zeros n) refs

abbrev pub AllCounted : ℕ → (nos : List ℕ) (coords : List Float) (paths : List ℕ) → ℕ → List ℕ → (bs : List ℤ) (cs rs : List ℕ) → ℕ → Type 0
AllCounted b nos coords paths n refs bs cs rs m = from_zero b nos coords paths n refs ≡ told_of (paper_of (Done (running_of b m))) (st_of bs cs rs m)

-- ---- the sums

pub record Sums (nos : List ℕ) (coords : List Float) (paths : List ℕ) (n : ℕ) (cs rs : List ℕ) (m : ℕ) : Type 0 where
  -- the tiles' counts sum to the number of references
  pub total : sum cs ≡ m
  -- each tile's count is the number of references in it
  pub each : (t : ℕ) → t < n → get_or cs t 0 ≡ occ t (ref_tiles nos coords paths rs m)
  -- the slice numbers of a tile's references, in order, are 0, 1, .., its count less one
  pub slices : (t : ℕ) → t < n → of_tile t (ref_tiles nos coords paths rs m) (ref_slices rs m) ≡ from 0 (get_or cs t 0)
  -- no reference is in a tile past the last
  pub inside : (i : ℕ) → i < m → ref_tile nos coords paths rs i < n
  -- the references lie within the words lent
  pub there : m + m ≤ length rs
