-- The references of lines, in order, apart from memory: each names its line, its tile and its step. Definitions only.
use Rattle.std.specs.Prelude.{◌≡◌, List, [], ◌∷◌, ◌++◌, ℕ, ◌+◌, ◌≤◌, ◌<◌, get_or, Float}
use Rattle.lists.specs.Sums.{first}
use Rattle.lists.specs.Tally.{tally, slices, zeros}
use Rattle.panel.specs.Limits.{most_lines, most_steps}
use Rattle.panel.specs.Paths.{path_at, path_count, end_of}
use Rattle.panel.specs.declared.kinds.Path.{Path}
use Rattle.panel.specs.declared.kinds.TileNo.{TileNo}
use Rattle.walk.specs.Lent.{walk_at}
use Rattle.walk.specs.Step.{step_of}
use Rattle.walk.specs.declared.kinds.Walk.{Walk}
use Rattle.walk.specs.Stepped.{Tile}
use Rattle.walk.specs.Walked.{Line}
use Rattle.acts.specs.Acts.{Act, mark, visit, stop, packed}
use Rattle.theorems.specs.Drawn.{drawn_at, walk_of, acts_by}

pub record Event : Type 0 where
  pub line : ℕ
  pub tile : ℕ
  pub step : ℕ

-- step i of a walk over the box of path b falls on tile t
pub record StepOn (w : Walk) (b : Path) (t i : ℕ) : Type 0 where
  pub tile : TileNo
  pub x : ℕ
  pub y : ℕ
  pub z : Float
  pub fell : step_of w.pace b i ≡ Tile tile x y z
  pub number : tile.0 ≡ t

-- what is known of a reference that counting made: its line is walked over its own path's box, its step falls on its tile, and that tile is in the
-- path's range
pub record EventOwn (nos : List ℕ) (coords : List Float) (paths : List ℕ) (e : Event) : Type 0 where
  pub walk : Walk
  pub box : Path
  pub walked : walk_at nos coords paths e.line ≡ Line walk box
  pub box_is : box ≡ path_at paths (get_or nos e.line 0)
  pub path_in : get_or nos e.line 0 < path_count paths
  pub on : StepOn walk box e.tile e.step
  pub held : (box.first ≤ e.tile) × (e.tile < end_of box)
  pub step_small : e.step < most_steps
  pub line_small : e.line < most_lines

-- those of line l, by its acts
abbrev pub events_in : ℕ → List Act → List Event
events_in l [] = []
events_in l (mark t ∷ xs) = events_in l xs
events_in l (visit t i ∷ xs) = record { line = l; tile = t; step = i } ∷ events_in l xs
events_in l (stop n ∷ xs) = events_in l xs

module _ (nos : List ℕ) (coords : List Float) (paths : List ℕ) where
  abbrev pub events_at : ℕ → List Event
  events_at l = events_in l (acts_by (walk_of paths (drawn_at nos coords l)))

  -- those of the lines with these numbers
  abbrev pub events_of : List ℕ → List Event
  events_of [] = []
  events_of (l ∷ ls) = events_at l ++ events_of ls

-- their tiles
abbrev pub tiles_ev : List Event → List ℕ
tiles_ev [] = []
tiles_ev (e ∷ es) = e.tile ∷ tiles_ev es

-- their words, with these slice numbers: line number, then slice number times 65,536 plus step number
abbrev pub words_ev : List Event → List ℕ → List ℕ
words_ev [] ks = []
words_ev (e ∷ es) [] = []
words_ev (e ∷ es) (k ∷ ks) = e.line ∷ packed k e.step ∷ words_ev es ks

-- ---- from n zeroed tiles, where ts are the references' tiles

abbrev pub counts_of : ℕ → List ℕ → List ℕ
counts_of n ts = tally (zeros n) ts

-- reference i's slice number, and its slot: its tile's first, and the slice number
abbrev pub slice_of : ℕ → List ℕ → ℕ → ℕ
slice_of n ts i = get_or (slices (zeros n) ts) i 0

abbrev pub slot_of : ℕ → List ℕ → ℕ → ℕ
slot_of n ts i = first (counts_of n ts) (get_or ts i 0) + slice_of n ts i
