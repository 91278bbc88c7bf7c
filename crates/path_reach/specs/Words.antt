-- The working room meanwhile, four words to a path: by how many tiles its first column and its first row lie before the edge limit, then the column and the
-- row past its last. What only the proofs use: no promise of the call cites it. Definitions only.
use Rattle.std.specs.Prelude.{List, ℕ, zero, suc, ◌+◌, ◌-◌, ◌*◌, max, get_or, set, Float}
use Rattle.util.specs.declared.Vec2.{Vec2}
use Rattle.panel.specs.Limits.{edge_most}
use Rattle.panel.specs.Lines.{line_at}
use Rattle.end_tiles.specs.Lines.{tile_at}
use Rattle.path_reach.specs.Room.{box_words}

-- a word that only grows
unfoldable pub raised_at : ℕ → ℕ → List ℕ → List ℕ
raised_at at v ws = set ws at (max (get_or ws at 0) v)

-- one end of a line of path k
unfoldable pub end_reach : ℕ → Vec2 → List ℕ → List ℕ
end_reach k p ws =
    raised_at (k * box_words + 3) (tile_at p.y + 1)
    (raised_at (k * box_words + 2) (tile_at p.x + 1)
    (raised_at (k * box_words + 1) (edge_most - tile_at p.y) (raised_at (k * box_words) (edge_most - tile_at p.x) ws)))

-- both ends of line l
unfoldable pub line_reach : (nos : List ℕ) (coords : List Float) → ℕ → List ℕ → List ℕ
line_reach nos coords l ws = end_reach (get_or nos l 0) (line_at coords l).p1 (end_reach (get_or nos l 0) (line_at coords l).p0 ws)

-- so many lines from line l on
unfoldable pub gather_from : (nos : List ℕ) (coords : List Float) → ℕ → ℕ → List ℕ → List ℕ
gather_from nos coords zero l ws = ws
gather_from nos coords (suc more) l ws = gather_from nos coords more (suc l) (line_reach nos coords l ws)
