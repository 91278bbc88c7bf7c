-- The box that the words of the working room tell of, as `path_reach` gathers them. What only the proofs use: no promise of the call cites it. Definitions only.
use Rattle.std.specs.Prelude.{cond, List, ℕ, ◌+◌, ◌-◌, ◌*◌, min, eqb, get_or}
use Rattle.panel.specs.Limits.{edge_most}
use Rattle.panel.specs.Paths.{path_of}
use Rattle.panel.specs.declared.kinds.Path.{Path}
use Rattle.path_reach.specs.Room.{box_words}

-- path k's box, as the words say
unfoldable pub box_in : List ℕ → (m k first : ℕ) → Path
box_in ws m k first =
    cond (eqb (get_or ws (k * box_words + 2) 0) 0) (path_of 0 0 0 0 first)
    (path_of (edge_most - get_or ws (k * box_words) 0 - m) (edge_most - get_or ws (k * box_words + 1) 0 - m) (min (get_or ws (k * box_words + 2) 0 + m) edge_most)
    (min (get_or ws (k * box_words + 3) 0 + m) edge_most) first)
