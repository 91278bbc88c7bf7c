-- The paths that a screen tile is looked at with, as the crate `near` lists them. Only proofs lean on this: no promise of a public call does.
-- Definitions only.
use Rattle.std.specs.Prelude.{◌≡◌, List, ℕ, ◌%◌, ◌/◌, ◌<◌}
use Rattle.lists.specs.Run.{All}
use Rattle.panel.specs.Paths.{path_count}
use Rattle.pairs.specs.Pairs.{Tables, pairs_of, tile_pairs}

-- these paths put on screen tile t what all paths put there
pub record Near (s : Tables) (cols t : ℕ) (ps : List ℕ) : Type 0 where
  pub all : pairs_of s (t % cols) (t / cols) ps ≡ tile_pairs s cols t
  pub there : All (λ p. p < path_count s.paths) ps
