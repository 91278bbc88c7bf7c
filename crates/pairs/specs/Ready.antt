-- What the checks of a call leave. Only proofs lean on this: no promise of a public call does. Definitions only.
use Rattle.std.specs.Prelude.{◌≡◌, ◌*◌, length}
use Rattle.panel.specs.Widths.{paint_words}
use Rattle.panel.specs.Paths.{path_count, paths_answer}
use Rattle.panel.specs.Answer.{Done}
use Rattle.pairs.specs.Pairs.{Tables}

-- what is lent has passed 1 to 4
pub record Ready (s : Tables) : Type 0 where
  pub paints : length s.paints ≡ paint_words * path_count s.paths
  pub stored : length s.stored ≡ length s.backdrops
  pub tally : length s.tally ≡ length s.backdrops
  pub passed : paths_answer s.paths (length s.backdrops) ≡ Done
