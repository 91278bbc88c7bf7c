-- `sizes::paths::words_of` meets its contract: there are no more pairs than tiles, so the words fit.
-- Assumes nothing.
use Prim.Native.Nat.{◌≤◌}
use native.Mathlib.Omega.{arith}
use Rattle.panel.specs.Limits.{most_tiles}
use Rattle.panel.specs.Paths.{path_count}
use Rattle.panel.proofs.PathLaws.{checked}
use Rattle.sizes.specs.Words.{pairs_to, words_of}
use Rattle.sizes.proofs.WordLaws.{pairs_most}
use Rattle.sizes.proofs.paths.words_of.Goals as goal
use Rattle.sizes.proofs.paths.words_of.Goals.{After-region_pairs}

pub overflow_cast-n : goal.overflow_cast-n
overflow_cast-n c = omega (arith, (checked c.args.paths.now most_tiles c.requires.0).few)

few : (c : After-region_pairs)
    → pairs_to c.args.paths.now c.args.cols c.args.rows (path_count
    c.args.paths.now) ≤ most_tiles
few c =
    let a = c.args in
    pairs_most a.paths.now a.cols a.rows most_tiles (checked a.paths.now most_tiles c.requires.0) (path_count a.paths.now) (omega arith)

pub overflow_mul-result : goal.overflow_mul-result
overflow_mul-result c = record { fits = rw (c.region_pairs.ensures, c.pairs_to-pairs.ensures) (omega (arith, few c, c.requires.1)) }

pub overflow_cast-result : goal.overflow_cast-result
overflow_cast-result c = record { fits = rw (c.region_pairs.ensures, c.pairs_to-pairs.ensures) (omega (arith, few c, c.requires.1)) }

pub returns : goal.returns
unfolding words_of
returns c = rw (c.region_pairs.ensures, c.pairs_to-pairs.ensures)
