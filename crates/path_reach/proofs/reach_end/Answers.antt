-- `path_reach::reach_end` meets its contract: four words, one after another.
-- Assumes nothing.
use native.Mathlib.Omega.{arith}
use Rattle.panel.specs.Limits.{edge_most}
use Rattle.panel.proofs.LimitLaws.{small}
use Rattle.path_reach.specs.Words.{end_reach}
use Rattle.path_reach.proofs.reach_end.Goals as goal

pub overflow_sub-x : goal.overflow_sub-x
overflow_sub-x c = omega (arith, small.edge, c.requires.1, c.tile_at-x.ensures)

pub overflow_sub-y : goal.overflow_sub-y
overflow_sub-y c = omega (arith, small.edge, c.requires.2, c.tile_at-y.ensures)

pub overflow_add-x : goal.overflow_add-x
overflow_add-x c = omega (
  arith,
  small.edge,
  c.requires.1,
  c.tile_at-x.ensures,
)

pub overflow_add-y : goal.overflow_add-y
overflow_add-y c = omega (
  arith,
  small.edge,
  c.requires.2,
  c.tile_at-y.ensures,
)

pub returns : goal.returns
unfolding end_reach edge_most
returns c = rw (
  c.raise-4.ensures,
  c.raise-3.ensures,
  c.raise-2.ensures,
  c.raise.ensures,
  c.tile_at-y.ensures,
  c.tile_at-x.ensures,
)
