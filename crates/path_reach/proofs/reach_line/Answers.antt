-- `path_reach::reach_line` meets its contract: one end, then the other.
-- Assumes nothing.
use Rattle.path_reach.specs.Words.{line_reach}
use Rattle.path_reach.proofs.reach_line.Goals as goal

pub returns : goal.returns
unfolding line_reach
returns c = rw (
  c.reach_end-2.ensures,
  c.reach_end.ensures,
  c.line_at-e.ensures,
)
