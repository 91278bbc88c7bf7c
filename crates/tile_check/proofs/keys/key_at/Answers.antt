-- `tile_check::keys::key_at` meets its contract.
-- Assumes nothing.
use native.Mathlib.Omega.{arith}
use Rattle.panel.specs.Widths.{step_range}
use Rattle.tile_check.proofs.keys.key_at.Goals as goal

pub made_at-found-requires : goal.made_at-found-requires
unfolding step_range
made_at-found-requires c = (
  c.requires.3,
  (
    c.args.tiles,
    c.requires.2,
  ),
  omega (arith, c.step_of-step.ensures),
)
