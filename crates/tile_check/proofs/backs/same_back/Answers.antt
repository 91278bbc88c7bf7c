-- `tile_check::backs::same_back` meets its contract. A signed number stands as what its bits read back.
-- Assumes nothing.
use mir.Facts.{to_z-of_z}
use Rattle.tile_check.proofs.BackLaws.{neg-fits, neg_high, neg_same, pos_low, pos_same}
use Rattle.tile_check.proofs.backs.same_back.Goals as goal

pub returns-then-w-ge-ZERO_BACK : goal.returns-then-w-ge-ZERO_BACK
returns-then-w-ge-ZERO_BACK c = neg_high c.args.b c.args.w (rw (to_z-of_z c.ranges.b) at c.if-b-lt0.true) c.if-w-ge-ZERO_BACK.true

pub returns-then-b-lt0 : goal.returns-then-b-lt0
returns-then-b-lt0 c = rw (
  (to_z-of_z c.ranges.b),
  to_z-of_z (neg-fits c.args.b c.ranges.b (rw (to_z-of_z c.ranges.b) at
      c.if-b-lt0.true)),
) (neg_same c.args.b c.args.w (rw (to_z-of_z c.ranges.b) at c.if-b-lt0.true) c.if-w-ge-ZERO_BACK.false)

pub returns-then-w-lt-ZERO_BACK : goal.returns-then-w-lt-ZERO_BACK
returns-then-w-lt-ZERO_BACK c = pos_low c.args.b c.args.w (rw (to_z-of_z c.ranges.b) at c.if-b-lt0.false) c.if-w-lt-ZERO_BACK.true

pub returns : goal.returns
returns c = rw (to_z-of_z c.ranges.b) (pos_same c.args.b c.args.w (rw (to_z-of_z c.ranges.b) at c.if-b-lt0.false) c.if-w-lt-ZERO_BACK.false)
