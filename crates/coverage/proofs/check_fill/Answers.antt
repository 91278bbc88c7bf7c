-- `coverage::check_fill` meets its contract. Assumes nothing.
use borrow.Author.Tests.{eq-eqb, ne_eqb}
use Rattle.coverage.proofs.check_fill.Goals as goal

pub returns-then-segments-ne0 : goal.returns-then-segments-ne0
returns-then-segments-ne0 c = rw (ne_eqb _ _ c.if-segments-ne0.true)

pub returns-then-area-ne-TILE_SIZE : goal.returns-then-area-ne-TILE_SIZE
returns-then-area-ne-TILE_SIZE c = rw (eq-eqb _ _ c.if-segments-ne0.false, ne_eqb _ _ c.if-area-ne-TILE_SIZE.true)

pub returns : goal.returns
returns c = rw (eq-eqb _ _ c.if-segments-ne0.false, eq-eqb _ _ c.if-area-ne-TILE_SIZE.false) c.ground.ensures
