-- `sizes::paths::tiles_of` meets its contract.
-- Assumes nothing.
use mathlib.Core.Path.{ap, ◌∙◌}
use Prim.Native.Nat.{◌-◌}
use native.Mathlib.Omega.{arith}
use borrow.Author.Tests.{eq-eqb, ne_eqb}
use Rattle.panel.specs.Limits.{most_tiles}
use Rattle.panel.specs.Paths.{path_at, path_count, end_of}
use Rattle.panel.proofs.PathLaws.{Fits, checked}
use Rattle.sizes.specs.Words.{tiles_of}
use Rattle.sizes.proofs.paths.tiles_of.Goals as goal
use Rattle.sizes.proofs.paths.tiles_of.Goals.{After-path_at}

pub overflow_cast-n : goal.overflow_cast-n
overflow_cast-n c = omega (arith, (checked c.args.paths.now most_tiles c.requires).few)

pub returns-then-n-eq0 : goal.returns-then-n-eq0
unfolding tiles_of
returns-then-n-eq0 c = rw (eq-eqb _ _ c.if-n-eq0.true)

-- the last path fits
last : (c : After-path_at) → Fits (path_at c.args.paths.now (path_count c.args.paths.now - 1)) most_tiles
last c =
    let a = c.args in
    (checked a.paths.now most_tiles c.requires).fits (path_count a.paths.now - 1) (omega (arith, c.if-n-eq0.false))

pub end_of-requires : goal.end_of-requires
end_of-requires c = (rw c.path_at.ensures (last c).across, rw c.path_at.ensures (last c).down)

pub overflow_cast-result : goal.overflow_cast-result
overflow_cast-result c = rw (c.end_of.ensures, c.path_at.ensures) (omega (arith, (last (goal.at.overflow_cast-result c).After-path_at).within))

pub returns : goal.returns
unfolding tiles_of
returns c = rw (ne_eqb _ _ c.if-n-eq0.false) (c.end_of.ensures ∙ ap end_of c.path_at.ensures)
