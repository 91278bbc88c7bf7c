-- `recount::checks::check_range` meets its contract: a return for each check of the row. Assumes nothing.
use mathlib.Core.Path.{◌≡◌, ap, ◌∙◌}
use borrow.Author.Tests.{eq-eqb, ne_eqb, lt-ltb, le-ltb}
use Rattle.panel.specs.Paths.{path_at}
use Rattle.panel.proofs.PathLaws.{checked, path_there}
use Rattle.kept_range.specs.Kept.{tiles_in}
use Rattle.recount.proofs.checks.check_range.Goals as goal
use Rattle.recount.proofs.checks.check_range.Goals.{After-tiles_in-n}

pub returns-then-path-paths : goal.returns-then-path-paths
returns-then-path-paths c = rw (le-ltb _ _ c.if-path-paths.true)

pub path_at-requires : goal.path_at-requires
path_at-requires c = path_there c.args.paths.now c.args.path c.if-path-paths.false

pub tiles_in-n-requires : goal.tiles_in-n-requires
tiles_in-n-requires c =
    let f = (checked c.args.paths.now c.args.tiles c.requires).fits c.args.path
    c.if-path-paths.false in
    rw c.path_at.ensures (f.across, f.down)

-- what the code has of the range
range : (c : After-tiles_in-n) → c.tiles_in-n.result ≡ tiles_in (path_at c.args.paths.now c.args.path)
range c = c.tiles_in-n.ensures ∙ ap tiles_in c.path_at.ensures

pub returns-then-kb-n : goal.returns-then-kb-n
returns-then-kb-n c = rw (lt-ltb _ _ c.if-path-paths.false, ← range (goal.at.returns-then-kb-n c).After-tiles_in-n, ne_eqb _ _ c.if-kb-n.true)

pub returns-then-kc-n : goal.returns-then-kc-n
returns-then-kc-n c = rw (lt-ltb _ _ c.if-path-paths.false, ← range (goal.at.returns-then-kc-n c).After-tiles_in-n, eq-eqb _ _ c.if-kb-n.false, ne_eqb _ _ c.if-kc-n.true)

pub returns : goal.returns
returns c = rw (lt-ltb _ _ c.if-path-paths.false, ← range (goal.at.returns c).After-tiles_in-n, eq-eqb _ _ c.if-kb-n.false, eq-eqb _ _ c.if-kc-n.false)
