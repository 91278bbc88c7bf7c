-- `setup::walk_at` meets its contract. Assumes nothing.
use native.Mathlib.Omega.{arith}
use Rattle.walk.specs.Walked.{walked_told}
use Rattle.walk.proofs.Lines.{far_off, no_path, goes}
use Rattle.setup.proofs.walk_at.Goals as goal

pub returns-then-not-reached : goal.returns-then-not-reached
returns-then-not-reached c =
    far_off c.args.path_nos.now c.args.coords.now c.args.paths.now c.args.line_no c.line_at-line.result c.line_at-line.ensures
    (cc)

pub overflow_cast-path_no-2 : goal.overflow_cast-path_no-2
overflow_cast-path_no-2 c = omega (arith, c.type_inv.path_nos c.args.line_no)

pub returns-then-path_no-paths : goal.returns-then-path_no-paths
returns-then-path_no-paths c =
    no_path c.args.path_nos.now c.args.coords.now c.args.paths.now c.args.line_no c.line_at-line.result c.line_at-line.ensures
    (cc)
    c.if-path_no-paths.true

pub walk_on-requires : goal.walk_on-requires
walk_on-requires c = cc

pub returns : goal.returns
returns c =
    goes c.args.path_nos.now c.args.coords.now c.args.paths.now c.args.line_no c.line_at-line.result c.line_at-line.ensures
    (walked_told c.walk_on.result)
    (cc)
    c.if-path_no-paths.false
    (cc)
