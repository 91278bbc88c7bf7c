-- `within::within_at` meets its contract.
-- Assumes nothing.
use mathlib.Core.Path.{refl, sym, subst}
use native.Mathlib.Omega.{arith}
use lib.ListN.{get_or}
use Rattle.walk.specs.Step.{Boxed}
use Rattle.within.proofs.Withins.{unclipped}
use Rattle.within.proofs.within_at.Goals as goal

pub overflow_cast-path_no-2 : goal.overflow_cast-path_no-2
overflow_cast-path_no-2 c = omega (arith, c.type_inv.path_nos c.args.place)

pub inside_at-requires : goal.inside_at-requires
inside_at-requires c =
    (subst Boxed (sym c.path_at-path.ensures) (c.requires.0 (get_or c.args.path_nos.now c.args.place 0) c.if-path_no-paths.false), c.requires.2)

pub returns : goal.returns
returns c =
    let b = c.path_at-path in
    let i = c.in_ok-pace in
    unclipped c.args.path_nos.now c.args.coords.now c.args.paths.now c.args.place c.line_at-line.result b.result i.pace i.n _
    c.line_at-line.ensures b.ensures c.if-path_no-paths.false
    i.ensures refl
