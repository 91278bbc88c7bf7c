-- `screen_rows::start_rows` meets its contract. The invariant: the rows above y have their first pixel. Assumes nothing.
use mathlib.Core.Path.{◌∙◌}
use native.Mathlib.Omega.{arith}
use lib.ListN.{length-set}
use Rattle.screen_rows.proofs.Flats.{none_started, one_started, all_started}
use Rattle.screen_rows.proofs.start_rows.Goals as goal

pub loop-y-init : goal.loop-y-init
loop-y-init c = (c.requires, none_started c.args.rgba.now c.args.px)

pub loop-y-preserved : goal.loop-y-preserved
loop-y-preserved c =
    let l = c.loop-y in
    (length-set l.rgba _ _ ∙ l.invariant.0, one_started l.rgba _ l.y l.invariant.0 (omega arith) l.invariant.1)

pub returns : goal.returns
returns c =
    let l = c.loop-y in
    (l.invariant.0, all_started l.rgba _ l.y l.invariant.0 (omega arith) l.invariant.1)
