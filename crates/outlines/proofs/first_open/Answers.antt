-- `outlines::first_open` meets its contract. Assumes nothing.
use mathlib.Core.Path.{ap, ◌∙◌}
use lib.ListN.{length}
use Rattle.ranges.proofs.RangeLaws.{length_cleared}
use Rattle.outlines.proofs.CallLaws.{ready_same, all_clear}
use Rattle.outlines.proofs.first_open.Goals as goal

pub pass-best-requires : goal.pass-best-requires
pass-best-requires c =
    let d = c.clear in (
      ready_same c.args.path_nos.now c.args.coords.now c.args.work.now d.new.xs (ap length d.ensures ∙ length_cleared 0 0 _ c.args.work.now) c.requires,
      rw d.ensures (all_clear c.args.work.now),
    )
