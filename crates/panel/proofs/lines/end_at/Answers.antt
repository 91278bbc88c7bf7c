-- `panel::lines::end_at` meets its contract. Assumes nothing.
use Rattle.panel.proofs.LineLaws.{end_is}
use Rattle.panel.proofs.lines.end_at.Goals as goal

pub returns : goal.returns
returns c =
    rw c.far_if.ensures.0 (end_is c.args.coords.now c.args.line_no c.args.t)
