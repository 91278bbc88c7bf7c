-- `looks::look_line` meets its contract: a step by its z's, and by its corner from the walk's floats, is the step. Assumes nothing.
use Rattle.looks.proofs.LookLaws.{step_fits}
use Rattle.looks.proofs.CarryLaws.{step_by}
use Rattle.looks.proofs.look_line.Goals as goal

pub look_step-requires : goal.look_step-requires
look_step-requires c =
    (c.requires.0, c.requires.1, rw c.step_with-step.ensures (step_fits c.args.w.pace c.args.p c.args.s.at _ c.requires.2 c.requires.3))

pub returns : goal.returns
returns c =
    rw (c.look_step.ensures, c.step_with-step.ensures)
    (step_by _ _ _ c.args.w c.requires.4 c.args.p c.requires.2 c.args.s c.requires.0 c.requires.5 _ c.corner_at-t.ensures)
