-- `looks::zs_on` meets its contract, case by case. Assumes nothing.
use mathlib.Core.Path.{ap, ◌∙◌}
use Rattle.std.proofs.Common.{Ok}
use Rattle.panel.proofs.LimitLaws.{step_read}
use Rattle.walk.specs.Walked.{walked_told}
use Rattle.looks.proofs.CarryLaws.{line_carries}
use Rattle.looks.proofs.zs_on.Goals as goal

pub zs_at-requires : goal.zs_at-requires
zs_at-requires c =
    let inner = rw c.in-Ok-Some.is at c.in-Ok-Some.field-0-is in
    (rw c.step_of.ensures (step_read c.args.packed), line_carries (ap walked_told (c.in-Ok-Some.is ∙ ap Ok inner)) c.requires)
