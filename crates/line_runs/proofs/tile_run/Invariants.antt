use Rattle.panel.specs.Pieces.{pieces}
use Rattle.walk.specs.Walked.{walked_told}
use Rattle.looks.specs.Carry.{Carries}
use Rattle.line_runs.proofs.RunLaws.{Running}
use Rattle.line_runs.proofs.tile_run.Given as goal

abbrev pub invariant-loop-k : goal.invariant-loop-k
invariant-loop-k l =
    Running l.stored l.slots l.refs (walked_told l.found) l.tag l.line.0 l.from l.to (pieces l.initial.segments l.initial.tags) (pieces l.segments l.tags) l.k
    × Carries l.zs (walked_told l.found)
