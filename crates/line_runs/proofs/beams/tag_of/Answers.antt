-- `line_runs::beams::tag_of` meets its contract: past the last path the definition reads 0. Assumes nothing.
use Rattle.line_runs.proofs.BeamLaws.{no_path}
use Rattle.line_runs.proofs.beams.tag_of.Goals as goal

pub returns-then-path-paths : goal.returns-then-path-paths
returns-then-path-paths c = c.beam_at.ensures

pub returns-else-path-paths : goal.returns-else-path-paths
returns-else-path-paths c = no_path c.args.paths.now _ c.if-path-paths.false
