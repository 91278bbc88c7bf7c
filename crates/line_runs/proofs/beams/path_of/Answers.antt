-- `line_runs::beams::path_of` meets its contract: past the list's end the definition reads 0. Assumes nothing.
use Rattle.line_runs.proofs.BeamLaws.{no_line}
use Rattle.line_runs.proofs.beams.path_of.Goals as goal

pub returns-else-line-path_nos : goal.returns-else-line-path_nos
returns-else-line-path_nos c = no_line c.args.path_nos.now _ c.if-line-path_nos.false
