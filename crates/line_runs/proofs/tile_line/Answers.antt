-- `line_runs::tile_line` meets its contract: the run of the line as it was found, with its path's tag. Assumes nothing.
use native.Mathlib.Omega.{arith}
use Rattle.looks.proofs.FoundLaws.{found_fits}
use Rattle.line_runs.proofs.RunLaws.{tagged}
use Rattle.line_runs.proofs.tile_line.Goals as goal

pub tile_run-requires : goal.tile_run-requires
tile_run-requires c =
    let p = c.requires in
    (rw c.found_at-found.ensures (found_fits _ _ _ _ _ p.paths), p.room, p.tagged, omega (arith, p.some), p.there)

pub returns : goal.returns
returns c =
    let a = c.args in
    let g = c.tag_of-tag in
    let q = c.path_of-path in
    rw (c.found_at-found.ensures, tagged a.path_nos.now a.paths.now a.line.0 q.result g.result q.ensures g.ensures) at c.tile_run.ensures
