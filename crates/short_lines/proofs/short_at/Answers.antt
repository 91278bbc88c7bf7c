-- `short_lines::short_at` meets its contract: the line and its path are there, and the rest is `comes`. Assumes nothing.
use mathlib.Core.Path.{sym}
use native.Mathlib.Omega.{arith}
use Rattle.short_lines.proofs.ShortLaws.{short_comes, path_boxed, spot_in, spot_fits, piece_kept}
use Rattle.short_lines.proofs.short_at.Goals as goal

pub overflow_cast-path-2 : goal.overflow_cast-path-2
overflow_cast-path-2 c = omega (arith, c.shared_slice_known-5-1.given c.args.line.0)

pub spot_of-requires : goal.spot_of-requires
spot_of-requires c =
    rw c.path_at.ensures (path_boxed c.args.paths.now _ _ c.requires.1 c.if-path-paths.false).0

pub piece_in-requires : goal.piece_in-requires
piece_in-requires c =
    let boxed = rw (sym c.path_at.ensures) at (path_boxed c.args.paths.now _ _ c.requires.1 c.if-path-paths.false) in
    let fits = spot_fits _ _ _ _ _ _ _ boxed (spot_in c.in_ok-tile.was c.spot_of.ensures) in
    (fits.1, fits.2)

pub bounds-stored-tile : goal.bounds-stored-tile
bounds-stored-tile c =
    let boxed = rw (sym c.path_at.ensures) at (path_boxed c.args.paths.now _ _ c.requires.1 c.if-path-paths.false) in
    (spot_fits _ _ _ _ _ _ _ boxed (spot_in c.in_ok-tile.was c.spot_of.ensures)).0

pub returns : goal.returns
returns c =
    let a = c.args in
    short_comes a.path_nos.now a.coords.now a.paths.now a.stored.now a.line.0 c.line_at-ends.result c.path_at.result _ _ _ _ _
    c.line_at-ends.ensures c.path_at.ensures c.if-line-path_nos.false c.if-path-paths.false
    (spot_in c.in_ok-tile.was c.spot_of.ensures)
    (piece_kept _ _ _ _ c.in_ok-s.was c.piece_in.ensures)
    c.beam_at.ensures
