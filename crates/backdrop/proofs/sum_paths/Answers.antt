-- `backdrop::sum_paths` meets its contract. The loop's invariant: what is left to sum from here comes to the same as all of it.
-- Assumes nothing.
use mathlib.Core.Path.{◌≡◌, sym, ◌∙◌}
use mathlib.Core.Bool.{true, false}
use native.Mathlib.Omega.{arith}
use lib.ListN.{length}
use Rattle.panel.specs.Paths.{path_at}
use Rattle.panel.proofs.PathLaws.{checked}
use Rattle.backdrop.specs.Backdrop.{path_fits, path_sums}
use Rattle.backdrop.proofs.PathSums.{paths_turn, paths_no, paths_end, length_path}
use Rattle.backdrop.proofs.sum_paths.Goals as goal

pub path_fits-requires : goal.path_fits-requires
path_fits-requires c =
    let a = c.args in
    let l = c.loop-k in
    let at : c.path_at-p.result ≡ path_at a.paths.now l.k = c.path_at-p.ensures in
    let f = (checked a.paths.now (length a.backdrops.now) c.requires.1).fits l.k (omega arith) in
    rw at (f.across, f.down, f.right, omega (arith, f.within))

pub returns-then-not-path_fits : goal.returns-then-not-path_fits
returns-then-not-path_fits c =
    let a = c.args in
    let l = c.loop-k in
    let at : c.path_at-p.result ≡ path_at a.paths.now l.k = c.path_at-p.ensures in
    let f = (checked a.paths.now (length a.backdrops.now) c.requires.1).fits l.k (omega arith) in
    let none : path_fits (path_at a.paths.now l.k) l.backdrops ≡ false = rw at at (sym c.path_fits.ensures ∙ c.if-not-path_fits.true) in
    rw c.at.ensures (sym (paths_no a.paths.now a.n l.k l.backdrops (omega arith) none) ∙ l.invariant.1)

pub sum_path-requires : goal.sum_path-requires
sum_path-requires c =
    let a = c.args in
    let l = c.loop-k in
    let at : c.path_at-p.result ≡ path_at a.paths.now l.k = c.path_at-p.ensures in
    let f = (checked a.paths.now (length a.backdrops.now) c.requires.1).fits l.k (omega arith) in
    let fine = sym c.path_fits.ensures ∙ c.if-not-path_fits.false in
    (rw at f.across, rw at f.down, rw at (omega (arith, f.within)), fine)

pub loop-k-preserved : goal.loop-k-preserved
loop-k-preserved c =
    let a = c.args in
    let l = c.loop-k in
    let at : c.path_at-p.result ≡ path_at a.paths.now l.k = c.path_at-p.ensures in
    let f = (checked a.paths.now (length a.backdrops.now) c.requires.1).fits l.k (omega arith) in
    let fine : path_fits (path_at a.paths.now l.k) l.backdrops ≡ true = rw at at
    (sym c.path_fits.ensures ∙ c.if-not-path_fits.false) in
    let after : c.sum_path.new.backdrops ≡ path_sums (path_at a.paths.now l.k) l.backdrops = rw at at c.sum_path.ensures in
    rw after
    (length_path (path_at a.paths.now l.k) l.backdrops ∙ l.invariant.0, sym (paths_turn a.paths.now a.n l.k l.backdrops (omega arith) fine) ∙ l.invariant.1)

pub returns : goal.returns
returns c =
    let a = c.args in
    let l = c.loop-k in
    sym (paths_end a.paths.now a.n l.k l.backdrops (omega arith)) ∙ l.invariant.1
