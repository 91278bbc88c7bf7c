-- `panel::paths::put_path` meets its contract, store by store. Assumes nothing.
use Prim.Native.Nat.{◌*◌}
use native.Mathlib.Omega.{arith}
use lib.ListN.{length-set}
use Rattle.panel.specs.Widths.{path_words}
use Rattle.panel.proofs.RecordLaws.{path_stores}
use Rattle.panel.proofs.paths.put_path.Goals as goal

pub bounds-paths-at-2 : goal.bounds-paths-at-2
bounds-paths-at-2 c = simp length-set (omega arith)

pub bounds-paths-at-3 : goal.bounds-paths-at-3
bounds-paths-at-3 c = simp length-set (omega arith)

pub bounds-paths-at-4 : goal.bounds-paths-at-4
bounds-paths-at-4 c = simp length-set (omega arith)

pub bounds-paths-at-5 : goal.bounds-paths-at-5
bounds-paths-at-5 c = simp length-set (omega arith)

pub bounds-paths-at-6 : goal.bounds-paths-at-6
bounds-paths-at-6 c = simp length-set (omega arith)

pub returns : goal.returns
returns c = path_stores c.args.paths.now (c.args.k * path_words) c.args.p c.args.beam
