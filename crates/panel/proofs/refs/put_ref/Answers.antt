-- `panel::refs::put_ref` meets its contract: two stores. Assumes nothing.
use native.Mathlib.Omega.{arith}
use lib.ListN.{length-set}
use Rattle.panel.proofs.refs.put_ref.Goals as goal

pub bounds-refs-at-2 : goal.bounds-refs-at-2
bounds-refs-at-2 c = simp length-set (omega arith)
