-- `few_steps::keep` meets its contract: three stores.
-- Assumes nothing.
use native.Mathlib.Omega.{arith}
use lib.ListN.{length-set}
use Rattle.few_steps.proofs.keep.Goals as goal

pub bounds-notes-k-2 : goal.bounds-notes-k-2
bounds-notes-k-2 c = simp length-set (omega arith)

pub bounds-notes-k-3 : goal.bounds-notes-k-3
bounds-notes-k-3 c = simp length-set (omega arith)
