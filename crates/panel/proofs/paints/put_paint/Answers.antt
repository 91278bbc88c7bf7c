-- `panel::paints::put_paint` meets its contract: two stores. Assumes nothing.
use native.Mathlib.Omega.{arith}
use native.Mathlib.Nat.{add-zero}
use native.Mathlib.Numerals.{add-one}
use lib.ListN.{length-set}
use Rattle.panel.proofs.paints.put_paint.Goals as goal

pub bounds-paints-k-2 : goal.bounds-paints-k-2
bounds-paints-k-2 c = simp length-set (omega arith)

pub returns : goal.returns
returns c = simp (add-zero, add-one)
