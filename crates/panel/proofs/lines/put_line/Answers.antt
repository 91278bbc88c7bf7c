-- `panel::lines::put_line` meets its contract: four stores. Assumes nothing.
use mathlib.Core.Path.{refl}
use native.Mathlib.Omega.{arith}
use native.Mathlib.Numerals.{add-one, add-two, add-three}
use lib.ListN.{length-set}
use Rattle.panel.proofs.lines.put_line.Goals as goal

pub bounds-coords-at-2 : goal.bounds-coords-at-2
bounds-coords-at-2 c = simp length-set (omega arith)

pub bounds-coords-at-3 : goal.bounds-coords-at-3
bounds-coords-at-3 c = simp length-set (omega arith)

pub bounds-coords-at-4 : goal.bounds-coords-at-4
bounds-coords-at-4 c = simp length-set (omega arith)

pub returns : goal.returns
returns c = (refl, simp (add-one, add-two, add-three))
