use mathlib.Core.Path.{◌≡◌}
use Rattle.lists.specs.Grid.{mapi, within}
use Rattle.hexlist.specs.Rows.{element_as}
use Rattle.hexlist.proofs.rows.put.Given as goal

abbrev pub invariant-loop-i : goal.invariant-loop-i
invariant-loop-i g l = l.out ≡ mapi (within 0 l.i (element_as g.T.Element.value_of l.words l.base l.code)) l.initial.out
