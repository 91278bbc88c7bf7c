use mathlib.Core.Path.{◌≡◌}
use lib.ListN.{drop}
use Rattle.hexlist.specs.Rows.{word_of, same_row}
use Rattle.hexlist.proofs.rows.same.Given as goal

abbrev pub invariant-loop-i : goal.invariant-loop-i
invariant-loop-i g l = same_row g.T.Element.is_value (word_of l.words l.base l.code) l.i (drop l.i l.found) ≡ same_row g.T.Element.is_value (word_of l.words l.base l.code) 0 l.found
