-- `one_row::smaller` meets its contract: of two the first comparisons tell, where they aren't equal. Assumes nothing.
use mathlib.Core.Path.{sym}
use Rattle.float32.proofs.MinMax.{min_first, min_second}
use Rattle.one_row.proofs.smaller.Goals as goal

pub returns-then-a-b : goal.returns-then-a-b
returns-then-a-b c = sym (min_first c.args.a c.args.b c.if-a-b.true)

pub returns-then-b-a : goal.returns-then-b-a
returns-then-b-a c = sym (min_second c.args.a c.args.b c.if-b-a.true)

pub returns : goal.returns
returns c = c.min.ensures
