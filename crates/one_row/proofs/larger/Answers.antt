-- `one_row::larger` meets its contract: of two the first comparisons tell, where they aren't equal. Assumes nothing.
use mathlib.Core.Path.{sym}
use Rattle.float32.proofs.MinMax.{max_second, max_first}
use Rattle.one_row.proofs.larger.Goals as goal

pub returns-then-a-b : goal.returns-then-a-b
returns-then-a-b c = sym (max_second c.args.a c.args.b c.if-a-b.true)

pub returns-then-b-a : goal.returns-then-b-a
returns-then-b-a c = sym (max_first c.args.a c.args.b c.if-b-a.true)

pub returns : goal.returns
returns c = c.max.ensures
