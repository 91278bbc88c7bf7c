-- `stretches::other_no` meets its contract. Assumes nothing.
use mathlib.Core.Path.{◌≡◌, ap, sym, ◌∙◌}
use borrow.Author.Tests.{le-leb, lt-leb}
use Rattle.panel.specs.Lines.{line_at}
use Rattle.walk.specs.Lent.{reached_of}
use Rattle.panel.specs.declared.lines.LineEnds.{LineEnds}
use Rattle.stretches.proofs.other_no.Goals as goal
use Rattle.stretches.proofs.other_no.Goals.{After-reached}

pub returns-then-line-ge-MOST_LINES : goal.returns-then-line-ge-MOST_LINES
returns-then-line-ge-MOST_LINES c = rw (le-leb _ _ c.if-line-ge-MOST_LINES.true)

-- what the test says of the line lent
test : (c : After-reached) → c.reached.result ≡ reached_of (line_at c.args.coords.now 0).p0
    (line_at c.args.coords.now 0).p1
test c = c.reached.ensures ∙ ap (λ (e : LineEnds). reached_of e.p0 e.p1) c.line_at-ends.ensures

pub returns-then-reached : goal.returns-then-reached
returns-then-reached c = rw (lt-leb _ _ c.if-line-ge-MOST_LINES.false, sym (test (goal.at.returns-then-reached c).After-reached) ∙ c.if-reached.true)

pub returns : goal.returns
returns c = rw (lt-leb _ _ c.if-line-ge-MOST_LINES.false, sym (test (goal.at.returns c).After-reached) ∙ c.if-reached.false)
