-- `end_tiles::check_line` meets its contract: a return for each check.
-- Assumes nothing.
use mathlib.Core.Path.{sym, ap₂, ◌∙◌}
use mathlib.Core.Bool.{Bool, ◌&&◌}
use Rattle.end_tiles.proofs.LineLaws.{line_five, line_six, line_seven, line_three, line_done}
use Rattle.end_tiles.proofs.check_line.Goals as goal

pub returns-then-l-ge-MOST_LINES : goal.returns-then-l-ge-MOST_LINES
returns-then-l-ge-MOST_LINES c = rw c.at.ensures (sym (line_five _ c.args.path c.args.n c.args.l c.if-l-ge-MOST_LINES.true))

pub returns-then-not-reached : goal.returns-then-not-reached
returns-then-not-reached c =
    rw c.at-then-not-reached.ensures
    (sym (line_six _ c.args.path c.args.n c.args.l c.if-l-ge-MOST_LINES.false (sym c.reached.ensures ∙ c.if-not-reached.true)))

pub returns-then-path-n : goal.returns-then-path-n
returns-then-path-n c =
    rw c.at-then-path-n.ensures
    (sym (line_seven _ c.args.path c.args.n c.args.l c.if-l-ge-MOST_LINES.false (sym c.reached.ensures ∙ c.if-not-reached.false) c.if-path-n.true))

pub returns-then-not-held : goal.returns-then-not-held
returns-then-not-held c =
    rw c.at-then-not-held.ensures
    (sym (line_three _ c.args.path c.args.n c.args.l c.if-l-ge-MOST_LINES.false (sym c.reached.ensures ∙ c.if-not-reached.false) c.if-path-n.false
    (ap₂ (λ (a b : Bool). a && b) (sym c.in_tiles.ensures) (sym c.in_tiles-2.ensures) ∙ c.if-not-held.true)))

pub returns : goal.returns
returns c =
    sym (line_done _ c.args.path c.args.n c.args.l c.if-l-ge-MOST_LINES.false (sym c.reached.ensures ∙ c.if-not-reached.false) c.if-path-n.false
    (ap₂ (λ (a b : Bool). a && b) (sym c.in_tiles.ensures) (sym c.in_tiles-2.ensures) ∙ c.if-not-held.false))
