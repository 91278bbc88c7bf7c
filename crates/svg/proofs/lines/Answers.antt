-- `svg::lines` meets its contract: at each answer the tests that led there say which case of `lines_of` holds. Assumes nothing.
use Rattle.svg.proofs.Answers.{paired_is, too_deep_lem, not_paired, outside, inside}
use Rattle.svg.proofs.lines.Goals as goal

pub returns-then-depth-gt-DEPTH_MOST : goal.returns-then-depth-gt-DEPTH_MOST
returns-then-depth-gt-DEPTH_MOST c =
    let a = c.args in
    rw c.into.ensures (too_deep_lem a.text.now a.depth a.path a.paths.now a.coords.now c.if-depth-gt-DEPTH_MOST.true)

pub returns-then-not-paired : goal.returns-then-not-paired
returns-then-not-paired c =
    let a = c.args in
    rw c.into-then-not-paired.ensures
    (not_paired a.text.now a.depth a.path a.paths.now a.coords.now c.if-depth-gt-DEPTH_MOST.false c.paired.result c.paired.ensures
    c.if-not-paired.true)

pub drawn-requires : goal.drawn-requires
drawn-requires c = (
  c.if-depth-gt-DEPTH_MOST.false,
  paired_is _ _ _ c.paired.ensures
      c.if-not-paired.false,
)

pub returns-in-Err : goal.returns-in-Err
returns-in-Err c =
    let a = c.args in
    outside a.text.now a.depth a.path a.paths.now a.coords.now c.if-depth-gt-DEPTH_MOST.false
    c.paired.result
    c.paired.ensures c.if-not-paired.false c.check.result
    c.check.ensures _ c.in-Err.is

pub returns : goal.returns
returns c =
    let a = c.args in
    inside a.text.now a.depth a.path a.paths.now a.coords.now
    c.if-depth-gt-DEPTH_MOST.false
    c.paired.result
    c.paired.ensures
    c.if-not-paired.false
    c.check.result
    c.check.ensures _ c.in_default.is
    c.drawn.ensures
