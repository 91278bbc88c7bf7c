-- `coverage::ground::all_straight` meets its contract. The invariant: the first j segments are straight. Assumes nothing.
use mathlib.Core.Path.{sym, ap, ◌∙◌}
use native.Mathlib.Omega.{arith}
use Rattle.panel.specs.Segments.{straight_of}
use Rattle.coverage.specs.Ground.{straight_from}
use Rattle.coverage.proofs.Crooked.{none_straight, one_more, crooked_at}
use Rattle.coverage.proofs.ground.all_straight.Goals as goal

pub loop-j-init : goal.loop-j-init
loop-j-init c = none_straight _ _

pub returns-then-not-ok : goal.returns-then-not-ok
returns-then-not-ok c =
    let l = c.loop-j in
    let a = c.args in
    let crooked = sym (ap straight_of c.segment_at.ensures) ∙ sym c.straight-ok.ensures ∙ c.if-not-ok.true in
    sym (crooked_at a.segments.now a.first a.n l.j c.loop-j-test.true crooked)

pub loop-j-preserved : goal.loop-j-preserved
loop-j-preserved c =
    let l = c.loop-j in
    let a = c.args in
    one_more a.segments.now a.first l.j _ _ c.segment_at.ensures c.straight-ok.ensures c.if-not-ok.false l.invariant

pub returns : goal.returns
returns c =
    let l = c.loop-j in
    let a = c.args in
    sym l.invariant ∙ ap (straight_from a.segments.now a.first) (omega arith)
