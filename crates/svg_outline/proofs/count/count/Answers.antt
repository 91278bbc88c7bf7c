use Rattle.svg_outline.specs.declared.steps.Kind.TheVariants.{Move}
use Rattle.svg_outline.proofs.count.count.Goals as goal
-- `svg_outline::count` meets its contract: the lines so far and those to come are all. Assumes nothing.
use native.Mathlib.Omega.{arith}
use lib.ListN.{length}
use Rattle.svg_outline.specs.declared.steps.Kind.TheVariants.{Move}
use Rattle.svg_outline.proofs.Texts.{place_past, from_none, sum_fits, counted, counted_over, end_over, end_in}
use Rattle.svg_outline.proofs.count.count.Goals as goal

pub loop-i-init : goal.loop-i-init
loop-i-init c = from_none c.args.s.now c.args.depth c.args.room _ c.start-g.ensures

pub next-t-requires : goal.next-t-requires
next-t-requires c = c.loop-i.invariant.0

pub many-n-requires : goal.many-n-requires
many-n-requires c = c.requires.0

pub overflow_add-n : goal.overflow_add-n
overflow_add-n c =
    let h = sum_fits c.act.result c.loop-i.g.drawn _ _ _ _ c.requires.0
    c.loop-i.invariant.1 c.requires.1 c.many-n.ensures in omega (arith, h)

pub returns-then-room-n : goal.returns-then-room-n
returns-then-room-n c =
    let a = c.args in
    counted_over a.s.now a.depth a.room _ _ _ _ _ _ c.loop-i.invariant c.next-t.ensures.0
    c.next-t.ensures.1 c.act.ensures c.many-n.ensures c.if-room-n.true

pub loop-i-smaller : goal.loop-i-smaller
loop-i-smaller c =
    let h = place_past c.loop-i.i (length c.args.s.now)
    c.next-t.result c.next-t.ensures.1
    c.loop-i-test.true
    in omega (arith, h.0, h.1, c.place-i.ensures)

pub loop-i-preserved : goal.loop-i-preserved
loop-i-preserved c =
    let a = c.args in
    counted a.s.now a.depth a.room _ _ _ _ _ _ c.loop-i.invariant c.next-t.ensures.0
    c.next-t.ensures.1 c.act.ensures c.many-n.ensures _
    _ c.loop-i-test.true c.if-room-n.false c.pass-g.ensures c.place-i.ensures

pub many-n-requires-2 : goal.many-n-requires-2
many-n-requires-2 c = c.requires.0

pub overflow_add-n-2 : goal.overflow_add-n-2
overflow_add-n-2 c =
    let h = sum_fits Move c.loop-i.g.drawn _ _ _ _ c.requires.0 c.loop-i.invariant.1
    c.requires.1
    c.many-n-2.ensures in omega (arith, h)

pub returns-then-room-n-2 : goal.returns-then-room-n-2
returns-then-room-n-2 c =
    let a = c.args in
    end_over a.s.now a.depth a.room _ _ _ _ c.loop-i-test.false c.loop-i.invariant c.many-n-2.ensures
    c.if-room-n-2.true

pub returns : goal.returns
returns c =
    let a = c.args in
    end_in a.s.now a.depth a.room _ _ _ _ c.loop-i-test.false c.loop-i.invariant c.many-n-2.ensures c.if-room-n-2.false
