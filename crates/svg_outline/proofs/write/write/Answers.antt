-- `svg_outline::write` meets its contract: the lines to come from here bring what the whole brings. Assumes nothing.
use native.Mathlib.Omega.{arith}
use lib.ListN.{length}
use Rattle.svg_outline.proofs.Texts.{place_past, begins, fits, again, last_fits, ended}
use Rattle.svg_outline.proofs.write.write.Goals as goal

pub loop-i-init : goal.loop-i-init
loop-i-init c =
    let a = c.args in
    begins a.s.now a.depth _ _ _ c.start-g.ensures c.origin-h.ensures c.requires

pub next-t-requires : goal.next-t-requires
next-t-requires c = c.loop-i.invariant.0

pub turn-h-requires : goal.turn-h-requires
turn-h-requires c =
    let a = c.args in
    fits a.s.now a.depth _ _ _ _ _ _ c.loop-i.invariant c.next-t.ensures.0 c.next-t.ensures.1

pub loop-i-smaller : goal.loop-i-smaller
loop-i-smaller c =
    let h = place_past c.loop-i.i (length c.args.s.now)
    c.next-t.result c.next-t.ensures.1
    c.loop-i-test.true
    in omega (arith, h.0, h.1, c.place-i.ensures)

pub loop-i-preserved : goal.loop-i-preserved
loop-i-preserved c =
    let a = c.args in
    again a.s.now a.depth _ _ _ _ _ _ _ _ _ _ c.loop-i-test.true
    c.loop-i.invariant
    c.next-t.ensures.0 c.next-t.ensures.1
    c.turn-h.ensures.0
    c.turn-h.ensures.1 c.pass-g.ensures c.place-i.ensures

pub finish-requires : goal.finish-requires
finish-requires c =
    let a = c.args in
    last_fits a.s.now a.depth _ _ _ _ _ c.loop-i-test.false c.loop-i.invariant

pub returns : goal.returns
returns c =
    let a = c.args in
    ended a.s.now a.depth _ _ _ _ _ _ c.loop-i-test.false c.loop-i.invariant c.finish.ensures
