-- `panel::segments::put` meets its contract: five stores. Assumes nothing.
use Prim.Native.Nat.{◌*◌}
use native.Mathlib.Omega.{arith}
use lib.ListN.{length-set}
use Rattle.panel.specs.Widths.{segment_floats}
use Rattle.panel.proofs.SegmentLaws.{five_stores}
use Rattle.panel.proofs.segments.put.Goals as goal

pub bounds-segments-at-2 : goal.bounds-segments-at-2
bounds-segments-at-2 c = simp length-set (omega arith)

pub bounds-segments-at-3 : goal.bounds-segments-at-3
bounds-segments-at-3 c = simp length-set (omega arith)

pub bounds-segments-at-4 : goal.bounds-segments-at-4
bounds-segments-at-4 c = simp length-set (omega arith)

pub bounds-segments-at-5 : goal.bounds-segments-at-5
bounds-segments-at-5 c = simp length-set (omega arith)

pub returns : goal.returns
returns c =
    let s = c.args.s in
    five_stores c.args.segments.now (c.args.slot.0 * segment_floats) s.p0.x s.p0.y s.p1.x s.p1.y s.y_edge
