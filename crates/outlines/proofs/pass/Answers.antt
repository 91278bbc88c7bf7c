-- `outlines::pass` meets its contract. The loop's invariant: the room and the least line are those after the lines passed. Assumes nothing.
use native.Mathlib.Omega.{arith}
use mathlib.Core.Path.{refl, ap, ◌∙◌}
use Prim.Native.Nat.{◌<◌}
use lib.ListN.{length}
use Rattle.outlines.proofs.Turns.{noted_none, noted_turn, turned_length, turn_last, turn_head}
use Rattle.outlines.proofs.Least.{least_none, least_turn}
use Rattle.outlines.proofs.Steps.{has_words, turn_asks}
use Rattle.outlines.proofs.pass.Goals as goal

pub loop-i-init : goal.loop-i-init
loop-i-init c =
    let a = c.args in
    let nos = a.path_nos.now in
    (refl, noted_none nos a.coords.now a.work.now c.requires.1, least_none nos a.coords.now (length nos))

pub turn-best-requires : goal.turn-best-requires
turn-best-requires c =
    let l = c.loop-i in
    turn_asks c.args.path_nos.now c.args.coords.now c.args.work.now l.work c.requires.0 l.invariant.0 l.i l.invariant.1 (omega arith)

pub loop-i-preserved : goal.loop-i-preserved
loop-i-preserved c =
    let nos = c.args.path_nos.now in
    let fs = c.args.coords.now in
    let l = c.loop-i in
    let t = c.turn-best in
    let h : l.i < length nos = omega arith in
    let w = has_words nos fs c.args.work.now l.work c.requires.0 l.invariant.0 l.i h in
    let k = l.invariant.1 in (
      ap length t.ensures.0 ∙ turned_length nos fs l.i l.work k w ∙ l.invariant.0,
      rw t.ensures.0 (noted_turn nos fs l.i l.work k w),
      rw t.ensures.1 (least_turn nos fs l.i (length nos) l.best _ _ l.invariant.2 (turn_last nos fs l.i l.work k w) (turn_head nos fs l.i l.work k w)),
    )
