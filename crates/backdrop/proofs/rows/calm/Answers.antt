-- `backdrop::rows::calm` meets its contract. The loop's invariant: those passed are calm, and those left, exactly where all are.
-- Assumes nothing.
use mathlib.Core.Path.{sym, ◌∙◌}
use mathlib.Core.Bool.{and-true, and_assoc}
use Prim.Native.Nat.{◌-◌, ◌+◌}
use native.Mathlib.Omega.{arith}
use mir.Syntax.{w32}
use mir.Val.{SFits}
use mir.Facts.{to_z-of_z}
use Rattle.backdrop.specs.Backdrop.{backdrop_at}
use Rattle.backdrop.specs.Calm.{calm_one, calm_from}
use Rattle.backdrop.proofs.CalmLaws.{calm_turn, calm_end}
use Rattle.backdrop.proofs.rows.calm.Goals as goal

pub loop-i-preserved : goal.loop-i-preserved
loop-i-preserved c =
    let l = c.loop-i in
    let a = c.args in
    let bs = a.backdrops.now in
    let b = backdrop_at bs l.i in
    let g : SFits w32 b = record { sfits = c.b-1.given } in
    let turn = calm_turn bs a.end l.i (omega arith) in
    rw (to_z-of_z g) (and_assoc l.ok (calm_one b) (calm_from (a.end - (l.i + 1)) (l.i + 1) bs) ∙ rw (← turn) l.invariant)

pub returns : goal.returns
returns c =
    let l = c.loop-i in
    let a = c.args in
    sym (and-true l.ok) ∙ rw (calm_end a.backdrops.now a.end l.i (omega arith)) at l.invariant
