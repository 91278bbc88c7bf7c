-- `made::made_on` meets its contract. By its tests: below the first step, past the last, or between.
-- Assumes nothing.
use mathlib.Core.Path.{refl}
use Rattle.made.proofs.Laws.{made_low, made_high, made_in}
use Rattle.made.proofs.made_on.Goals as goal

pub returns-then-i-imin : goal.returns-then-i-imin
returns-then-i-imin c =
    let a = c.args in
    let k = c.clip_to-clip in
    made_low a.walk a.path k.result k.ensures a.i c.if-i-imin.true

pub returns-then-imax-i : goal.returns-then-imax-i
returns-then-imax-i c =
    let a = c.args in
    let k = c.clip_to-clip in
    made_high a.walk a.path k.result k.ensures a.i c.if-i-imin.false c.if-imax-i.true

pub returns-in-Some : goal.returns-in-Some
returns-in-Some c =
    let a = c.args in
    let k = c.clip_to-clip in
    made_in a.walk a.path k.result k.ensures a.i c.if-i-imin.false c.if-imax-i.false _ c.in-Some.ensures _ refl

pub returns-in-None : goal.returns-in-None
returns-in-None c =
    let a = c.args in
    let k = c.clip_to-clip in
    made_in a.walk a.path k.result k.ensures a.i c.if-i-imin.false c.if-imax-i.false _ c.in-None.ensures _ refl
