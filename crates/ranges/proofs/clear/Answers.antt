-- `ranges::clear` meets its contract. The invariant: the first i of the range are done. Assumes nothing.
use mathlib.Core.Path.{refl}
use native.Mathlib.Omega.{arith}
use Rattle.ranges.specs.Ranges.{cleared_of}
use Rattle.ranges.proofs.Turn.{begun_at, turned_at, ended_at}
use Rattle.ranges.proofs.clear.Goals as goal

pub loop-i-init : goal.loop-i-init
loop-i-init g c = begun_at (λ k x. c.args.zero) c.args.zero _ _

pub loop-i-preserved : goal.loop-i-preserved
loop-i-preserved g c =
    let l = c.loop-i in
    turned_at (λ k x. c.args.zero) c.args.zero c.args.a l.i _ l.xs _ l.invariant refl

pub returns : goal.returns
unfolding cleared_of
returns g c =
    let a = c.args in
    ended_at (λ k x. a.zero) a.zero a.a a.n c.loop-i.i _ _ c.loop-i.invariant (omega arith)
