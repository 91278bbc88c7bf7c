-- `own_count::lines::fill` meets its contract.
-- Assumes nothing.
use mathlib.Core.Path.{◌≡◌, subst}
use Prim.Native.Nat.{ℕ}
use native.Mathlib.Omega.{arith}
use Rattle.own_count.specs.View.{Filled}
use Rattle.own_count.proofs.Shown.{fill_none, fill_more}
use Rattle.own_count.proofs.lines.fill.Goals as goal

pub loop-k-init : goal.loop-k-init
loop-k-init c = fill_none _ _ _

pub offset_bounds-work-a : goal.offset_bounds-work-a
offset_bounds-work-a c = omega (arith, c.loop-k.invariant.same_length, c.requires)

pub bounds-work-a : goal.bounds-work-a
bounds-work-a c = omega (arith, c.loop-k.invariant.same_length, c.requires)

pub loop-k-preserved : goal.loop-k-preserved
loop-k-preserved c = fill_more _ _ _ _ _ (omega (arith, c.loop-k.invariant.same_length, c.requires, c.loop-k-test.true)) c.loop-k.invariant

pub returns : goal.returns
returns c = let e : c.loop-k.k ≡ c.args.n = omega arith in subst (λ (k : ℕ). Filled c.args.a k c.args.v c.args.work.now c.loop-k.work) e c.loop-k.invariant
