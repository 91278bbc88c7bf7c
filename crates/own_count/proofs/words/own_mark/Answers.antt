-- `own_count::words::own_mark` meets its contract.
-- Assumes nothing.
use Prim.Native.Nat.{◌+◌}
use native.Mathlib.Omega.{arith}
use mathlib.Core.Path.{refl}
use lib.ListN.{get_or}
use Rattle.own_count.proofs.Ran.{up_goes, up_stops, down_goes, down_stops}
use Rattle.own_count.proofs.words.own_mark.Goals as goal

pub returns-then-w : goal.returns-then-w
returns-then-w c = up_stops c.args.up c.args.n c.args.t c.args.work.now c.requires.0 c.requires.1 (get_or c.args.work.now (c.args.n + c.args.t) 0) refl (omega (arith, c.slice_known-1.given (c.args.n + c.args.t))) c.if-up.true c.if-w.true

pub overflow_add-work : goal.overflow_add-work
overflow_add-work c = omega (arith, c.if-w.false, c.slice_known-1.given (c.args.n + c.args.t))

pub returns-then-up : goal.returns-then-up
returns-then-up c = up_goes c.args.up c.args.n c.args.t c.args.work.now
    c.requires.0 c.requires.1 (get_or c.args.work.now (c.args.n + c.args.t) 0) refl (omega (arith, c.slice_known-1.given (c.args.n + c.args.t))) c.if-up.true c.if-w.false

pub returns-then-w-eq0 : goal.returns-then-w-eq0
returns-then-w-eq0 c = down_stops c.args.up c.args.n c.args.t c.args.work.now c.requires.0 c.requires.1 (get_or c.args.work.now (c.args.n + c.args.t) 0) refl (omega (arith, c.slice_known-1.given (c.args.n + c.args.t))) c.if-up.false c.if-w-eq0.true

pub returns : goal.returns
returns c = down_goes c.args.up c.args.n c.args.t c.args.work.now
    c.requires.0 c.requires.1 (get_or c.args.work.now (c.args.n + c.args.t) 0) refl (omega (arith, c.slice_known-1.given (c.args.n + c.args.t))) c.if-up.false c.if-w-eq0.false
