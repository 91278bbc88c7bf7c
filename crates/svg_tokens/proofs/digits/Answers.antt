use mathlib.Core.Path.{◌≡◌, refl}
use Prim.Native.Nat.{◌+◌, ◌-◌}
use native.Mathlib.Omega.{arith}
use Rattle.svg_tokens.proofs.Turn.{low, room, small, start, done, no_digit, one_digit}
use Rattle.svg_tokens.proofs.digits.Goals as goal

pub loop-taken-init : goal.loop-taken-init
loop-taken-init c = let z : c.args.limit - 0 ≡ c.args.limit = omega arith in rw z (start _ c.requires, refl)

pub returns-then-not-digit : goal.returns-then-not-digit
returns-then-not-digit c = no_digit _ _ _ _ c.args.s.now _ _ (omega arith) c.digit.ensures c.if-not-digit.true c.loop-taken.invariant.1

pub overflow_mul-n : goal.overflow_mul-n
overflow_mul-n c = let h = small _ _ c.loop-taken.invariant.0 in omega (arith, h)

pub overflow_sub-c : goal.overflow_sub-c
overflow_sub-c c = (low _ _ c.digit.ensures c.if-not-digit.false).0

pub overflow_add-n : goal.overflow_add-n
overflow_add-n c =
    let g = small _ _ c.loop-taken.invariant.0 in
    let h = low _ _ c.digit.ensures c.if-not-digit.false in
    omega (arith, g, h.0, h.1)

pub loop-taken-preserved : goal.loop-taken-preserved
loop-taken-preserved c =
    let l = c.loop-taken in
    let h = low _ _ c.digit.ensures c.if-not-digit.false in
    let z : c.args.limit - (l.taken + 1) ≡ c.args.limit - l.taken - 1 = omega arith in
    let e = c.from.ensures in
    rw z (
      room l.n _ c.from.result (omega arith) (omega (arith, h.0, h.1, e)) l.invariant.0,
      one_digit l.n l.taken _ _ c.args.s.now _ _ (omega arith) (omega arith) c.digit.ensures c.if-not-digit.false e l.invariant.1,
    )

pub returns : goal.returns
returns c = done _ c.loop-taken.taken _ _ c.args.s.now _ (omega arith) (λ h. omega arith) c.loop-taken.invariant.1
