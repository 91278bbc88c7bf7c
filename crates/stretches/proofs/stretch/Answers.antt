-- `stretches::stretch` meets its contract. The invariant: the lines so far are of the path, and numbered one after the other.
-- Assumes nothing.
use mathlib.Core.Path.{sym, ap, ◌∙◌}
use Prim.Native.Nat.{ℕ, ◌+◌, ◌-◌}
use native.Mathlib.Nat.{add-zero}
use native.Mathlib.Omega.{arith}
use lib.ListN.{get_or}
use Rattle.stretches.proofs.StretchLaws.{in_order_none, in_order_more}
use Rattle.stretches.proofs.stretch.Goals as goal

pub bounds-line_nos-k : goal.bounds-line_nos-k
bounds-line_nos-k c = omega (arith, c.requires.0, c.requires.1)

pub overflow_cast-first : goal.overflow_cast-first
overflow_cast-first c = omega (arith, c.shared_slice_known-1.given c.args.k)

pub loop-n-init : goal.loop-n-init
loop-n-init c = (omega (arith, c.requires.0), in_order_none c.args.path c.args.line_nos.now c.args.path_nos.now c.args.k, omega (arith, c.shared_slice_known-1.given c.args.k))

pub overflow_add-at : goal.overflow_add-at
overflow_add-at c = omega (arith, c.loop-n.invariant.0, c.well_formed)

pub returns-then-at-path_nos : goal.returns-then-at-path_nos
returns-then-at-path_nos c =
    let i = c.loop-n.invariant in
    record { lent = i.0; order = i.1; fits = i.2; other = λ z e. omega (arith, z, c.if-at-path_nos.true, c.requires.0) }

pub bounds-path_nos-at : goal.bounds-path_nos-at
bounds-path_nos-at c = omega (arith, c.if-at-path_nos.false)

pub returns-then-path_nos-at : goal.returns-then-path_nos-at
returns-then-path_nos-at c =
    let a = c.args in
    let i = c.loop-n.invariant in
    record {
      lent = i.0;
      order = i.1;
      fits = i.2;
      other = λ z e. c.if-path_nos-at.true (ap (λ (m : ℕ). get_or a.path_nos.now (a.k + m) 0) z ∙ ap (λ (m : ℕ). get_or a.path_nos.now m 0) (add-zero a.k) ∙ e);
    }

pub bounds-line_nos-at : goal.bounds-line_nos-at
bounds-line_nos-at c = omega (arith, c.if-at-path_nos.false, c.requires.1)

pub overflow_cast-line_nos : goal.overflow_cast-line_nos
overflow_cast-line_nos c = omega (arith, c.shared_slice_known-in-loop-n-2-1.given (c.args.k + c.loop-n.n))

pub returns-then-line_nos-at : goal.returns-then-line_nos-at
returns-then-line_nos-at c =
    let a = c.args in
    let i = c.loop-n.invariant in
    record {
      lent = i.0;
      order = i.1;
      fits = i.2;
      other = λ z e. c.if-line_nos-at.true (ap (λ (m : ℕ). get_or a.line_nos.now (a.k + m) 0) z ∙ ap (λ (m : ℕ). get_or a.line_nos.now m 0) (add-zero a.k)
          ∙ sym (ap (λ (m : ℕ). get_or a.line_nos.now a.k 0 + m) z ∙ add-zero (get_or a.line_nos.now a.k 0)));
    }

pub loop-n-smaller : goal.loop-n-smaller
loop-n-smaller c = omega (arith, c.loop-n-test.true)

pub loop-n-preserved : goal.loop-n-preserved
loop-n-preserved c =
    let a = c.args in
    let i = c.loop-n.invariant in (
      omega (arith, c.if-at-path_nos.false),
      in_order_more a.path a.line_nos.now a.path_nos.now a.k c.loop-n.n i.1 c.if-path_nos-at.false c.if-line_nos-at.false,
      omega (arith, c.if-line_nos-at.false, c.shared_slice_known-in-loop-n-2-1.given (a.k + c.loop-n.n)),
    )

pub returns : goal.returns
returns c =
    let i = c.loop-n.invariant in
    record { lent = i.0; order = i.1; fits = i.2; other = λ z e. omega (arith, z, c.loop-n-test.false) }
