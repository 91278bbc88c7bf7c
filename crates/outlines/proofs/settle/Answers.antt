-- `outlines::settle` meets its contract. The loop's invariant: no outline stands open after a line passed. Assumes nothing.
use native.Mathlib.Omega.{arith}
use mathlib.Core.Path.{◌≡◌, refl, sym, ◌∙◌}
use Prim.Native.Nat.{◌<◌}
use lib.ListN.{length}
use Rattle.outlines.specs.Outlines.{left_open}
use Rattle.outlines.proofs.Opens.{open_first, below_next}
use Rattle.outlines.proofs.Steps.{ends_asks, settle_found, settle_past, settle_end}
use Rattle.outlines.proofs.settle.Goals as goal

pub ends_open-requires : goal.ends_open-requires
ends_open-requires c =
    let l = c.loop-l in
    let h : l.l < length c.args.path_nos.now = omega (arith, c.requires.2.most) in
    ends_asks c.args.path_nos.now c.args.coords.now c.args.work.now c.args.work.now c.requires.0 refl c.requires.1 l.l h

pub returns-then-ends_open : goal.returns-then-ends_open
returns-then-ends_open c =
    let l = c.loop-l in
    let h : l.l < length c.args.path_nos.now = omega (arith, c.requires.2.most) in
    let found = sym c.ends_open.ensures ∙ c.if-ends_open.true in
    let is = settle_found c.args.path_nos.now c.args.coords.now c.args.work.now c.args.work.now c.requires.0 refl c.requires.1 l.l h found in
    open_first c.args.path_nos.now c.args.coords.now l.l (omega arith) (λ g. is) l.invariant

pub loop-l-preserved : goal.loop-l-preserved
loop-l-preserved c =
    let l = c.loop-l in
    let nos = c.args.path_nos.now in
    let fs = c.args.coords.now in
    let h : l.l < length nos = omega (arith, c.requires.2.most) in
    let not_so = sym c.ends_open.ensures ∙ c.if-ends_open.false in
    let is = settle_past nos fs c.args.work.now c.args.work.now c.requires.0 refl c.requires.1 l.l h (length nos) c.args.best c.requires.2 (omega arith) not_so in
    below_next (left_open nos fs) l.l l.invariant is

pub returns : goal.returns
returns c =
    let l = c.loop-l in
    let all : l.l ≡ c.args.best = omega arith in
    settle_end c.args.path_nos.now c.args.coords.now c.args.best c.requires.2 (λ k h. l.invariant k (omega arith))
