-- `made::made_at` meets its contract. By the test of the line number, and then by what becomes of the line.
-- Assumes nothing.
use mathlib.Core.Path.{◌≡◌, refl, sym, ap, ◌∙◌, subst}
use Rattle.std.proofs.Common.{Option, Ok}
use Rattle.panel.specs.declared.kinds.Path.{Path}
use Rattle.walk.specs.Lent.{walk_at}
use Rattle.walk.specs.Walked.{Line, Skipped, walked_told}
use Rattle.walk.specs.declared.kinds.Walk.{Walk}
use Rattle.made.specs.Made.{WalkFits}
use Rattle.made.proofs.Laws.{walk_fits, made_there, made_none}
use Rattle.made.proofs.made_at.Goals as goal
use Rattle.made.proofs.made_at.Goals.{In_ok-walk}

pub returns-then-line-path_nos : goal.returns-then-line-path_nos
returns-then-line-path_nos c =
    let a = c.args in
    made_none a.path_nos.now a.coords.now a.paths.now a.line a.i c.if-line-path_nos.true

pub returns-in_default : goal.returns-in_default
returns-in_default c =
    let a = c.args in
    made_there a.path_nos.now a.coords.now a.paths.now a.line a.i c.if-line-path_nos.false _ (sym (ap walked_told c.in_default.is) ∙ c.walk_at.ensures) _ refl

pub returns-in_err-walk : goal.returns-in_err-walk
returns-in_err-walk c =
    let a = c.args in
    let e : Skipped ≡ walk_at a.path_nos.now a.coords.now a.paths.now a.line =
    sym (ap (λ (o : Option (Walk × Path)). walked_told (Ok o)) c.in_err-walk.was) ∙ c.in-Ok.ensures in
    rw c.from_residual.ensures (made_there a.path_nos.now a.coords.now a.paths.now a.line a.i c.if-line-path_nos.false _ e _ refl)

-- the line has a walk
line : (c : In_ok-walk) → Line c.in_ok-walk.walk c.in_ok-walk.path ≡ walk_at c.args.path_nos.now c.args.coords.now c.args.paths.now c.args.line
line c = sym (ap (λ (o : Option (Walk × Path)). walked_told (Ok o)) c.in_ok-walk.was) ∙ c.in-Ok.ensures

pub made_on-requires : goal.made_on-requires
made_on-requires c =
    let a = c.args in
    let p = c.requires in
    let f = subst WalkFits (sym (line (goal.at.made_on-requires c).In_ok-walk)) (walk_fits a.path_nos.now a.coords.now a.paths.now a.line p.1.0 p.1.1) in
    (p.2, f.0, f.1)

pub returns : goal.returns
returns c =
    let a = c.args in
    made_there a.path_nos.now a.coords.now a.paths.now a.line a.i c.if-line-path_nos.false _ (line (goal.at.returns c).In_ok-walk) _ c.made_on.ensures
