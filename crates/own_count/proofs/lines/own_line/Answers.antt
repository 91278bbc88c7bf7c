-- `own_count::lines::own_line` meets its contract.
-- Assumes nothing.
use mathlib.Core.Path.{◌≡◌, refl, sym, ap, ◌∙◌}
use Rattle.std.proofs.Common.{Option, Ok}
use Rattle.std.proofs.lemmas.Result.{err_from_is_err_and}
use Rattle.panel.specs.Limits.{most_slots}
use Rattle.panel.specs.declared.kinds.Path.{Path}
use Rattle.walk.specs.Lent.{walk_at}
use Rattle.walk.specs.Walked.{Line, Skipped, walked_told}
use Rattle.walk.specs.declared.kinds.Walk.{Walk}
use Rattle.walked_lines.specs.Tallied.{tallied_told}
use Rattle.walked_lines.proofs.Lines.{on_tiles, walkable, line_walked}
use Rattle.own_count.proofs.Shown.{kept_refl}
use Rattle.own_count.proofs.LineLaws.{step_as, skipped_as}
use Rattle.own_count.proofs.lines.own_line.Goals as goal
use Rattle.own_count.proofs.lines.own_line.Goals.{In-Some}

pub returns-in_err-found : goal.returns-in_err-found
returns-in_err-found c =
    let a = c.args in
    let p = err_from_is_err_and c.from_residual.result c.from_residual.ensures.1 in
    rw (p.1, p.2) (
      line_walked a.path_nos.now a.coords.now a.paths.now most_slots a.line a.line _ _ c.requires.4 (sym c.in_err-found.ensures),
      kept_refl _ _,
    )

pub returns-in_default : goal.returns-in_default
returns-in_default c =
    let a = c.args in
    let e : walked_told (Ok c.in_ok-found.found) ≡ Skipped = ap (λ (o : Option (Walk × Path)). walked_told (Ok o)) c.in_default.is in (
      line_walked a.path_nos.now a.coords.now a.paths.now most_slots a.line a.line _ _ c.requires.4 (sym c.in_ok-found.ensures ∙ e)
          ∙ skipped_as a.n a.work.now a.made,
      kept_refl _ _,
    )

-- the line has a walk
walked : (c : In-Some) → walk_at c.args.path_nos.now c.args.coords.now c.args.paths.now c.args.line ≡ Line c.in-Some.walk c.in-Some.path
walked c = sym c.in_ok-found.ensures ∙ ap (λ (o : Option (Walk × Path)). walked_told (Ok o)) c.in-Some.is

pub own_walk-requires : goal.own_walk-requires
own_walk-requires c =
    let a = c.args in
    let w = walked (goal.at.own_walk-requires c).In-Some in (
      on_tiles a.path_nos.now a.coords.now a.paths.now a.line _ _ w _ _ (record { paired = refl; passed = c.requires.0 }),
      c.requires.1,
      walkable a.path_nos.now a.coords.now a.paths.now a.line _ _ w a.n a.n (record { paired = refl; passed = c.requires.0 }),
    )

pub returns : goal.returns
returns c =
    let a = c.args in (
      step_as a.n c.own_walk.new.work a.made _ _ (tallied_told c.own_walk.result)
          (line_walked a.path_nos.now a.coords.now a.paths.now most_slots a.line a.line _ _ c.requires.4 (walked (goal.at.returns c).In-Some))
          (c.own_walk.ensures.0 a.line),
      c.own_walk.ensures.1,
    )
