-- `own_count::steps::own_acts` meets its contract.
-- Assumes nothing.
use mathlib.Core.Path.{refl, sym, ap, subst}
use Prim.Native.Nat.{◌-◌}
use native.Mathlib.Nat.{zero-add}
use native.Mathlib.Omega.{arith}
use Rattle.std.proofs.lemmas.Result.{err_from_is_err_and}
use Rattle.panel.specs.Verdict.{verdict_told}
use Rattle.acts.specs.Acts.{steps_acts, delta_of}
use Rattle.acts.specs.Rows.{rows_acts, RowsIn}
use Rattle.acts.specs.declared.rows.Rows.{Rows}
use Rattle.hits.specs.Steps.{hit_at}
use Rattle.walked_lines.specs.Line.{rows_by}
use Rattle.walked_lines.proofs.Lines.{rows_in}
use Rattle.own_count.specs.View.{Acted}
use Rattle.own_count.proofs.Ran.{turn_goes, turn_stops}
use Rattle.own_count.proofs.steps.own_acts.Goals as goal
use Rattle.own_count.proofs.steps.own_acts.Goals.{After-own_rows}

pub rows_by-requires : goal.rows_by-requires
rows_by-requires c = omega (arith, c.requires.2.wide)

pub own_rows-requires : goal.own_rows-requires
own_rows-requires c = (
  subst (λ (r : Rows). RowsIn r c.args.n) (sym c.rows_by.ensures) (rows_in c.args.path c.args.clip _ _ c.requires.0 c.requires.2),
  c.requires.1,
)

-- the rows that are marked are the line's
marked : (c : After-own_rows) →
    Acted (delta_of c.args.up) (rows_acts (rows_by c.args.path c.args.clip)) c.args.n c.args.work.now c.own_rows.new.work 0 (verdict_told c.own_rows.result)
marked c =
    subst (λ (r : Rows). Acted (delta_of c.args.up) (rows_acts r) c.args.n c.args.work.now c.own_rows.new.work 0 (verdict_told c.own_rows.result))
    c.rows_by.ensures c.own_rows.ensures

pub returns-in_err-own_rows : goal.returns-in_err-own_rows
returns-in_err-own_rows c =
    let p = err_from_is_err_and c.from_residual.result c.from_residual.ensures.1 in
    rw (p.1, p.2)
    (turn_stops (delta_of c.args.up) (rows_acts (rows_by c.args.path c.args.clip))
    (steps_acts (hit_at c.args.pace c.args.path) (c.args.clip.imax - c.args.clip.imin) c.args.clip.imin) _ _ _ _ 0 _ refl
    (marked (goal.at.returns-in_err-own_rows c).After-own_rows) _ (ap verdict_told c.in_err-own_rows.was) _)

pub own_steps-requires : goal.own_steps-requires
own_steps-requires c = (
  c.requires.0,
  omega (arith, c.own_rows.ensures.above.same_length, c.requires.1),
  c.requires.2.onward,
  c.requires.2.last,
)

pub returns : goal.returns
returns c =
    turn_goes (delta_of c.args.up) (rows_acts (rows_by c.args.path c.args.clip))
    (steps_acts (hit_at c.args.pace c.args.path) (c.args.clip.imax - c.args.clip.imin) c.args.clip.imin) _ _ _ _ 0 _ refl
    (marked (goal.at.returns c).After-own_rows) (ap verdict_told c.in_ok-own_rows.was) _ _ _ _ (zero-add _) c.own_steps.ensures
