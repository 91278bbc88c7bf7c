-- `walk_steps::line::write_line` meets its contract.
-- Assumes nothing.
use mathlib.Core.Path.{◌≡◌, refl, sym, ap, ◌∙◌, subst}
use mathlib.Core.List.{◌++◌}
use Prim.Native.Nat.{ℕ, ◌-◌}
use lib.ListN.{length}
use Rattle.acts.specs.Acts.{is_done, run_acts, st_of, delta_of, steps_acts}
use Rattle.acts.specs.Rows.{rows_acts}
use Rattle.acts.proofs.Laws.{rows_done, rows_out, run_first, run_goes}
use Rattle.hits.specs.Steps.{hit_at}
use Rattle.hits.specs.Notes.{OnTiles, Notes}
use Rattle.walk_steps.specs.Checks.{noted_to}
use Rattle.walk_steps.proofs.line.write_line.Goals as goal
use Rattle.walk_steps.proofs.line.write_line.Goals.{After-write_rows}

pub write_rows-requires : goal.write_rows-requires
write_rows-requires c = (
  c.requires.1,
  sym (rows_done _ c.args.line.0 _ _ _ _ _ _ c.args.counts.now c.args.refs.now c.args.made) ∙ run_first _ _ _ _ refl _ _ c.requires.8,
)

-- what is left after the rows, run from there, is the line run from the start
left : (c : After-write_rows) →
    run_acts (delta_of c.args.up) c.args.line.0
    (steps_acts (hit_at c.args.pace c.args.path) (c.args.imax - c.args.imin) c.args.imin)
    (st_of c.write_rows.new.backs c.args.counts.now c.args.refs.now c.args.made) ≡ run_acts (delta_of c.args.up) c.args.line.0
    (rows_acts c.args.rows ++ steps_acts (hit_at c.args.pace c.args.path) (c.args.imax - c.args.imin) c.args.imin)
    (st_of c.args.backs.now c.args.counts.now c.args.refs.now c.args.made)
left c =
    run_goes _ (rows_acts c.args.rows) _ _ refl _ _ _ _ refl (rows_out _ _ _ _ _ _ _ _ _ _ _ _ c.write_rows.ensures)

pub write_walk-requires : goal.write_walk-requires
write_walk-requires c =
    let k = sym c.write_rows.auto.backs in (
      subst (λ n. OnTiles c.args.path n (length c.args.counts.now)) k c.requires.0,
      c.requires.2,
      c.requires.3,
      c.requires.6,
      c.requires.7,
      ap is_done (left (goal.at.write_walk-requires c).After-write_rows) ∙ c.requires.8,
      c.requires.4,
      subst (λ (n : ℕ). Notes (hit_at c.args.pace c.args.path) c.args.imin (noted_to c.args.imin c.args.imax - c.args.imin) c.args.notes.now n) k c.requires.5,
    )

pub returns : goal.returns
returns c = c.write_walk.ensures ∙ left (goal.at.returns c).After-write_rows
