-- `walk_steps::writes::write_step` meets its contract. That the step's run goes through says that it is on a tile, that the tile's count is below the limit, and that its mark stays within i32.
-- Assumes nothing.
use mathlib.Core.Path.{◌≡◌, refl, sym, ◌∙◌}
use native.Mathlib.Omega.{arith}
use Rattle.walk.specs.Step.{step_of}
use Rattle.walk.specs.Stepped.{Tile}
use Rattle.acts.specs.Acts.{on}
use Rattle.acts.proofs.Laws.{write_off, write_count, write_bump, write_hit}
use Rattle.hits.specs.Steps.{hit_at}
use Rattle.walk.proofs.Tiles.{step_told, tile_in_lem}
use Rattle.hits.proofs.StepLaws.{hit_off, hit_on, next_below}
use Rattle.walk_steps.proofs.writes.write_step.Goals as goal
use Rattle.walk_steps.proofs.writes.write_step.Goals.{After-crosses-marks, In-Some}

pub returns-in_default : goal.returns-in_default
returns-in_default c =
    let the_args = c.args in
    absurd (write_off _ _ _ _ _ _ _ _ c.requires.5
    (hit_off the_args.pace the_args.path the_args.i (sym c.step_at.ensures ∙ c.in_default.is)))

-- the step is on its tile
fell : (c : In-Some) →
    let the_args = c.args in
    step_of the_args.pace the_args.path the_args.i ≡ Tile c.in-Some.tile c.in-Some.x c.in-Some.field-0-2 c.in-Some.z
fell c = sym c.step_at.ensures ∙ c.in-Some.is

pub visit-requires : goal.visit-requires
visit-requires c =
    let the_args = c.args in
    let the_pre = c.requires in (
      omega (arith, (tile_in_lem the_args.pace the_args.path the_args.i _ _ _ _ (fell (goal.at.visit-requires c).In-Some)).1, the_pre.0.within),
      the_pre.3,
      write_count _ _ _ _ _ _ _ _ the_pre.5 _ _ (hit_on the_args.pace the_args.path the_args.i _ _ _ _ (fell (goal.at.visit-requires c).In-Some) the_args.last_z _ the_pre.2 refl),
      the_pre.1,
      the_pre.4,
    )

pub crosses-marks-requires : goal.crosses-marks-requires
crosses-marks-requires c =
    let the_args = c.args in
    (step_told the_args.pace the_args.path the_args.i _ _ _ _ (fell ((goal.at.crosses-marks-requires c).In-Some))).within.col_most

-- where the step falls, and whether it marks
hit : (c : After-crosses-marks) →
    let the_args = c.args in
    hit_at the_args.pace the_args.path the_args.i ≡ on c.in-Some.tile.0 c.crosses-marks.result
hit c =
    let the_args = c.args in
    let the_pre = c.requires in
    hit_on the_args.pace the_args.path the_args.i _ _ _ _ (sym c.step_at.ensures ∙ c.in-Some.is) the_args.last_z c.crosses-marks.result the_pre.2 c.crosses-marks.ensures

pub mark_if-requires : goal.mark_if-requires
mark_if-requires c =
    let the_args = c.args in
    let the_pre = c.requires in (
      omega (
        arith,
        next_below the_args.pace the_args.path the_args.i _ _ _ _ (fell ((goal.at.mark_if-requires c).In-Some)) the_args.last_z c.crosses-marks.result c.crosses-marks.ensures,
        the_pre.0.within,
        the_pre.0.paired,
      ),
      write_bump _ _ _ _ _ _ _ _ the_pre.5 _ _ (hit (goal.at.mark_if-requires c).After-crosses-marks),
    )

pub returns : goal.returns
returns c =
    let the_pre = c.requires in
    let the_args = c.args in
    let the_visit = c.visit in (
      write_hit _ _ _ _ _ _ _ _ the_pre.5 _ _ (hit (goal.at.returns c).After-crosses-marks) _ _ _ the_visit.ensures.0 the_visit.ensures.1 c.mark_if.ensures,
      sym (step_told the_args.pace the_args.path the_args.i _ _ _ _ (fell ((goal.at.returns c).In-Some))).is_z,
    )
