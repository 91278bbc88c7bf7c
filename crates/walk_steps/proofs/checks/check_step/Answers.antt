-- `walk_steps::checks::check_step` meets its contract.
-- Assumes nothing.
use mathlib.Core.Bool.{not, cond}
use mathlib.Core.Path.{◌≡◌, refl, sym, ap, ◌∙◌}
use native.Mathlib.Omega.{arith}
use Prim.Native.Nat.{ℕ, ◌+◌, ◌<◌}
use lib.ListN.{length, get_or}
use lib.IntN.{pos, ◌+ℤ◌}
use Rattle.panel.specs.Verdict.{Verdict}
use Rattle.walk.specs.Step.{step_of}
use Rattle.walk.specs.Stepped.{Tile}
use Rattle.panel.specs.Signed.{in_i32}
use Rattle.acts.specs.Acts.{on, delta_of}
use Rattle.acts.proofs.Signs.{told}
use Rattle.acts.proofs.Laws.{check_off, check_full, check_marked, check_passes}
use Rattle.hits.specs.Steps.{hit_at}
use Rattle.walk_steps.specs.Checks.{z_of, seen_of}
use Rattle.walk_steps.specs.Seen.{Passed}
use Rattle.walk.proofs.Tiles.{step_told, tile_in_lem}
use Rattle.hits.proofs.StepLaws.{hit_off, hit_on, next_below}
use Rattle.walk_steps.proofs.checks.check_step.Goals as goal
use Rattle.walk_steps.proofs.checks.check_step.Goals.{After-crosses-marks, After-leaves, After-next_if-q, In-Some}

pub returns-in_default : goal.returns-in_default
returns-in_default c =
    let the_args = c.args in
    ap (λ (v : Verdict). seen_of v (z_of the_args.pace the_args.i))
    (check_off _ _ _ _ _ (hit_off the_args.pace the_args.path the_args.i (sym c.step_at.ensures ∙ c.in_default.is)))

-- the step is on its tile
fell : (c : In-Some) →
    let the_args = c.args in
    step_of the_args.pace the_args.path the_args.i ≡ Tile c.in-Some.tile c.in-Some.x c.in-Some.field-0-2 c.in-Some.z
fell c = sym c.step_at.ensures ∙ c.in-Some.is

-- which is lent
below : (c : In-Some) → c.in-Some.tile.0 < length c.args.counts.now
below c =
    let the_args = c.args in
    omega (arith, (tile_in_lem the_args.pace the_args.path the_args.i _ _ _ _ (fell c)).1, c.requires.0.within)

pub bounds-counts-own : goal.bounds-counts-own
bounds-counts-own c = below (goal.at.bounds-counts-own c).In-Some

pub returns-then-counts-own-ge-MOST_COUNT : goal.returns-then-counts-own-ge-MOST_COUNT
returns-then-counts-own-ge-MOST_COUNT c =
    let the_args = c.args in
    let the_pre = c.requires in
    ap (λ (v : Verdict). seen_of v (z_of the_args.pace the_args.i))
    (check_full _ _ _ _ _ _ _ (hit_on the_args.pace the_args.path the_args.i _ _ _ _ (fell (goal.at.returns-then-counts-own-ge-MOST_COUNT c).In-Some) the_args.last_z _ the_pre.2 refl) c.if-counts-own-ge-MOST_COUNT.true)

pub crosses-marks-requires : goal.crosses-marks-requires
crosses-marks-requires c =
    let the_args = c.args in
    (step_told the_args.pace the_args.path the_args.i _ _ _ _ (fell (goal.at.crosses-marks-requires c).In-Some)).within.col_most

-- the tile that is marked, or the step's own, is lent
next : (c : After-next_if-q) → c.next_if-q.result < length c.args.backs.now
next c =
    let the_args = c.args in
    let the_pre = c.requires in
    omega (
      arith,
      c.next_if-q.ensures,
      next_below the_args.pace the_args.path the_args.i _ _ _ _ (sym c.step_at.ensures ∙ c.in-Some.is) the_args.last_z c.crosses-marks.result
          c.crosses-marks.ensures,
      the_pre.0.within,
      the_pre.0.paired,
    )

pub offset_bounds-backs-q : goal.offset_bounds-backs-q
offset_bounds-backs-q c =
    let the_pre = c.requires in
    omega (arith, next (c), the_pre.0.few, the_pre.0.paired)

pub bounds-backs-q : goal.bounds-backs-q
bounds-backs-q c = next (c)

-- where the step falls, and whether it marks
hit : (c : After-crosses-marks) →
    let the_args = c.args in
    hit_at the_args.pace the_args.path the_args.i ≡ on c.in-Some.tile.0 c.crosses-marks.result
hit c =
    let the_args = c.args in
    let the_pre = c.requires in
    hit_on the_args.pace the_args.path the_args.i _ _ _ _ (sym c.step_at.ensures ∙ c.in-Some.is) the_args.last_z c.crosses-marks.result the_pre.2 c.crosses-marks.ensures

-- what `leaves` says of the backdrop itself
said : (c : After-leaves) →
    let the_args = c.args in
    c.leaves.result ≡ not (in_i32 (get_or the_args.backs.now (cond c.crosses-marks.result (c.in-Some.tile.0 + 1) c.in-Some.tile.0)
    (pos 0) +ℤ delta_of the_args.up))
said c =
    let the_args = c.args in
    told (get_or the_args.backs.now c.next_if-q.result (pos 0)) (delta_of the_args.up) c.leaves.result c.leaves-arg-1.given c.leaves.ensures
    ∙ ap (λ (q : ℕ). not (in_i32 (get_or the_args.backs.now q (pos 0) +ℤ delta_of the_args.up))) c.next_if-q.ensures

pub returns-then-marks-leaves : goal.returns-then-marks-leaves
returns-then-marks-leaves c =
    let the_args = c.args in
    ap (λ (v : Verdict). seen_of v (z_of the_args.pace the_args.i))
    (check_marked _ _ _ _ _ _ _ (hit (goal.at.returns-then-marks-leaves c).After-crosses-marks) c.leaves.result c.if-counts-own-ge-MOST_COUNT.false (said (goal.at.returns-then-marks-leaves c).After-leaves) c.if-marks-leaves.true)

pub returns : goal.returns
returns c =
    let the_args = c.args in
    ap Passed (sym (step_told the_args.pace the_args.path the_args.i _ _ _ _ (fell ((goal.at.returns c).In-Some))).is_z)
    ∙ ap (λ (v : Verdict). seen_of v (z_of the_args.pace the_args.i))
    (check_passes _ _ _ _ _ _ _ (hit (goal.at.returns c).After-crosses-marks) c.leaves.result c.if-counts-own-ge-MOST_COUNT.false (said (goal.at.returns c).After-leaves) c.if-marks-leaves.false)
