-- `walked_lines::count_walk` meets its contract.
-- Assumes nothing.
use mathlib.Core.Path.{◌≡◌, sym, ap, ◌∙◌, subst}
use mathlib.Core.Bool.{true, not}
use mathlib.Core.List.{List, ◌++◌}
use Prim.Native.Nat.{◌+◌, ◌-◌, ◌/◌}
use native.Mathlib.Omega.{arith}
use lib.ListN.{length}
use Rattle.panel.specs.Verdict.{verdict_told}
use Rattle.panel.specs.Limits.{most_steps}
use Rattle.panel.specs.Widths.{ref_words}
use Rattle.acts.specs.Acts.{Act, st_of, steps_acts, run_acts, check_no, is_done, delta_of}
use Rattle.acts.specs.Line.{plan_acts}
use Rattle.acts.specs.Rows.{RowsIn, rows_acts}
use Rattle.acts.specs.declared.rows.Rows.{Rows}
use Rattle.hits.specs.Steps.{hit_at}
use Rattle.walked_lines.specs.Line.{plan_by, Clipped}
use Rattle.walked_lines.proofs.Lines.{starts, left, clipped, rows_in, not_far, has_room, walk_far, walk_full, walk_refused, walk_fine, walk_done}
use Rattle.walked_lines.proofs.count_walk.Goals as goal
use Rattle.walked_lines.proofs.count_walk.Goals.{After-check_line-v, After-rows_by-rows}

pub returns-then-imin-imax : goal.returns-then-imin-imax
unfolding most_steps
returns-then-imin-imax c =
    let k = c.clip_to-clip in
    walk_far (length c.args.refs.now / ref_words) c.args.line.0 c.args.walk c.args.path k.result k.ensures
    (st_of c.args.backs.now c.args.counts.now c.args.refs.now c.args.made) c.if-imin-imax.true

pub overflow_sub-n : goal.overflow_sub-n
overflow_sub-n c =
    let the_args = c.args in
    (left the_args.walk the_args.path c.clip_to-clip.result c.clip_to-clip.ensures).onward

pub returns-then-after-refs : goal.returns-then-after-refs
unfolding most_steps
returns-then-after-refs c =
    let k = c.clip_to-clip in
    walk_full (length c.args.refs.now / ref_words) c.args.line.0 c.args.walk c.args.path k.result k.ensures
    (st_of c.args.backs.now c.args.counts.now c.args.refs.now c.args.made) c.if-imin-imax.false c.if-after-refs.true

pub rows_by-rows-requires : goal.rows_by-rows-requires
rows_by-rows-requires c = omega (arith, c.requires.1.wide)

-- the clip is one of a walk whose step numbers a reference holds
kept : (c : After-rows_by-rows) → Clipped c.args.path c.clip_to-clip.result
unfolding most_steps
kept c =
    let k = c.clip_to-clip in
    clipped c.args.walk c.args.path k.result k.ensures c.requires.1.wide (not_far k.result.imin k.result.imax c.if-imin-imax.false)

-- the rows are among the tiles lent
rows : (c : After-rows_by-rows) → RowsIn c.rows_by-rows.result (length c.args.backs.now)
rows c =
    subst (λ (r : Rows). RowsIn r (length c.args.backs.now)) (sym c.rows_by-rows.ensures)
    (rows_in c.args.path c.clip_to-clip.result (length c.args.backs.now) (length c.args.counts.now) c.requires.0 (kept c))

-- rows and steps are the walk's acts by its clip
acts : (c : After-rows_by-rows) →
    let k = c.clip_to-clip.result in
    rows_acts c.rows_by-rows.result ++ steps_acts (hit_at c.args.walk.pace c.args.path) (k.imax - k.imin) k.imin
    ≡ plan_acts (plan_by (not c.args.walk.e.is_down) c.args.walk.pace c.args.path k)
acts c =
    let k = c.clip_to-clip.result in
    ap (λ (r : Rows). rows_acts r ++ steps_acts (hit_at c.args.walk.pace c.args.path) (k.imax - k.imin) k.imin) c.rows_by-rows.ensures

pub check_line-v-requires : goal.check_line-v-requires
check_line-v-requires c =
    (c.requires.0, rows (goal.at.check_line-v-requires c).After-rows_by-rows, (kept (goal.at.check_line-v-requires c).After-rows_by-rows).onward, (kept (goal.at.check_line-v-requires c).After-rows_by-rows).last, starts c.args.walk c.args.path c.requires.1, c.requires.2)

-- what the check says, of those acts
checked : (c : After-check_line-v) →
    let d = not c.args.walk.e.is_down in
    let k = c.clip_to-clip.result in
    rows_acts c.rows_by-rows.result ++ steps_acts (hit_at c.args.walk.pace c.args.path) (k.imax - k.imin) k.imin
    ≡ plan_acts (plan_by d c.args.walk.pace c.args.path k) →
    verdict_told c.check_line-v.result ≡ check_no (delta_of d) (plan_acts (plan_by d c.args.walk.pace c.args.path c.clip_to-clip.result)) c.args.backs.now c.args.counts.now
checked c h =
    c.check_line-v.ensures.0
    ∙ ap (λ (xs : List Act). check_no (delta_of (not c.args.walk.e.is_down)) xs c.args.backs.now c.args.counts.now) h

pub returns-in-Err : goal.returns-in-Err
unfolding most_steps
returns-in-Err c =
    let k = c.clip_to-clip in
    walk_refused (length c.args.refs.now / ref_words) c.args.line.0 c.args.walk c.args.path k.result k.ensures
    (st_of c.args.backs.now c.args.counts.now c.args.refs.now c.args.made)
    c.if-imin-imax.false c.if-after-refs.false _ _ c.requires.0 c.requires.1 (verdict_told c.check_line-v.result)
    (checked (goal.at.returns-in-Err c).After-check_line-v (acts (goal.at.returns-in-Err c).After-rows_by-rows)) _ (ap verdict_told c.in-Err.is)

pub write_line-requires : goal.write_line-requires
unfolding most_steps
write_line-requires c =
    let k = c.clip_to-clip in
    let fine = ap verdict_told c.in_default.is in
    let room = has_room (length c.args.refs.now / ref_words) (c.args.made + (k.result.imax - k.result.imin)) c.if-after-refs.false in (
      c.requires.0,
      rows (goal.at.write_line-requires c).After-rows_by-rows,
      (kept (goal.at.write_line-requires c).After-rows_by-rows).onward,
      (kept (goal.at.write_line-requires c).After-rows_by-rows).last,
      c.check_line-v.auto.notes ∙ c.requires.2,
      c.check_line-v.ensures.1 fine,
      omega (arith, room),
      omega (arith, room),
      subst (λ (xs : List Act). is_done (run_acts (delta_of (not c.args.walk.e.is_down)) c.args.line.0 xs (st_of c.args.backs.now c.args.counts.now c.args.refs.now c.args.made)) ≡ true)
          (sym (acts (goal.at.write_line-requires c).After-rows_by-rows))
          (walk_fine (length c.args.refs.now / ref_words) c.args.line.0 c.args.walk c.args.path k.result k.ensures
          (st_of c.args.backs.now c.args.counts.now c.args.refs.now c.args.made)
          c.if-imin-imax.false c.if-after-refs.false _ _ c.requires.0 c.requires.1 (verdict_told c.check_line-v.result) (checked (goal.at.write_line-requires c).After-check_line-v (acts (goal.at.write_line-requires c).After-rows_by-rows)) fine),
    )

pub returns : goal.returns
unfolding most_steps
returns c =
    let k = c.clip_to-clip in
    let u = st_of c.args.backs.now c.args.counts.now c.args.refs.now c.args.made in
    walk_done (length c.args.refs.now / ref_words) c.args.line.0 c.args.walk c.args.path k.result k.ensures u c.if-imin-imax.false c.if-after-refs.false _
    (c.write_line.ensures
    ∙ ap (λ (xs : List Act). run_acts (delta_of (not c.args.walk.e.is_down)) c.args.line.0 xs u) (acts (goal.at.returns c).After-rows_by-rows))
