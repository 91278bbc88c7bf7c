-- `tile_check::call::check_tiles` meets its contract.
-- Assumes nothing.
use mathlib.Core.Path.{◌≡◌, sym, ap, ◌∙◌}
use mathlib.Core.List.{◌++◌}
use Prim.Native.Nat.{◌/◌}
use native.Mathlib.Omega.{arith}
use lib.ListN.{length, drop, length-append, length-drop}
use lib.Seq.{length-take-le}
use Rattle.std.proofs.lemmas.Result.{err_from_is_err_and}
use Rattle.panel.specs.Answer.{answer_told}
use Rattle.panel.specs.Widths.{ref_words}
use Rattle.tile_check.specs.Checked.{checked_told}
use Rattle.tile_check.specs.Tables.{work_words}
use Rattle.tile_check.proofs.CallLaws.{AskedTold, asked_told, cleared_is, check_asked, check_looked}
use Rattle.tile_check.proofs.call.check_tiles.Goals as goal
use Rattle.tile_check.proofs.call.check_tiles.Goals.{After-looked-r, In_ok-asked}

pub returns-in_err-asked : goal.returns-in_err-asked
returns-in_err-asked c =
    let a = c.args in
    let r = err_from_is_err_and c.from_residual.result c.from_residual.ensures.1 in
    rw (r.1, r.2) (check_asked a.path_nos.now a.coords.now a.paths.now a.refs.now a.counts.now a.backs.now a.stored.now a.room a.work.now
    (answer_told c.asked.result) c.asked.ensures _ _ (ap answer_told c.in_err-asked.was))

-- what the checks told
told : (c : In_ok-asked) → AskedTold c.args.paths.now (length c.args.path_nos.now) (length c.args.coords.now) (length c.args.refs.now)
    (length c.args.counts.now) (length c.args.backs.now) (length c.args.stored.now) (length
    c.args.work.now)
told c = asked_told c.args.paths.now _ _ _ _ _ _ _ (sym c.asked.ensures ∙ ap answer_told c.in_ok-asked.was)

pub overflow_mul-n : goal.overflow_mul-n
overflow_mul-n c = omega (arith, (told c).room)

pub slice_bounds-looked-end : goal.slice_bounds-looked-end
slice_bounds-looked-end c = (told c).room

pub slice_bounds-looked-end-2 : goal.slice_bounds-looked-end-2
slice_bounds-looked-end-2 c = sym (length-take-le (work_words (length c.args.counts.now)
    (length c.args.path_nos.now) (length c.args.refs.now / ref_words)) c.args.work.now (told (goal.at.slice_bounds-looked-end-2 c).In_ok-asked).room)

pub looked-r-requires : goal.looked-r-requires
looked-r-requires c = (
  (told (goal.at.looked-r-requires c).In_ok-asked).passed,
  (told (goal.at.looked-r-requires c).In_ok-asked).lines,
  (told (goal.at.looked-r-requires c).In_ok-asked).backs,
  (told (goal.at.looked-r-requires c).In_ok-asked).stored,
  length-take-le (work_words (length c.args.counts.now) (length c.args.path_nos.now) (length c.args.refs.now / ref_words)) c.args.work.now (told (goal.at.looked-r-requires c).In_ok-asked).room,
)

-- the part comes back as long as it was lent
part : (c : After-looked-r) → AskedTold c.args.paths.now (length c.args.path_nos.now) (length c.args.coords.now) (length c.args.refs.now)
    (length c.args.counts.now) (length c.args.backs.now) (length c.args.stored.now) (length
    c.args.work.now) →
    length c.looked-r.new.work
    ≡ work_words (length c.args.counts.now) (length c.args.path_nos.now) (length c.args.refs.now / ref_words)
part c t = c.looked-r.auto.work ∙ length-take-le _ c.args.work.now t.room

whole : (c : After-looked-r) → AskedTold c.args.paths.now (length c.args.path_nos.now) (length c.args.coords.now) (length c.args.refs.now)
    (length c.args.counts.now) (length c.args.backs.now) (length c.args.stored.now) (length
    c.args.work.now) →
    length (c.looked-r.new.work
    ++ drop (work_words (length c.args.counts.now) (length c.args.path_nos.now) (length c.args.refs.now / ref_words)) c.args.work.now)
    ≡ length c.args.work.now
whole c t =
    length-append c.looked-r.new.work _
    ∙ omega (
      arith,
      part c t,
      t.room,
      length-drop (work_words (length c.args.counts.now) (length c.args.path_nos.now)
          (length c.args.refs.now / ref_words)) c.args.work.now,
    )

pub clear-requires : goal.clear-requires
clear-requires c = omega (arith, whole (goal.at.clear-requires c).After-looked-r (told (goal.at.clear-requires c).In_ok-asked), (told (goal.at.clear-requires c).In_ok-asked).room)

pub returns : goal.returns
returns c =
    check_looked c.args.path_nos.now c.args.coords.now
    c.args.paths.now c.args.refs.now c.args.counts.now c.args.backs.now c.args.stored.now c.args.room c.args.work.now (answer_told c.asked.result) c.asked.ensures
    (checked_told c.looked-r.result) c.clear.new.xs (ap answer_told c.in_ok-asked.was) c.looked-r.ensures
    (c.clear.ensures ∙ cleared_is (work_words (length c.args.counts.now) (length c.args.path_nos.now) (length c.args.refs.now / ref_words)) c.looked-r.new.work c.args.work.now (told (goal.at.returns c).In_ok-asked).room (part (goal.at.returns c).After-looked-r (told (goal.at.returns c).In_ok-asked)))
