-- `frame::call::frame` meets its contract: by what the checks find.
-- Assumes nothing.
use mathlib.Core.Path.{sym, ap, ◌∙◌}
use lib.ListN.{length}
use borrow.Author.Tests.{eqb-true}
use Rattle.panel.specs.Verdict.{verdict_told}
use Rattle.panel.specs.Answer.{answer_told}
use Rattle.panel.proofs.CheckLaws.{all_ok}
use Rattle.frame.specs.Frame.{lent_checks}
use Rattle.frame.proofs.FrameLaws.{frame_no, frame_path, frame_goes}
use Rattle.frame.proofs.call.frame.Goals as goal

pub returns-in-Err : goal.returns-in-Err
returns-in-Err c =
    let l = c.check_lent-lent in
    rw (c.refuses.ensures, c.at.ensures)
    (frame_no _ _ _ _ _ _ _ _ (verdict_told l.result) l.ensures _ (ap verdict_told c.in-Err.is))

pub returns-in-Err-check_paths : goal.returns-in-Err-check_paths
returns-in-Err-check_paths c =
    let l = c.check_lent-lent in
    let p = c.check_paths in
    rw c.refuses-in-Err-check_paths.ensures
    (frame_path _ _ _ _ _ _ _ _ (verdict_told l.result) l.ensures (ap verdict_told c.in_default.is) (answer_told p.result) p.ensures _ _
    (ap answer_told c.in-Err-check_paths.is))

-- the paths are checked, for as many backdrops as tiles
pub draw-requires : goal.draw-requires
draw-requires c =
    let a = c.args in
    let fine = all_ok (lent_checks (length a.path_nos.now) (length a.coords.now) (length a.backdrops.now) (length a.stored.now)
    (length a.tally.now) (length a.refs.now) (length a.segments.now) (length a.tags.now))
    (sym c.check_lent-lent.ensures ∙ ap verdict_told c.in_default.is) in (
      sym c.check_paths.ensures ∙ ap answer_told c.in_default-check_paths.is,
      eqb-true (length a.backdrops.now) (length a.stored.now) fine.1.1.0,
    )

pub returns : goal.returns
returns c =
    let l = c.check_lent-lent in
    let p = c.check_paths in
    frame_goes _ _ _ _ _ _ _ _ (verdict_told l.result) l.ensures (ap verdict_told c.in_default.is) (answer_told p.result) p.ensures _
    (ap answer_told c.in_default-check_paths.is)
    c.draw.ensures
