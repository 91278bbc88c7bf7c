-- `frame::stages::draw` meets its contract: by what counting answers.
-- Assumes nothing.
use mathlib.Core.Path.{sym, ap, ◌∙◌}
use lib.IntN.{pos}
use Rattle.ranges.proofs.RangeLaws.{cleared_all}
use Rattle.path_count.specs.Counted.{counted_told}
use Rattle.frame.proofs.FrameLaws.{drawn_no, drawn_on}
use Rattle.frame.proofs.stages.draw.Goals as goal

-- the paths are checked for as many tiles as are cleared
pub count_checked-requires : goal.count_checked-requires
count_checked-requires c = rw c.stored-1.given
    c.requires.0

-- and counting leaves as many, and as many backdrops
pub place-requires : goal.place-requires
place-requires c =
    let words = c.stored-2-1.given
    ∙ c.stored-1.given in
    let backs = c.backdrops-2-1.given
    ∙ c.backdrops-1.given in (
      rw words c.requires.0,
      backs
          ∙ c.requires.1 ∙ sym words,
    )

pub shape_of-backdrops-in-Ok : goal.shape_of-backdrops-in-Ok
shape_of-backdrops-in-Ok c = c.backdrops-in-Ok-1.given
    ∙ c.backdrops-2-1.given
    ∙ c.backdrops-1.given

pub shape_of-stored-in-Ok : goal.shape_of-stored-in-Ok
shape_of-stored-in-Ok c = c.stored-in-Ok-1.given
    ∙ c.stored-2-1.given
    ∙ c.stored-1.given

pub returns-in-Ok : goal.returns-in-Ok
returns-in-Ok c =
    let k = c.count_checked in
    drawn_on _ _ _ _ _ _ _ _ _ _ _
    (c.clear.ensures ∙ cleared_all (pos 0)
    c.args.backdrops.now)
    (c.clear-2.ensures ∙ cleared_all 0
    c.args.stored.now)
    c.end_of-end.ensures (counted_told k.result) _ _ _ k.ensures
    _ _ (ap counted_told c.in-Ok.is)
    c.place.ensures

pub shape_of-backdrops-in-Err : goal.shape_of-backdrops-in-Err
shape_of-backdrops-in-Err c = c.backdrops-2-1.given
    ∙ c.backdrops-1.given

pub shape_of-stored-in-Err : goal.shape_of-stored-in-Err
shape_of-stored-in-Err c = c.stored-2-1.given
    ∙ c.stored-1.given

pub returns-in-Err : goal.returns-in-Err
returns-in-Err c =
    let k = c.count_checked in
    rw (c.refuses.ensures, c.at.ensures) (drawn_no _ _ _ _ _ _ _ _ _ _ _
    (c.clear.ensures ∙ cleared_all
    (pos 0) c.args.backdrops.now)
    (c.clear-2.ensures ∙ cleared_all 0
    c.args.stored.now) c.end_of-end.ensures
    (counted_told k.result) _ _ _ k.ensures
    _ _ _ (ap counted_told c.in-Err.is))
