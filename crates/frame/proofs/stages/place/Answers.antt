-- `frame::stages::place` meets its contract: by what each stage answers.
-- Assumes nothing.
use mathlib.Core.Path.{ap}
use Rattle.panel.specs.Answer.{answer_told}
use Rattle.frame.proofs.FrameLaws.{summed_no, handed_no, tiled_no, all_done}
use Rattle.frame.proofs.stages.place.Goals as goal

-- the paths are checked for as many backdrops as tiles
pub backdrop_checked-requires : goal.backdrop_checked-requires
backdrop_checked-requires c = rw c.requires.1 c.requires.0

pub returns-in-Err : goal.returns-in-Err
returns-in-Err c =
    let b = c.backdrop_checked in
    rw c.refuses.ensures (summed_no _ _ _ _ _ _ _ _ _ (answer_told b.result) _ b.ensures _ _ (ap answer_told c.in-Err.is))

pub returns-in-Err-hand_out : goal.returns-in-Err-hand_out
returns-in-Err-hand_out c =
    let b = c.backdrop_checked in
    let h = c.hand_out in
    rw c.refuses-in-Err-hand_out.ensures
    (handed_no _ _ _ _ _ _ _ _ _ (answer_told b.result) _ b.ensures (ap answer_told c.in_default.is) _ c.slots_of-room.ensures
    (answer_told h.result) _ _ h.ensures _ _ (ap answer_told c.in-Err-hand_out.is))

-- hand-out leaves as many tiles
pub tile_checked-tiled-requires : goal.tile_checked-tiled-requires
tile_checked-tiled-requires c = rw c.stored-1.given c.requires.0

pub returns-in-Err-tiled : goal.returns-in-Err-tiled
returns-in-Err-tiled c =
    let b = c.backdrop_checked in
    let h = c.hand_out in
    let t = c.tile_checked-tiled in
    rw c.refuses-in-Err-tiled.ensures
    (tiled_no _ _ _ _ _ _ _ _ _ (answer_told b.result) _ b.ensures (ap answer_told c.in_default.is) _ c.slots_of-room.ensures
    (answer_told h.result) _ _ h.ensures (ap answer_told c.in_default-hand_out.is) (answer_told t.result) _ t.ensures _ _ (ap answer_told c.in-Err-tiled.is))

pub returns : goal.returns
returns c =
    let b = c.backdrop_checked in
    let h = c.hand_out in
    let t = c.tile_checked-tiled in
    all_done _ _ _ _ _ _ _ _ _ (answer_told b.result) _ b.ensures (ap answer_told c.in_default.is) _ c.slots_of-room.ensures
    (answer_told h.result) _ _ h.ensures (ap answer_told c.in_default-hand_out.is) (answer_told t.result) _ t.ensures (ap answer_told c.in_default-tiled.is)
