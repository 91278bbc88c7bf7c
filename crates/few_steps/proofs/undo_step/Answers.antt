-- `few_steps::undo_step` meets its contract. What its notes tell of the step says that its tile was counted, and that its mark taken off stays within i32.
-- Assumes nothing.
use mathlib.Core.Path.{refl}
use Rattle.few_steps.proofs.Fews.{undoes, tile_lent, counted_once, next_lent, mark_fits, ref_lent}
use Rattle.few_steps.proofs.undo_step.Goals as goal

pub bounds-counts-t : goal.bounds-counts-t
bounds-counts-t c = tile_lent _ _ _ _ _ _ _ _ _ c.requires.1 _ c.word_tile-t.ensures _ c.word_marks-marks.ensures

pub overflow_sub-counts : goal.overflow_sub-counts
overflow_sub-counts c = counted_once _ _ _ _ _ _ _ _ _ c.requires.1 _ c.word_tile-t.ensures _ c.word_marks-marks.ensures

pub bounds-counts-t-2 : goal.bounds-counts-t-2
bounds-counts-t-2 c = tile_lent _ _ _ _ _ _ _ _ _ c.requires.1 _ c.word_tile-t.ensures _ c.word_marks-marks.ensures

pub mark_if-requires : goal.mark_if-requires
mark_if-requires c = (next_lent _ _ _ _ _ _ _ _ _ c.requires.1 _ c.word_tile-t.ensures _ c.word_marks-marks.ensures, mark_fits _ _ _ _ _ _ _ _ _ c.requires.1 _ c.word_tile-t.ensures _ c.word_marks-marks.ensures)

pub put_ref-requires : goal.put_ref-requires
put_ref-requires c = ref_lent _ _ _ _ _ _ _ _ _ c.requires.1 _ c.word_tile-t.ensures _ c.word_marks-marks.ensures

pub returns : goal.returns
returns c = λ s o. undoes _ _ _ _ _ s _ _ _ o _ c.word_tile-t.ensures _ c.word_marks-marks.ensures _ _ _ refl c.mark_if.ensures c.put_ref.ensures
