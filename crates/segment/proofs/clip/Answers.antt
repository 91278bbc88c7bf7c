-- `segment::clip` meets its contract: at each return the test picks the case. Assumes nothing.
use mathlib.Core.Path.{◌∙◌}
use Rattle.segment.specs.Clips.{clip_of}
use Rattle.segment.proofs.clip.Goals as goal

pub returns-then-same : goal.returns-then-same
unfolding clip_of
returns-then-same c = c.at_row.ensures ∙ simp c.if-same.true

pub returns-else-same : goal.returns-else-same
unfolding clip_of
returns-else-same c = c.at_col.ensures ∙ simp c.if-same.false
