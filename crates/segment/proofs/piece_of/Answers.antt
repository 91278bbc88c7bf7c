-- `segment::piece_of` meets its contract: the test, in the definition's terms, picks the case. Assumes nothing.
use Rattle.segment.specs.By.{piece_by}
use Rattle.segment.proofs.piece_of.Goals as goal

pub returns-then-held : goal.returns-then-held
unfolding piece_by
returns-then-held c =
    let both = rw (c.held.ensures, c.held-2.ensures, c.segment_of-made.ensures) at c.if-held.true in
    rw (c.segment_of-made.ensures, both)

pub returns-else-held : goal.returns-else-held
unfolding piece_by
returns-else-held c =
    let both = rw (c.held.ensures, c.held-2.ensures, c.segment_of-made.ensures) at c.if-held.false in
    rw both
