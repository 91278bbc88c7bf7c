-- `walk_steps::notes::note_steps` meets its contract.
-- Assumes nothing.
use Rattle.walk_steps.proofs.notes.note_steps.Goals as goal

pub returns-then-quick_steps : goal.returns-then-quick_steps
returns-then-quick_steps c = let q = c.quick_steps.ensures c.if-quick_steps.true in (q.0, λ e. q.1)
