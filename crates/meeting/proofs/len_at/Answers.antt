-- `meeting::len_at` meets its contract. A length that is there, or 1.
-- Assumes nothing.
use mathlib.Core.Path.{sym}
use lib.ListN.{get_or-eq_default}
use Rattle.meeting.proofs.Stores.{there_any}
use Rattle.meeting.proofs.len_at.Goals as goal

pub returns-then-i-lens : goal.returns-then-i-lens
returns-then-i-lens c = there_any c.args.lens.now c.args.i 0 1 c.if-i-lens.true

pub returns-else-i-lens : goal.returns-else-i-lens
returns-else-i-lens c = sym (get_or-eq_default c.args.lens.now 1 c.if-i-lens.false)
