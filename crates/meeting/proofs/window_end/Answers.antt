-- `meeting::window_end` meets its contract.
-- Assumes nothing.
use native.Mathlib.Omega.{arith}
use Rattle.meeting.specs.Found.{window_end}
use Rattle.meeting.proofs.window_end.Goals as goal

pub returns-then-width-lt-KEYS : goal.returns-then-width-lt-KEYS
unfolding window_end
returns-then-width-lt-KEYS c = omega arith

pub returns-else-width-lt-KEYS : goal.returns-else-width-lt-KEYS
unfolding window_end
returns-else-width-lt-KEYS c = omega arith
