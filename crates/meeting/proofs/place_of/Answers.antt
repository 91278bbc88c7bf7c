-- `meeting::place_of` meets its contract.
-- Assumes nothing.
use native.Mathlib.Omega.{arith}
use Rattle.meeting.specs.Found.{place_of}
use Rattle.meeting.proofs.place_of.Goals as goal

pub returns-then-key-low : goal.returns-then-key-low
unfolding place_of
returns-then-key-low c = omega arith

pub returns-then-key-low-2 : goal.returns-then-key-low-2
unfolding place_of
returns-then-key-low-2 c = omega arith

pub returns-else-key-low-2 : goal.returns-else-key-low-2
unfolding place_of
returns-else-key-low-2 c = omega arith
