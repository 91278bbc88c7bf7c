-- `meeting::nearer` meets its contract. Assumes nothing.
use native.Mathlib.Omega.{arith}
use Rattle.meeting.proofs.nearer.Goals as goal

pub returns-then-start-end : goal.returns-then-start-end
returns-then-start-end c = record { most = omega arith; past = λ h. absurd (omega arith); least = λ h. absurd (omega arith); own = λ h. absurd (omega arith) }

pub returns-then-least-start : goal.returns-then-least-start
returns-then-least-start c = record { most = omega arith; past = λ h. absurd (omega arith); least = λ h. omega arith; own = λ h. absurd (omega arith) }

pub returns-else-least-start : goal.returns-else-least-start
returns-else-least-start c = record { most = omega arith; past = λ h. omega arith; least = λ h. omega arith; own = λ h. omega arith }
