-- `outlines::sooner` meets its contract. Assumes nothing.
use native.Mathlib.Omega.{arith}
use Rattle.outlines.specs.Told.{sooner_of}
use Rattle.outlines.proofs.sooner.Goals as goal

pub returns-then-fine-last : goal.returns-then-fine-last
unfolding sooner_of
returns-then-fine-last c = rw c.if-fine-last.true

pub returns-then-best-last : goal.returns-then-best-last
unfolding sooner_of
returns-then-best-last c = rw c.if-fine-last.false (omega arith)

pub returns-else-best-last : goal.returns-else-best-last
unfolding sooner_of
returns-else-best-last c = rw c.if-fine-last.false (omega arith)
