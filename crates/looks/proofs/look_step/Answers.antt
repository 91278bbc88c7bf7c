-- `looks::look_step` meets its contract, case by case. Assumes nothing.
use Rattle.looks.specs.Carry.{step_by_word}
use Rattle.looks.proofs.look_step.Goals as goal

pub returns-in_default : goal.returns-in_default
unfolding step_by_word
returns-in_default c = rw c.in_default.is

pub returns : goal.returns
unfolding step_by_word
returns c = rw c.in-Some.is c.look_word.ensures
