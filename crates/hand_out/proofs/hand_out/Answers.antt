-- `hand_out::hand_out` meets its contract: by what its checks find.
-- Assumes nothing.
use mathlib.Core.Path.{sym, ◌∙◌}
use borrow.Author.Rules.{rules}
use Rattle.hand_out.specs.HandOut.{hand_out_of}
use Rattle.hand_out.proofs.HandLaws.{call_done}
use Rattle.hand_out.proofs.hand_out.Goals as goal

pub returns : goal.returns
returns c =
    let a = c.args in
    c.fill.ensures ∙ sym (call_done a.room a.counts.now a.tally.now (sym c.in_ok-check_call.ensures))

pub returns-in_err-check_call : goal.returns-in_err-check_call
unfolding hand_out_of
returns-in_err-check_call c = search rules
