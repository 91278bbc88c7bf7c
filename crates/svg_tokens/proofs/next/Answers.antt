-- `svg_tokens::next` meets its contract: the tokens from here on are those from the start on. Assumes nothing.
use mathlib.Core.Path.{refl}
use native.Mathlib.Omega.{arith}
use Rattle.std.proofs.lemmas.List.{take_rest}
use Rattle.svg_tokens.proofs.Finds.{letter_found, none_found, value_found, value_past, end_found}
use Rattle.svg_tokens.proofs.next.Goals as goal

pub returns-then-c-ge-LETTERS : goal.returns-then-c-ge-LETTERS
returns-then-c-ge-LETTERS c = (letter_found _ _ _ c.loop-i-test.true c.if-c-ge-LETTERS.true c.loop-i.invariant, (omega arith, omega arith))

pub overflow_add-result-then-begins : goal.overflow_add-result-then-begins
overflow_add-result-then-begins c =
    let r = rw take_rest at c.read-v.ensures in
    let h = value_past c.args.s.now _ _ _ c.loop-i-test.true c.begins.ensures c.if-begins.true r in omega (arith, h.1)

pub returns-then-begins : goal.returns-then-begins
returns-then-begins c =
    let r = rw take_rest at c.read-v.ensures in
    let h = value_past c.args.s.now _ _ _ c.loop-i-test.true c.begins.ensures c.if-begins.true r in (
      value_found c.args.s.now _ _ _ _ c.loop-i-test.true c.if-c-ge-LETTERS.false
          c.begins.ensures c.if-begins.true r c.loop-i.invariant,
      (omega (arith, h.0), h.1),
    )

pub loop-i-preserved : goal.loop-i-preserved
loop-i-preserved c = none_found _ _ _ _ c.loop-i-test.true c.if-c-ge-LETTERS.false c.begins.ensures c.if-begins.false c.loop-i.invariant

pub returns : goal.returns
returns c = (end_found c.args.s.now _ _ c.loop-i-test.false c.loop-i.invariant, refl)
