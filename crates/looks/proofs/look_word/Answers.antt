-- `looks::look_word` meets its contract: at each return the tests that led there pick the case. Assumes nothing.
use Prim.Native.Nat.{◌+◌, ◌≤◌, ◌<◌}
use mathlib.Core.Path.{◌≡◌, sym, ◌∙◌}
use mathlib.Core.Bool.{true, false}
use borrow.Author.Tests.{lt-ltb, le-ltb}
use native.Mathlib.Omega.{arith}
use Rattle.panel.specs.Slots.{skips, slot_of}
use Rattle.looks.specs.Look.{piece_to, word_to}
use Rattle.looks.proofs.look_word.Goals as goal

pub returns-then-skips : goal.returns-then-skips
unfolding word_to
returns-then-skips c =
    let empty : skips c.args.word ≡ true = sym c.skips.ensures ∙ c.if-skips.true in
    rw empty

pub returns-then-slot-slots : goal.returns-then-slot-slots
unfolding word_to
returns-then-slot-slots c =
    let over : c.args.slots < slot_of c.args.word c.args.slice + 1 = omega (arith, c.flipped.ensures) in
    let full : skips c.args.word ≡ false = sym c.skips.ensures ∙ c.if-skips.false in
    rw (full, lt-ltb _ _ over)

pub returns-in_default : goal.returns-in_default
unfolding word_to piece_to
returns-in_default c =
    let room : slot_of c.args.word c.args.slice + 1 ≤ c.args.slots = omega (arith, c.flipped.ensures) in
    let full : skips c.args.word ≡ false = sym c.skips.ensures ∙ c.if-skips.false in
    rw (full, le-ltb _ _ room, ← c.piece_of-piece.ensures, c.in_default.is)

pub returns : goal.returns
unfolding word_to piece_to
returns c =
    let room : slot_of c.args.word c.args.slice + 1 ≤ c.args.slots = omega (arith, c.flipped.ensures) in
    let full : skips c.args.word ≡ false = sym c.skips.ensures ∙ c.if-skips.false in
    rw (full, le-ltb _ _ room, ← c.piece_of-piece.ensures, c.in-Some.is, c.flipped.ensures)
