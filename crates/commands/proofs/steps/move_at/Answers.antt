-- `commands::steps::move_at` meets its contract: an arm for each kind of command. Assumes nothing.
use mathlib.Core.Path.{◌≡◌, refl, sym, ap, ◌∙◌}
use mathlib.Core.List.{List}
use Prim.Native.Nat.{ℕ, ◌-◌, ◌≤◌, ◌<◌}
use native.Mathlib.Omega.{arith}
use lib.ListN.{length}
use lib.Ieee.{Float}
use borrow.Author.Tests.{le-leb, lt-leb}
use Rattle.panel.specs.Refusals.{past_end}
use Rattle.commands.specs.Numbers.{words_of}
use Rattle.commands.specs.Moves.{whole_move, move_of}
use Rattle.commands.specs.declared.steps.Op.{Op}
use Rattle.commands.specs.declared.steps.Op.TheVariants.{Fill, Solid, Color, Jump, Unknown}
use Rattle.commands.specs.Move.{Move}
use Rattle.commands.specs.Move.{Refused}
use Rattle.commands.proofs.steps.move_at.Goals as goal

module _ (ws : List ℕ) (segs : List Float) (at : ℕ) (o : Op) (size : ℕ) (e : size ≡ words_of o) where
  short : length ws - at < size → Refused past_end ≡ move_of o ws segs at
  unfolding move_of
  short h = rw (lt-leb (words_of o) (length ws - at) (rw e at h))

  -- the command is o', and its words are there
  arm : (o' : Op) (r : Move) → size ≤ length ws - at → o ≡ o' → r ≡ whole_move o' ws segs at → r ≡ move_of o ws segs at
  unfolding move_of
  arm o' r h told k = k ∙ ap (λ (z : Op). whole_move z ws segs at) (sym told) ∙ sym (rw (le-leb (words_of o) (length ws - at) (rw e at h)))

pub returns-then-words-at : goal.returns-then-words-at
returns-then-words-at c =
    short c.args.words.now c.args.segments.now c.args.at c.args.op _ c.words.ensures c.if-words-at.true

pub fill_move-requires : goal.fill_move-requires
fill_move-requires c = omega (arith, c.words.ensures ∙ ap words_of c.in-Fill.is)

pub bounds-words-at : goal.bounds-words-at
bounds-words-at c = omega (arith, c.words.ensures ∙ ap words_of c.in-Color.is)

pub bounds-words-at-in-Jump : goal.bounds-words-at-in-Jump
bounds-words-at-in-Jump c = omega (arith, c.words.ensures ∙ ap words_of c.in-Jump.is)

pub returns-in-Fill : goal.returns-in-Fill
unfolding whole_move
returns-in-Fill c =
    arm c.args.words.now c.args.segments.now c.args.at c.args.op _ c.words.ensures Fill _
    c.if-words-at.false c.in-Fill.is c.fill_move.ensures

pub returns-in-Solid : goal.returns-in-Solid
unfolding whole_move
returns-in-Solid c =
    arm c.args.words.now c.args.segments.now c.args.at c.args.op _ c.words.ensures Solid _
    c.if-words-at.false c.in-Solid.is refl

pub returns-in-Color : goal.returns-in-Color
unfolding whole_move
returns-in-Color c =
    arm c.args.words.now c.args.segments.now c.args.at c.args.op _ c.words.ensures Color _
    c.if-words-at.false c.in-Color.is refl

pub returns-in-Jump : goal.returns-in-Jump
unfolding whole_move
returns-in-Jump c =
    arm c.args.words.now c.args.segments.now c.args.at c.args.op _ c.words.ensures Jump _
    c.if-words-at.false c.in-Jump.is refl

pub returns-in-Unknown : goal.returns-in-Unknown
unfolding whole_move
returns-in-Unknown c =
    arm c.args.words.now c.args.segments.now c.args.at c.args.op _ c.words.ensures Unknown _
    c.if-words-at.false c.in-Unknown.is refl
