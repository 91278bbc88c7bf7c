-- `coverage::ground::ground` meets its contract. Assumes nothing.
use mathlib.Core.Path.{sym, ◌∙◌}
use Prim.Native.Nat.{ℕ, ◌+◌, ◌*◌, ◌/◌, ◌≤◌}
use native.Mathlib.Omega.{arith}
use lib.ListN.{length}
use borrow.Author.Tests.{le-leb, lt-leb}
use Rattle.panel.specs.Widths.{segment_floats}
use Rattle.coverage.proofs.Past.{over, within}
use Rattle.coverage.proofs.ground.ground.Goals as goal

-- so many whole segments have their floats among those lent
room : (lent n : ℕ) → n ≤ lent / segment_floats → segment_floats * n ≤ lent
room lent n h = omega arith

pub returns-then-first-number : goal.returns-then-first-number
returns-then-first-number c = rw (lt-leb _ _ (over _ _ c.if-first-number.true))

pub all_straight-ok-requires : goal.all_straight-ok-requires
all_straight-ok-requires c =
    let a = c.args in
    room (length a.segments.now) (a.first + a.number) (within _ _ c.if-first-number.false)

pub returns-then-not-ok : goal.returns-then-not-ok
returns-then-not-ok c = rw (le-leb _ _ (within _ _ c.if-first-number.false), sym c.all_straight-ok.ensures ∙ c.if-not-ok.true)

pub returns : goal.returns
returns c = rw (le-leb _ _ (within _ _ c.if-first-number.false), sym c.all_straight-ok.ensures ∙ c.if-not-ok.false)
