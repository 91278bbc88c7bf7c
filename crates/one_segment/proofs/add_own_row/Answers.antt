-- `one_segment::add_own_row` meets its contract: its three arms are those of `step_row`. Assumes nothing.
use mathlib.Core.Path.{◌≡◌, sym, subst}
use mathlib.Core.Bool.{false}
use lib.Ieee.{lt}
use Rattle.one_row.specs.declared.Reach.{Reach}
use Rattle.one_segment.proofs.Arms.{slant, edge, neither}
use Rattle.narrow.proofs.NarrowLaws.{ends_in_order}
use borrow.Author.Rules.{rules}
use Rattle.one_segment.proofs.add_own_row.Goals as goal

pub add_part-requires : goal.add_part-requires
add_part-requires c = (
  c.requires.0,
  c.requires.1,
  search rules,
  subst (λ (p : Reach). lt p.right p.left ≡ false) (sym c.reach_of.ensures) (ends_in_order c.args.w c.args.r),
)

pub returns-then-dy : goal.returns-then-dy
returns-then-dy c =
    let a = c.args in
    slant a.w a.r _ _ c.reach_of.result _ _
    c.if-dy.true c.reach_of.ensures c.add_part.ensures

pub returns-then-edge : goal.returns-then-edge
returns-then-edge c =
    let a = c.args in
    edge a.w a.r _ _ _ _ c.if-dy.false c.if-edge.true c.add_edge.ensures

pub returns-else-edge : goal.returns-else-edge
returns-else-edge c =
    let a = c.args in
    neither a.w a.r _ _ _ c.if-dy.false c.if-edge.false
