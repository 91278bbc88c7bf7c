-- `own_count::lines::own_count` meets its contract.
-- Assumes nothing.
use mathlib.Core.Path.{refl, sym, ap, ◌∙◌}
use Prim.Native.Nat.{ℕ}
use native.Mathlib.Nat.{zero-add}
use native.Mathlib.Omega.{arith}
use lib.ListN.{get_or}
use Rattle.own_count.proofs.Shown.{view_zero}
use Rattle.own_count.proofs.lines.own_count.Goals as goal

pub own_lines-requires : goal.own_lines-requires
own_lines-requires c = (
  c.requires.0,
  c.requires.1,
  omega (
    arith,
    c.fill.ensures.same_length,
    c.fill-2.ensures.same_length,
    c.requires.2,
  ),
  view_zero c.args.n _ 0 (omega (
    arith,
    c.fill.ensures.same_length,
    c.fill-2.ensures.same_length,
    c.requires.2,
  ))
      (λ t h. c.fill-2.ensures.before t h ∙ ap (λ (k : ℕ). get_or c.fill.new.work k 0) (sym
      (zero-add t)) ∙ c.fill.ensures.filled t h)
      (λ t h. c.fill-2.ensures.filled t h)
      refl,
)
