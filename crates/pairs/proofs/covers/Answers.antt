-- `pairs::covers` meets its contract. Assumes nothing.
use mathlib.Core.Path.{ap, ◌∙◌}
use Prim.Native.Nat.{ℕ, ◌%◌}
use lib.Dec.{eqb}
use lib.IntN.{nat_abs}
use Rattle.float32.proofs.Turned.{back}
use Rattle.pairs.proofs.covers.Goals as goal

pub returns-then-even_odd : goal.returns-then-even_odd
returns-then-even_odd c =
    let size = c.size_of.ensures ∙ ap nat_abs (back c.args.b c.ranges.b) in
    rw c.if-even_odd.true (ap (λ (n : ℕ). eqb n 1) (c.last_bit.ensures ∙ ap (λ (n : ℕ). n % 2) size))
