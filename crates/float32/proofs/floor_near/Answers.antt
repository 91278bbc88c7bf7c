-- `float32::floor_near` meets its contract: a shift up to where the floats are whole and back (`Magic.antt`). Assumes nothing.
use mathlib.Core.Logic.{inl, inr}
use lib.Ieee.{binary32, sub, neg, of_bits}
use Rattle.float32.proofs.Tests.{yes}
use Rattle.float32.proofs.Magic.{near, Least, floor_least}
use Rattle.float32.proofs.floor_near.Goals as goal
use Rattle.float32.proofs.floor_near.Goals.{then-x-r, else-x-r, Joined-x-r}

stepped : (c : Joined-x-r) → Least c.args.x (sub binary32 (near c.args.x) c.if-x-r.step)
unfolding of_bits neg
stepped c =
    floor_least c.args.x c.if-x-r.step (yes c.well_formed.0.1) c.requires.below c.requires.above (elim c.if-x-r.branch [ then-x-r w ↦ inl (w.if-x-r.true, w.step-is) | else-x-r w ↦ inr (w.if-x-r.false, w.step-is) ])

pub returns-then-below-x : goal.returns-then-below-x
unfolding of_bits neg
returns-then-below-x c = (stepped (goal.at.returns-then-below-x c).Joined-x-r).below c.if-below-x.true

pub returns-else-below-x : goal.returns-else-below-x
unfolding of_bits neg
returns-else-below-x c = (stepped (goal.at.returns-else-below-x c).Joined-x-r).level c.if-below-x.false
