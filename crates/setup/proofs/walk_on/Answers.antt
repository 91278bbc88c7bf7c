-- `setup::walk_on` meets its contract. Assumes nothing.
use mathlib.Core.Path.{◌≡◌}
use mathlib.Core.Bool.{false}
use lib.Ieee.{lt}
use Rattle.exact.proofs.Bounds.{near_within}
use Rattle.walk.specs.Setup.{Scaled}
use Rattle.walk.proofs.Counts.{ends_scaled}
use Rattle.walk.proofs.Lines.{skips, walks}
use Rattle.walk.proofs.AroundLaws.{ends_ordered}
use Rattle.setup.proofs.walk_on.Goals as goal

pub floor_near-top-requires : goal.floor_near-top-requires
floor_near-top-requires c =
    let e : Scaled c.order-e.result.s0 × Scaled c.order-e.result.s1 = rw c.order-e.ensures (ends_scaled c.args.p0 c.args.p1 c.requires) in
    near_within _ e.0.in_y

pub flat-requires : goal.flat-requires
flat-requires c =
    let e : Scaled c.order-e.result.s0 × Scaled c.order-e.result.s1 = rw c.order-e.ensures (ends_scaled c.args.p0 c.args.p1 c.requires) in
    (e.0, e.1, c.floor_near-top.ensures)

pub past-requires : goal.past-requires
past-requires c =
    let e : Scaled c.order-e.result.s0 × Scaled c.order-e.result.s1 = rw c.order-e.ensures (ends_scaled c.args.p0 c.args.p1 c.requires) in
    e.0

pub returns-then-flat-past : goal.returns-then-flat-past
returns-then-flat-past c =
    skips c.args.p0 c.args.p1 c.args.b (rw (c.flat.ensures, c.past.ensures, c.order-e.ensures) at c.if-flat-past.true)

pub setup-requires : goal.setup-requires
setup-requires c =
    let e : Scaled c.order-e.result.s0 × Scaled c.order-e.result.s1 = rw c.order-e.ensures (ends_scaled c.args.p0 c.args.p1 c.requires) in
    let f : lt c.order-e.result.s1.y c.order-e.result.s0.y ≡ false = rw c.order-e.ensures (ends_ordered c.args.p0 c.args.p1 c.requires) in
    (e.0, e.1, f, c.floor_near-top.ensures)

pub returns : goal.returns
returns c =
    walks c.args.p0 c.args.p1 c.args.b c.setup.result
    (rw (c.flat.ensures, c.past.ensures, c.order-e.ensures) at c.if-flat-past.false)
    (rw c.order-e.ensures at c.setup.ensures)
