-- `near::Listing::row_at` meets its contract. Assumes nothing.
use native.Mathlib.Omega.{arith}
use Rattle.panel.specs.Limits.{edge_most}
use Rattle.near.proofs.NearLaws.{row_none}
use Rattle.near.proofs.Listing.row_at.Goals as goal

pub returns-then-y-ge-EDGE_MOST : goal.returns-then-y-ge-EDGE_MOST
unfolding edge_most
returns-then-y-ge-EDGE_MOST c =
    record { few = omega arith; same = row_none c.args.paths.now c.args.y c.requires.0 c.if-y-ge-EDGE_MOST.true }
