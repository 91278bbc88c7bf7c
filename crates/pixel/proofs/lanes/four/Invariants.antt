use mathlib.Core.Path.{◌≡◌}
use lib.ListN.{length}
use Rattle.pixel.specs.Shares.{lanes}
use Rattle.pixel.proofs.Shares.{share_here, counts_here, FilledTo}
use Rattle.pixel.proofs.lanes.four.Given as goal

abbrev pub invariant-loop-i : goal.invariant-loop-i
invariant-loop-i l =
    (length l.shares ≡ lanes) × (length l.tests ≡ lanes) × FilledTo (share_here l.segments l.k l.xt l.yt l.column l.row) l.i l.shares
    × FilledTo (counts_here l.segments l.k l.xt l.yt l.column l.row) l.i l.tests
