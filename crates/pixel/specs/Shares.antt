-- What a segment adds to a pixel's area, apart from the sum. Only proofs lean on it: no promise of a public call does. Definitions only.
use Rattle.std.specs.Prelude.{cond, ℕ, Float}
use Rattle.std.specs.Float.{binary32}
use Rattle.std.specs.Float.Ieee.{add, ne}
use Rattle.util.specs.Constants.{zero, one}
use Rattle.one_row.specs.Row.{reach_of, added_of}
use Rattle.one_row.specs.declared.Way.{Way}
use Rattle.one_row.specs.declared.Row.{Row}

-- so many segments are taken at once
abbrev pub lanes : ℕ
lanes = 4

-- what a segment that goes the way w adds at column i of the row r, where it adds anything
unfoldable pub share_of : Way → Row → ℕ → Float
share_of w r i = cond (ne r.dy zero) (added_of (reach_of w r) r.edge r.dy i) r.edge

-- another float than 0 where it does
unfoldable pub counts_of : Row → Float
counts_of r = cond (ne r.dy zero) one r.edge

-- the area a with a segment's share
unfoldable pub shared_of : Float → Float → Float → Float
shared_of a share counts = cond (ne counts zero) (add binary32 a share) a
