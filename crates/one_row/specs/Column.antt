-- What a segment adds to one pixel, by where the pixel's left side is. What `added_at` tells `added` and the crate narrow; no promise leans on it. Definitions only.
use Rattle.std.specs.Prelude.{Float}
use Rattle.std.specs.Float.{binary32}
use Rattle.std.specs.Float.Ieee.{add, sub, mul}
use Rattle.rounded.specs.Share.{share_of}
use Rattle.one_row.specs.declared.Reach.{Reach}

-- y_edge + a * dy at the column whose left side is x
unfoldable pub added_at : Reach → Float → Float → Float → Float
added_at p edge dy x = add binary32 edge (mul binary32 (share_of (sub binary32 p.left x) (sub binary32 p.right x)) dy)
