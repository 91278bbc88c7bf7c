-- How much of a segment's height in a row a column gets, by where the segment's part of that row lies from the column's left side on: its left end at l, its right one at r.
-- For proofs alone: the promise's definition is `added_of` of `coverage`, which has these steps written out. Definitions only.
use Rattle.std.specs.Prelude.{Float}
use Rattle.std.specs.Float.{binary32}
use Rattle.std.specs.Float.Ieee.{add, sub, mul, div}
use Rattle.float32.specs.Meaning.{min_of, max_of}
use Rattle.util.specs.Constants.{zero, half, one, epsilon}

-- the left end, up to 1 and epsilon less
abbrev pub low_of : Float → Float
low_of l = sub binary32 (min_of l one) epsilon

-- what lies left of the right end, by that end up to 1
abbrev pub held_by : Float → Float → Float
held_by x b =
    let c = max_of b zero in
    let d = max_of x zero in
    add binary32 b (mul binary32 half (sub binary32 (mul binary32 d d) (mul binary32 c c)))

abbrev pub held_of : Float → Float → Float
held_of x r = held_by x (min_of r one)

abbrev pub quot_of : Float → Float → Float
quot_of x r = div binary32 (sub binary32 (held_of x r) x) (sub binary32 r x)

abbrev pub share_of : Float → Float → Float
share_of l r = quot_of (low_of l) r
