-- Parts of a segment that lie in a few columns of their row, a span. What the functions of this crate and of one_segment tell each other; no promise leans on it.
-- Definitions only.
use Rattle.std.specs.Prelude.{◌≡◌, true, false, cond, List, ℕ, ◌+◌, ◌-◌, ◌%◌, ltb, pos, get_or, set, Float}
use Rattle.std.specs.Float.{nan, binary32}
use Rattle.std.specs.Float.Ieee.{of_bits, of_int, add, mul, lt, le}
use Rattle.util.specs.Constants.{zero, one}
use Rattle.lists.specs.Grid.{tabulate}
use Rattle.sides.specs.Tile.{tile_width}
use Rattle.one_row.specs.Column.{added_at}
use Rattle.one_row.specs.declared.Reach.{Reach}
use Rattle.narrow.specs.declared.Four.{Four}

-- how many columns a span has, as a whole number and as a float; and the last column that one starts at
abbrev pub span : ℕ
span = 4

abbrev pub span_width : Float
span_width = of_bits binary32 0x4080_0000

abbrev pub last_span : ℕ
last_span = tile_width - span

-- the left side of column i; those of a row's columns; and 0 for as many columns, and then 1
abbrev pub column_at : ℕ → Float
column_at i = of_int binary32 (pos i)

unfoldable pub column_list : List Float
column_list = tabulate tile_width column_at

unfoldable pub part_list : List Float
part_list = tabulate (tile_width + last_span) (λ n. cond (ltb n tile_width) zero one)

-- what pixel k becomes, in column i; what the pixels from `at` on become, in the columns from g on; and four numbers written there
abbrev pub pixel_added : Reach → Float → Float → List Float → ℕ → List Float → ℕ → Float
pixel_added p edge dy area k cols i = add binary32 (get_or area k nan) (added_at p edge dy (get_or cols i nan))

unfoldable pub four_added : Reach → Float → Float → List Float → ℕ → List Float → ℕ → Four
four_added p edge dy area at cols g = record {
  n0 = pixel_added p edge dy area at cols g;
  n1 = pixel_added p edge dy area (at + 1) cols (g + 1);
  n2 = pixel_added p edge dy area (at + 2) cols (g + 2);
  n3 = pixel_added p edge dy area (at + 3) cols (g + 3);
}

unfoldable pub four_put : List Float → ℕ → Four → List Float
four_put l at f = set (set (set (set l at f.n0) (at + 1) f.n1) (at + 2) f.n2) (at + 3) f.n3

-- the area a of pixel k where its column gets as much of dy as the list t has for it
unfoldable pub parted : Float → Float → List Float → ℕ → ℕ → Float → Float
parted edge dy t g k a = add binary32 a (add binary32 edge (mul binary32 (get_or t (last_span - g + k % tile_width) nan) dy))

-- whether a part lies in the span that starts at column g: it is no NaN, and its left end is not right of its right one
abbrev pub Narrow : Reach → ℕ → Type 0
Narrow p g = (lt p.right p.left ≡ false) × (le (column_at g) p.left ≡ true) × (le p.right (add binary32 (column_at g) span_width) ≡ true)
