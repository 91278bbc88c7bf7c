-- A line that marks a tile row as its ends say: once where it crosses the row's top edge, and else not. Definitions only.
use Rattle.std.specs.Prelude.{◌≡◌, not, ◌&&◌, List, ℕ, pos, ◌+ℤ◌, Float}
use Rattle.theorems.specs.Drawn.{drawn_at, walk_of}
use Rattle.picture.specs.Picture.{line_winding}
use Rattle.outline_theorems.specs.Crossings.{start_of, end_of, one_if, at_or_above}

-- 1 where line l goes down past the height h, and where it goes up
abbrev pub goes_down : List Float → Float → ℕ → ℕ
goes_down fs h l = one_if (at_or_above h (start_of fs l) && not (at_or_above h (end_of fs l)))

abbrev pub goes_up : List Float → Float → ℕ → ℕ
goes_up fs h l = one_if (not (at_or_above h (start_of fs l)) && at_or_above h (end_of fs l))

-- what line l adds to the winding in row y up to column x, by its marks, is what its ends say of the height h: 1 upward, -1 downward, else 0
abbrev pub Honest : (nos : List ℕ) (fs : List Float) (paths : List ℕ) (x y : ℕ) (h : Float) → ℕ → Type 0
Honest nos fs paths x y h l = line_winding x y (walk_of paths (drawn_at nos fs l)) +ℤ pos (goes_down fs h l) ≡ pos (goes_up fs h l)
