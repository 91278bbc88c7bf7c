-- Where a piece comes from. Definitions only.
use Rattle.std.specs.Prelude.{◌≡◌, ◌⊎◌, List, [], ◌∷◌, ℕ}
use Rattle.panel.specs.declared.segments.Segment.{Segment}
use Rattle.theorems.specs.Drawn.{Drawn, walk_of}
use Rattle.picture.specs.Picture.{line_pieces}

-- x stands in the list
abbrev pub Among : {A : Type 0} → A → List A → Type 0
Among x [] = ⊥
Among x (y ∷ ys) = (x ≡ y) ⊎ Among x ys

-- a piece of path p in the screen tile in column x and row y is one of a line that is in the list and of path p
pub record OwnPiece (paths : List ℕ) (p x y : ℕ) (lines : List Drawn) (s : Segment) : Type 0 where
  pub line : Drawn
  pub there : Among line lines
  pub own : line.path ≡ p
  pub piece : Among s (line_pieces x y (walk_of paths line))
