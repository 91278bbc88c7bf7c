-- Pixels that are alike: until its first FILL a tile has one colour and one area, so that its commands run on one pixel for all. And what is left to
-- do, over any areas and colours. Only proofs lean on this: no promise of a public call does. Definitions only.
use Rattle.std.specs.Prelude.{Bool, false, List, ℕ, eqb, get_or, replicate, Float}
use Rattle.std.specs.Float.{nan}
use Rattle.lists.specs.Grid.{mapi}
use Rattle.sides.specs.Tile.{tile_size}
use Rattle.reader.specs.Look.{look_at}
use Rattle.reader.specs.Looked.{Look}
use Rattle.reader.specs.Looked.{Word, Past}
use Rattle.commands.specs.Numbers.{end_no}
use Rattle.commands.specs.Moves.{Trace, end_of}
use Rattle.commands.specs.Pixel.{point, point_of, Ran, ran}

-- a tile's areas, and its colours, all the same. Shut, so that a goal does not write out all of them
unfoldable pub same_area : Float → List Float
same_area a = replicate tile_size a

unfoldable pub same_colour : List Float → List (List Float)
same_colour c = replicate tile_size c

-- these commands over the colours there are, each pixel's area a at first
unfoldable pub run_from : List Float → Trace → Float → List (List Float) → Ran
run_from segments t a rgba = ran (end_of t) (mapi (λ k colour. (point_of segments k t (point a colour)).colour) rgba)

-- these commands over the areas and colours there are
abbrev pub left : List Float → Trace → List Float → List (List Float) → Ran
left segments t area rgba = ran (end_of t) (mapi (λ k colour. (point_of segments k t (point (get_or area k nan) colour)).colour) rgba)

-- whether END stands at a place
abbrev pub is_end : Look → Bool
is_end (Word w) = eqb w end_no
is_end Past = false

abbrev pub ends_here : List ℕ → ℕ → Bool
ends_here words at = is_end (look_at words at)
