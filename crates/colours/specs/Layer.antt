-- A colour over a tile's pixels, row by row: what the functions of src/layer.rt tell each other; no promise leans on it. Definitions only.
use Rattle.std.specs.Prelude.{◌≡◌, Bool, false, cond, List, [], ◌∷◌, ℕ, ◌+◌, ◌/◌, ◌<◌, get_or, Float}
use Rattle.std.specs.Float.{nan, binary32}
use Rattle.std.specs.Float.Ieee.{add, sub, mul}
use Rattle.float32.specs.Meaning.{sign_of}
use Rattle.util.specs.Constants.{one}
use Rattle.sides.specs.Tile.{tile_width, row_start}
use Rattle.lists.specs.Grid.{mapi}
use Rattle.colours.specs.Colour.{over_of}

-- `over_of` in two steps: what the colour fg adds where it covers the part ai, and the pixel px after that
unfoldable pub share_of : List Float → Float → List Float
share_of fg ai = mul binary32 (get_or fg 0 nan) ai ∷ mul binary32 (get_or fg 1 nan) ai ∷ mul binary32 (get_or fg 2 nan) ai ∷ mul binary32 (get_or fg 3 nan) ai ∷ []

unfoldable pub mix_of : List Float → List Float → List Float
mix_of more px =
    let keep = sub binary32 one (get_or more 3 nan) in
    add binary32 (mul binary32 (get_or px 0 nan) keep) (get_or more 0 nan)
    ∷ add binary32 (mul binary32 (get_or px 1 nan) keep) (get_or more 1 nan)
    ∷ add binary32 (mul binary32 (get_or px 2 nan) keep) (get_or more 2 nan)
    ∷ add binary32 (mul binary32 (get_or px 3 nan) keep) (get_or more 3 nan)
    ∷ []

-- the same added to each pixel, and to each by its area
abbrev pub mixed : List Float → ℕ → List Float → List Float
mixed more k px = mix_of more px

abbrev pub each : List Float → List Float → ℕ → List Float → List Float
each area fg k px = over_of fg (get_or area k nan) px

-- the colour over `one`, whatever stood there
abbrev pub onto : List Float → List Float → List Float → ℕ → List Float → List Float
onto area fg one k px = over_of fg (get_or area k nan) one

-- Of a flat row the first pixel stands for all 16, and the others hold what they hold. A tile's colours as they are meant, with a flag for each row: the
-- list has them so where no row is flat
abbrev pub spread : List Bool → List (List Float) → ℕ → List Float → List Float
spread flat rgba k px = cond (get_or flat (k / tile_width) false) (get_or rgba (row_start (k / tile_width)) []) px

unfoldable pub meant : List Bool → List (List Float) → List (List Float)
meant flat rgba = mapi (spread flat rgba) rgba

-- no area has a minus sign, so that `==` tells two areas apart: what a fill ends as is a size, and the others are 0 and 1
abbrev pub NoMinus : List Float → Type 0
NoMinus area = (k : ℕ) → sign_of (get_or area k nan) ≡ false

-- a row's areas, from i on, are all the same
abbrev pub Level : List Float → ℕ → Type 0
Level area i = (x : ℕ) → x < tile_width → get_or area (i + x) nan ≡ get_or area i nan
