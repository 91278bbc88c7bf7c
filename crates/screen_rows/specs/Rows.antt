-- Where a screen tile lies, and what its rows show of colours. Definitions only.
use Rattle.std.specs.Prelude.{◌≡◌, Bool, true, cond, ◌&&◌, List, [], ℕ, ◌+◌, ◌*◌, ◌/◌, ◌%◌, ◌<◌, eqb, get_or, replicate, Float}
use Rattle.lists.specs.Grid.{mapi}
use Rattle.sides.specs.Tile.{tile_width, tile_height}
use Rattle.colours.specs.Colour.{pack_of}

-- ---- where a tile lies. The screen's pixel p is in column p % width and row p / width

-- whether p lies in the tile in column tx and row ty of tiles
abbrev pub in_tile : ℕ → ℕ → ℕ → ℕ → Bool
in_tile width tx ty p = eqb (p % width / tile_width) tx && eqb (p / width / tile_height) ty

-- which of its tile's pixels p is, 16 to a row
abbrev pub place_of : ℕ → ℕ → ℕ
place_of width p = tile_width * (p / width % tile_height) + p % width % tile_width

-- the first pixel of row y of the tile
abbrev pub row_at : ℕ → ℕ → ℕ → ℕ → ℕ
row_at width tx ty y = width * (tile_height * ty + y) + tile_width * tx

-- the pixels with the tile's put in: `new` gives what stands at p then
unfoldable pub put_tile : (ℕ → ℕ → ℕ) → ℕ → ℕ → ℕ → List ℕ → List ℕ
put_tile new width tx ty pixels = mapi (λ p old. cond (in_tile width tx ty p) (new p old) old) pixels

-- what the pixel p shows, packed, of colours by the tile's pixel, and of a list of them
abbrev pub packed : (ℕ → List Float) → ℕ → ℕ → ℕ → ℕ
packed colour width p old = pack_of (colour (place_of width p))

abbrev pub from_list : List (List Float) → ℕ → ℕ → ℕ → ℕ
from_list rgba width p old = packed (λ k. get_or rgba k []) width p old

-- one word in each pixel
abbrev pub one_word : ℕ → ℕ → ℕ → ℕ
one_word word p old = word

-- what the row from `first` on gets, where its words are told by their columns: what the functions of a row tell each other, no promise leans on it
abbrev pub GivesAt : (ℕ → ℕ → Type 0) → ℕ → (ℕ → ℕ → ℕ) → Type 0
GivesAt gives first new = (x word old : ℕ) → x < tile_width → gives x word → word ≡ new (first + x) old

-- one word stands for all pixels of a row, from the first on: what the functions of a row tell each other, no promise leans on it
abbrev pub OneWord : List (List Float) → ℕ → Type 0
OneWord rgba first = (x : ℕ) → x < tile_width → pack_of (get_or rgba (first + x) []) ≡ pack_of (get_or rgba first [])

-- a flag for each row, all true: each row is flat (`meant` of colours, specs/Layer.antt). What the functions of a tile tell each other, no promise leans on it
unfoldable pub all_flat : List Bool
all_flat = replicate tile_height true
