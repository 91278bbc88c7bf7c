-- What the paths put on a screen tile, apart from any list: FILL and COLOR, or SOLID and COLOR, or nothing. docs/RULES.md, "Command lists".
-- Definitions only.
use Rattle.std.specs.Prelude.{Bool, cond, not, ◌&&◌, List, [], ◌∷◌, ◌++◌, ℕ, ◌+◌, ◌*◌, ◌/◌, ◌%◌, eqb, leb, ltb, ℤ, pos, negsuc, nat_abs, get_or}
use Rattle.lists.specs.Sums.{from}
pub use Rattle.panel.specs.Paints.{colour_at, rule_at}
use Rattle.panel.specs.Paths.{path_at, path_count, tile_of}
use Rattle.panel.specs.Slots.{not32}
use Rattle.panel.specs.declared.kinds.Path.{Path}
use Rattle.commands.specs.Pixel.{even_odd_of}
use Rattle.commands.specs.declared.steps.Act.{Act}
use Rattle.commands.specs.declared.steps.Act.TheVariants as Does
use Rattle.pairs.specs.declared.Pair.{Pair}
use Rattle.pairs.specs.declared.Pair.TheVariants.{Fill, Solid}
use Rattle.pairs.specs.Put.{Put}
use Rattle.pairs.specs.Put.{Nothing, Puts}

-- what is lent to be read: the paths in painting order, a paint for each, and the tiles' backdrops, stored words and tally
pub record Tables : Type 0 where
  pub paths : List ℕ
  pub paints : List ℕ
  pub backdrops : List ℤ
  pub stored : List ℕ
  pub tally : List ℕ

abbrev pub tables : List ℕ → List ℕ → List ℤ → List ℕ → List ℕ → Tables
tables ps cs bs ss ks = record { paths = ps; paints = cs; backdrops = bs; stored = ss; tally = ks }

-- whether the tile in column x and row y is one of the path's box
abbrev pub in_box : Path → ℕ → ℕ → Bool
in_box p x y = leb p.x0 x && ltb x p.x1 && leb p.y0 y && ltb y p.y1

-- whether a backdrop covers its tile: for non-zero, where it isn't 0; for even-odd, where it is odd, as a whole number
abbrev pub covers : Bool → ℤ → Bool
covers even_odd b = cond even_odd (eqb (nat_abs b % 2) 1) (not (eqb (nat_abs b) 0))

-- a signed number's 32 bits
abbrev pub bits_of : ℤ → ℕ
bits_of (pos n) = n
bits_of (negsuc n) = not32 n

-- on a tile with this tally, stored index and backdrop: its slots are filled from the first on, or all of it is covered
unfoldable pub on_tile : (colour rule count stored : ℕ) → ℤ → List Pair
on_tile colour rule count stored b =
    cond (ltb 0 count)
    (Fill count rule (not32 stored) (bits_of b) colour ∷ [])
    (cond (covers (even_odd_of rule) b) (Solid colour ∷ []) [])

-- by path p, on its tile number t
abbrev pub by_path : Tables → ℕ → ℕ → List Pair
by_path s p t = on_tile (colour_at s.paints p) (rule_at s.paints p) (get_or s.tally t 0) (get_or s.stored t 0) (get_or s.backdrops t (pos 0))

-- by path p, on the screen tile in column x and row y
unfoldable pub on_path : Tables → ℕ → ℕ → ℕ → List Pair
on_path s x y p = cond (in_box (path_at s.paths p) x y) (by_path s p (tile_of (path_at s.paths p) x y)) []

-- by these paths, one after another
abbrev pub pairs_of : Tables → ℕ → ℕ → List ℕ → List Pair
pairs_of s x y [] = []
pairs_of s x y (p ∷ ps) = on_path s x y p ++ pairs_of s x y ps

-- by all paths in painting order, on screen tile t, cols to a row
unfoldable pub tile_pairs : Tables → ℕ → ℕ → List Pair
tile_pairs s cols t = pairs_of s (t % cols) (t / cols) (from 0 (path_count s.paths))

-- ---- the same in the commands' terms

-- a FILL's first operand: the number of segments, and the rule's lowest bit
abbrev pub fill_rule : ℕ → ℕ → ℕ
fill_rule count rule = 2 * count + rule % 2

-- the act that covers, and the word of the COLOR after it
abbrev pub cover_of : Pair → Act
cover_of (Fill count rule first backdrop colour) = Does.Fill (fill_rule count rule) first backdrop
cover_of (Solid colour) = Does.Solid

abbrev pub colour_of : Pair → ℕ
colour_of (Fill count rule first backdrop colour) = colour
colour_of (Solid colour) = colour

-- what a path puts on a tile in code, as a list
abbrev pub put_list : Put → List Pair
put_list Nothing = []
put_list (Puts p) = p ∷ []
