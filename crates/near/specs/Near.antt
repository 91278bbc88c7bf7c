-- The paths that can put something on a screen tile: those whose box has its row, and reaches into the blocks of columns that it lies in. Only
-- proofs lean on this: no promise of a public call does. Definitions only.
use Rattle.std.specs.Prelude.{◌≡◌, Bool, cond, ◌&&◌, List, [], ◌∷◌, ℕ, ◌+◌, ◌-◌, ◌%◌, ◌≤◌, ◌<◌, leb, ltb, replicate, take}
use Rattle.std.specs.Int.{from_bool}
use Rattle.lists.specs.Sums.{from}
use Rattle.panel.specs.Limits.{most_paths, edge_most}
use Rattle.panel.specs.Paths.{path_at, path_count}
use Rattle.panel.specs.declared.kinds.Path.{Path}
use Rattle.near.specs.declared.Listing.{Listing}
use Rattle.near.specs.declared.Listings.{Listings}

-- ---- the numbers kept of a list, in its order

abbrev pub one_if : Bool → ℕ
one_if b = from_bool b

abbrev pub kept : (ℕ → Bool) → List ℕ → List ℕ
kept f [] = []
kept f (p ∷ ps) = cond (f p) (p ∷ kept f ps) (kept f ps)

-- ---- by row and by column

-- whether a box has row y, and one of the columns from a on and below b
abbrev pub has_row : Path → ℕ → Bool
has_row p y = leb p.y0 y && ltb y p.y1

abbrev pub has_columns : Path → ℕ → ℕ → Bool
has_columns p a b = ltb p.x0 b && ltb a p.x1

-- the first column of x's block, so many columns to a block
abbrev pub block_start : ℕ → ℕ → ℕ
block_start size x = x - x % size

unfoldable pub row_paths : List ℕ → ℕ → List ℕ
row_paths ws y = kept (λ p. has_row (path_at ws p) y) (from 0 (path_count ws))

unfoldable pub column_paths : List ℕ → ℕ → ℕ → List ℕ → List ℕ
column_paths ws a b ps = kept (λ p. has_columns (path_at ws p) a b) ps

abbrev pub block_paths : List ℕ → ℕ → ℕ → List ℕ → List ℕ
block_paths ws size x ps = column_paths ws (block_start size x) (block_start size x + size) ps

-- columns to a wide block, and to a narrow one
abbrev pub wide_columns : ℕ
wide_columns = 64

abbrev pub narrow_columns : ℕ
narrow_columns = 8

-- ---- what the functions tell each other

-- the paths lent have passed their checks: there are not too many, no box ends left of its start, and none has a row from the limit on
pub record Boxed (ws : List ℕ) : Type 0 where
  pub few : path_count ws ≤ most_paths
  pub across : (p : ℕ) → p < path_count ws → (path_at ws p).x0 ≤ (path_at ws p).x1
  pub low : (p : ℕ) → p < path_count ws → (path_at ws p).y1 ≤ edge_most

-- a list of no path yet
abbrev pub no_listing : Listing
no_listing = record { len = 0; numbers = replicate most_paths 0 }

-- the paths of a list
abbrev pub listed : Listing → List ℕ
listed l = take l.len l.numbers

-- it has these paths, and no more than there is room for
pub record Lists (l : Listing) (ps : List ℕ) : Type 0 where
  pub few : l.len ≤ most_paths
  pub same : listed l ≡ ps

-- the three lists are right for column x of row y
pub record Listed (ws : List ℕ) (x y : ℕ) (h : Listings) : Type 0 where
  pub row : Lists h.row (row_paths ws y)
  pub wide : Lists h.wide (block_paths ws wide_columns x (row_paths ws y))
  pub narrow : Lists h.narrow (block_paths ws narrow_columns x (block_paths ws wide_columns x (row_paths ws y)))

-- the paths near a tile: those of the narrow block
abbrev pub near_of : Listings → List ℕ
near_of h = listed h.narrow

abbrev pub few_near : Listings → Type 0
few_near h = h.narrow.len ≤ most_paths
