-- The tiles that the paths take, and command words that suffice for the lists of a screen. docs/RULES.md, "Sizes" and "Command lists". Definitions only.
use Rattle.std.specs.Prelude.{cond, List, ℕ, zero, suc, ◌+◌, ◌-◌, ◌*◌, ◌/◌, min, eqb}
use Rattle.panel.specs.Paths.{path_at, path_count, end_of}
use Rattle.panel.specs.declared.kinds.Path.{Path}
use Rattle.commands.specs.Numbers.{fill_words, color_words, jump_words, tile_words, list_start}

-- where the last path ends; no path takes none
unfoldable pub tiles_of : List ℕ → ℕ
tiles_of ws = cond (eqb (path_count ws) 0) 0 (end_of (path_at ws (path_count ws - 1)))

-- how many of the columns, or rows, from a up to b lie below a screen's
abbrev pub on_screen : (a b most : ℕ) → ℕ
on_screen a b most = min b most - a

-- the tiles of a path's box that lie on the screen: it puts at most one pair of commands on each
abbrev pub screen_pairs : Path → ℕ → ℕ → ℕ
screen_pairs p cols rows = on_screen p.x0 p.x1 cols * on_screen p.y0 p.y1 rows

-- those of the first n paths
unfoldable pub pairs_to : List ℕ → ℕ → ℕ → ℕ → ℕ
pairs_to ws cols rows zero = 0
pairs_to ws cols rows (suc n) = pairs_to ws cols rows n + screen_pairs (path_at ws n) cols rows

-- a region holds so many pairs, of the longest too, and a JUMP
abbrev pub region_pairs : ℕ
region_pairs = (tile_words - list_start - jump_words) / (fill_words + color_words)

-- a region for each screen tile, and one more for every so many pairs
unfoldable pub words_of : List ℕ → ℕ → ℕ → ℕ
words_of ws cols rows = tile_words * (cols * rows + pairs_to ws cols rows (path_count ws) / region_pairs)
