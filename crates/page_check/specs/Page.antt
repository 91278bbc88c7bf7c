-- What a drawing checks of its lengths and of the screen before anything is written. docs/RULES.md, "From lines to pixels". Definitions only.
use Rattle.std.specs.Prelude.{List, [], ◌∷◌, ℕ, ◌*◌, ◌/◌, ◌%◌, eqb, leb}
use Rattle.panel.specs.Refusals.{not_whole, too_many, bad_screen}
use Rattle.panel.specs.Limits.{most_paths, most_tiles}
use Rattle.panel.specs.Widths.{path_words, paint_words}
use Rattle.panel.specs.Checks.{Check, check}
use Rattle.sides.specs.Tile.{tile_width, tile_height}

-- after what a frame checks of the lengths: so many words of paths, words of paints and tiles, the screen, and so many pixels
abbrev pub page_checks : (np na nt width cols rows pixels : ℕ) → List Check
page_checks np na nt width cols rows pixels =
    check (eqb (np % path_words) 0) not_whole
    ∷ check (eqb na (paint_words * (np / path_words))) not_whole
    ∷ check (leb (np / path_words) most_paths) too_many
    ∷ check (leb nt most_tiles) too_many
    ∷ check (leb (cols * rows) most_tiles) too_many
    ∷ check (leb (tile_width * cols) width) bad_screen
    ∷ check (leb (width * (tile_height * rows)) pixels) bad_screen
    ∷ []
