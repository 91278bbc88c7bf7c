-- What fill and fine say of one pixel, read off their answer and what they leave. Definitions only.
use Rattle.std.specs.Prelude.{cond, List, [], ◌∷◌, ℕ, ◌+◌, ◌/◌, ◌%◌, ◌≤◌, eqb, get_or, Float}
use Rattle.std.specs.Float.{nan}
use Rattle.coverage.specs.Fill.{Filled}
use Rattle.screen_rows.specs.Rows.{row_at}
use Rattle.fine.specs.Fine.{Shown}
use Rattle.pixel.specs.Answers.{Paper, answered, refused_by}

-- ---- fill. An answer on paper that has only its number is done; one that has an item too is a refusal
abbrev pub by_answer : List ℕ → Float → Paper Float
by_answer [] a = answered a
by_answer (n ∷ []) a = answered a
by_answer (n ∷ item ∷ more) a = refused_by n

-- fill's pixel k
abbrev pub filled_at : Filled → ℕ → Paper Float
filled_at f k = by_answer f.answer (get_or f.area k nan)

-- ---- fine

-- the screen's pixel in this column and row of screen tile t, cols tiles to a row of them
abbrev pub screen_place : ℕ → ℕ → ℕ → ℕ → ℕ → ℕ
screen_place width cols t column row = row_at width (t % cols) (t / cols) row + column

-- fine's pixel p of tile t, where t isn't past the tile refused: the refusal's number where t is that tile, else what stands there
abbrev pub by_tile : List ℕ → ℕ → ℕ → Paper ℕ
by_tile [] t px = answered px
by_tile (n ∷ []) t px = answered px
by_tile (n ∷ item ∷ more) t px = cond (eqb item t) (refused_by n) (answered px)

abbrev pub shown_at : Shown → ℕ → ℕ → Paper ℕ
shown_at s t p = by_tile s.answer t (get_or s.pixels p 0)

-- fine came to tile t: no tile before it was refused
abbrev pub CameTo : List ℕ → ℕ → Type 0
CameTo [] t = Unit {0}
CameTo (n ∷ []) t = Unit {0}
CameTo (n ∷ item ∷ more) t = t ≤ item
