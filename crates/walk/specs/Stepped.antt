-- A step's tile by its number, its column and its row, with its z; or a refusal (10). Definitions only.
use Rattle.std.specs.Prelude.{Option, Some, None, ℕ, Float}
use Rattle.panel.specs.declared.kinds.TileNo.{TileNo}

abbrev pub Step : Type 0
Step = Option (TileNo × ℕ × ℕ × Float)

pattern abbrev pub Tile : TileNo → ℕ → ℕ → Float → Step
Tile a b c d = Some (a, b, c, d)

pattern abbrev pub Refused : Step
Refused = None
