-- The tile by its number, its column and its row; or a line to be looked at in another way. Definitions only.
use Rattle.std.specs.Prelude.{Option, Some, None, ℕ}
use Rattle.panel.specs.declared.kinds.TileNo.{TileNo}

abbrev pub Spot : Type 0
Spot = Option (TileNo × ℕ × ℕ)

pattern abbrev pub In : TileNo → ℕ → ℕ → Spot
In a b c = Some (a, b, c)

pattern abbrev pub Other : Spot
Other = None
