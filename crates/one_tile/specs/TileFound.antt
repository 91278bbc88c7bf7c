-- The tile of a line that may be counted so; or a line to be walked. Definitions only.
use Rattle.std.specs.Prelude.{Option, Some, None}
use Rattle.panel.specs.declared.kinds.TileNo.{TileNo}

abbrev pub One : Type 0
One = Option TileNo

pattern abbrev pub In : TileNo → One
In a = Some a

pattern abbrev pub Other : One
Other = None
