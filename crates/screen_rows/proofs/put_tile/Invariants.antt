use mathlib.Core.Path.{◌≡◌}
use lib.ListN.{length}
use Rattle.lists.specs.Grid.{mapi}
use Rattle.colours.specs.Layer.{meant}
use Rattle.screen_rows.specs.Rows.{from_list}
use Rattle.screen_rows.proofs.Places.{rows}
use Rattle.screen_rows.proofs.put_tile.Given as goal

abbrev pub invariant-loop-y : goal.invariant-loop-y
invariant-loop-y l = (length l.pixels ≡ length l.initial.pixels) × (l.pixels ≡ mapi (rows (from_list (meant l.flat l.rgba) l.width) l.width l.tx l.ty l.y) l.initial.pixels)
