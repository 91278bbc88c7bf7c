use mathlib.Core.Path.{◌≡◌}
use lib.ListN.{length}
use Rattle.lists.specs.Grid.{mapi}
use Rattle.colours.specs.Colour.{composite_of}
use Rattle.colours.specs.Layer.{meant}
use Rattle.screen_rows.specs.Rows.{from_list}
use Rattle.screen_rows.proofs.Places.{rows}
use Rattle.last_colour.proofs.put_last.Given as goal

abbrev pub invariant-loop-y : goal.invariant-loop-y
invariant-loop-y l = (length l.pixels ≡ length l.initial.pixels) × (l.pixels ≡ mapi (rows (from_list (composite_of l.area l.fg (meant l.flat l.rgba)) l.width) l.width l.tx l.ty l.y) l.initial.pixels)
