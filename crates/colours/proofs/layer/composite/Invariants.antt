use mathlib.Core.Path.{◌≡◌}
use lib.ListN.{length}
use Rattle.sides.specs.Tile.{tile_size, row_start}
use Rattle.ranges.proofs.Turn.{Done}
use Rattle.colours.specs.Layer.{each, meant}
use Rattle.colours.proofs.layer.composite.Given as goal

abbrev pub invariant-loop-y : goal.invariant-loop-y
invariant-loop-y l =
    (length l.rgba ≡ tile_size) × Done (each l.area l.fg) 0 (row_start l.y) (meant l.initial.flat l.initial.rgba) (meant l.flat l.rgba)
