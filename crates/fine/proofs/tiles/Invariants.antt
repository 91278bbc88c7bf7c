use mathlib.Core.Path.{◌≡◌}
use lib.ListN.{length}
use Rattle.sides.specs.Tile.{tile_size}
use Rattle.fine.specs.Fine.{tiles_of}
use Rattle.fine.proofs.tiles.Given as goal

abbrev pub invariant-loop-t : goal.invariant-loop-t
invariant-loop-t l = (length l.pixels ≡ length l.initial.pixels) ×
    (tiles_of l.words l.segments l.width l.cols l.t l.to l.pixels ≡ tiles_of l.words l.segments l.width l.cols l.from l.to l.initial.pixels) × (length l.rgba ≡ tile_size)
