use mathlib.Core.Path.{◌≡◌}
use lib.ListN.{length}
use Rattle.sides.specs.Tile.{tile_size}
use Rattle.bands.specs.Bands.{band_tiles}
use Rattle.bands.proofs.tiles.Given as goal

abbrev pub invariant-loop-k : goal.invariant-loop-k
invariant-loop-k l = (length l.pixels ≡ length l.initial.pixels) ×
    (band_tiles l.words l.segments l.width l.cols l.base l.k l.n l.pixels ≡ band_tiles l.words l.segments l.width l.cols l.base 0 l.n l.initial.pixels) × (length l.rgba ≡ tile_size)
