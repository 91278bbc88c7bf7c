use mathlib.Core.Path.{◌≡◌}
use lib.ListN.{length}
use Rattle.sides.specs.Tile.{tile_size}
use Rattle.screen_rows.proofs.Flats.{Started}
use Rattle.screen_rows.proofs.start_rows.Given as goal

abbrev pub invariant-loop-y : goal.invariant-loop-y
invariant-loop-y l = (length l.rgba ≡ tile_size) × Started l.rgba l.px l.y
