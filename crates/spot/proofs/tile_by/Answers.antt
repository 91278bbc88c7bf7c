-- `spot::tile_by` meets its contract: what passes is in the box, so nothing has wrapped (`InBox.antt`). Assumes nothing.
use Rattle.std.proofs.Common.{refl}
use lib.Ieee.{binary32, to_bits}
use Rattle.float32.proofs.Tests.{yes}
use Rattle.whole.specs.Bits.{zero_bits}
use Rattle.spot.specs.Tests.{At}
use Rattle.spot.proofs.InBox.{less, at_less}
use Rattle.spot.proofs.tile_by.Goals as goal
use Rattle.spot.proofs.tile_by.Goals.{Else-x-b}

-- the tile is in the box
inside : (c : Else-x-b) → At c.args.tx c.args.ty c.args.b (less (to_bits binary32 c.args.tx) zero_bits) (less (to_bits binary32 c.args.ty) zero_bits)
inside c = at_less c.args.tx c.args.ty c.args.b c.requires.0 (yes c.well_formed.0.1) (yes c.well_formed.1.0.1) _ _ refl refl c.if-x-b.false

pub tile_at-requires : goal.tile_at-requires
tile_at-requires c = (c.requires.0, (inside c).within)

pub returns : goal.returns
returns c = (c.tile_at.ensures, inside (goal.at.returns c).Else-x-b)
