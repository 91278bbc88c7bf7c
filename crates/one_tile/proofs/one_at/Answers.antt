-- `one_tile::one_at` meets its contract.
-- Assumes nothing.
use Prim.Native.Nat.{◌/◌}
use lib.ListN.{length, get_or}
use Rattle.panel.specs.Limits.{most_count, most_slots}
use Rattle.panel.specs.Widths.{ref_words}
use Rattle.one_tile.proofs.Ones.{boxes, tile_lent, alone, none}
use Rattle.one_tile.proofs.one_at.Goals as goal

pub spot_at-requires : goal.spot_at-requires
spot_at-requires c =
    (boxes c.args.paths.now (length c.args.counts.now) c.requires.0, c.requires.1, c.requires.2)

pub bounds-counts-tile : goal.bounds-counts-tile
bounds-counts-tile c =
    tile_lent c.args.path_nos.now c.args.coords.now c.args.paths.now c.args.place _ _ _ c.in_ok-tile.ensures (length c.args.counts.now) c.requires.0

pub returns : goal.returns
returns c =
    let t = c.in_ok-tile.tile in
    let n = none (length c.args.refs.now / ref_words) c.args.made most_slots c.args.made most_count (get_or c.args.counts.now t.0 0) c.if-made-refs.false in
    alone c.args.path_nos.now c.args.coords.now c.args.paths.now c.args.place _ _ _ c.in_ok-tile.ensures
    c.args.made (length c.args.refs.now) c.args.counts.now c.requires.0 n.0 n.1 n.2
