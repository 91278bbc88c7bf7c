-- `spot::spot_of` meets its contract: what passes the tests lies within one tile (`Spots.antt`). Assumes nothing.
use Rattle.std.proofs.Common.{◌≡◌, true, sym, ◌∙◌}
use Rattle.spot.specs.Tests.{held_of}
use Rattle.spot.proofs.Spots.{held_real, spot_met}
use Rattle.spot.proofs.spot_of.Goals as goal
use Rattle.spot.proofs.spot_of.Goals.{Else-not-held}

-- the tests have passed
passed : (c : Else-not-held) → held_of c.shifted-tx.result c.shifted-ty.result
    c.stretch_of.result c.stretch_of-2.result ≡ true
passed c = sym c.held.ensures ∙ c.if-not-held.false

pub tile_by-requires : goal.tile_by-requires
tile_by-requires c =
    let r = held_real _ _ _ _ (passed c) in
    (c.requires, r.0, r.1)

pub returns : goal.returns
returns c =
    let a = c.scale-s0.ensures in
    let z = c.scale-s1.ensures in
    let tx = c.shifted-tx.ensures in
    let ty = c.shifted-ty.ensures in
    let g = c.stretch_of.ensures in
    let h = c.stretch_of-2.ensures in
    spot_met c.args.p0 c.args.p1 c.args.b c.requires (rw (g, h, tx, ty, a, z) at (passed (goal.at.returns c).Else-not-held)) c.tile_by.result (rw (tx, ty, a) at c.tile_by.ensures)
