-- `tile_list::weigh::weigh_pair` meets its contract. Assumes nothing.
use Rattle.tile_list.proofs.WeighLaws.{weigh_is}
use Rattle.tile_list.proofs.weigh.weigh_pair.Goals as goal

pub returns : goal.returns
returns c =
    let a = c.args in
    weigh_is a.room a.pair a.w c.fits-ok.result c.pair_size-size.result
    c.jump_count-jump.result c.left_at-here.result c.slots_fit-within.result
    c.fits-ok.ensures c.pair_size-size.ensures c.jump_count-jump.ensures c.left_at-here.ensures c.slots_fit-within.ensures
