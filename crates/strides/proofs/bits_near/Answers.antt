-- `strides::bits_near` meets its contract. Assumes nothing.
use Rattle.strides.proofs.Laws.{near_within}
use Rattle.strides.proofs.bits_near.Goals as goal

pub floor_bits-requires : goal.floor_bits-requires
floor_bits-requires c = near_within _ _ c.near.ensures c.if-near.true

pub returns-then-near : goal.returns-then-near
returns-then-near c = record { near = near_within _ _ c.near.ensures c.if-near.true; is = c.floor_bits.ensures }
