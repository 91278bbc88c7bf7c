-- `strides::word_at` meets its contract. Assumes nothing.
use Rattle.std.proofs.Common.{arith}
use Rattle.strides.proofs.word_at.Goals as goal

pub word_of-requires : goal.word_of-requires
word_of-requires c =
    let r = c.requires in
    omega (arith, c.pick.ensures, r.base_few, r.rows_few, r.right_few)

pub returns : goal.returns
returns c = cc
