-- `walk::choose::row` meets its contract. A signed local holds bits, and `to_z-of_z` reads the number back. Assumes nothing.
use mir.Facts.{to_z-of_z}
use mir.Syntax.{w32}
use Rattle.walk.specs.Num.{row_of}
use Rattle.walk.proofs.choose.row.Goals as goal

pub returns : goal.returns
unfolding row_of
returns c = cc (to_z-of_z {w = w32} {z = c.to_i32.result} (record { sfits = c.to_i32.type_inv }))
