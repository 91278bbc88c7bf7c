-- `screen_rows::put_words` meets its contract. The invariant: the row's pixels left of x are written. Assumes nothing.
use native.Mathlib.Omega.{arith}
use Rattle.sides.specs.Tile.{tile_width}
use Rattle.ranges.proofs.Turn.{begun_at, turned_at, ended_at}
use Rattle.screen_rows.proofs.put_words.Goals as goal

pub loop-x-init : goal.loop-x-init
loop-x-init g c = λ new h. begun_at new 0 _ _

pub loop-x-preserved : goal.loop-x-preserved
loop-x-preserved g c = λ new h.
    let l = c.loop-x in
    turned_at new 0 _ l.x _ l.pixels _ (l.invariant new h) (h l.x _ _ (omega arith) c.word.ensures)

pub returns : goal.returns
returns g c = λ new h.
    let l = c.loop-x in
    ended_at new 0 _ tile_width l.x _ _ (l.invariant new h) (omega arith)
