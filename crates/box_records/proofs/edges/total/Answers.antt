-- `box_records::edges::total` meets its contract. The loop's invariant: the tiles so far and those of the paths left are all.
-- Assumes nothing.
use mathlib.Core.Path.{◌≡◌}
use Prim.Native.Nat.{◌-◌, ◌≤◌, ◌^◌}
use native.Mathlib.Nat.{zero-add}
use native.Mathlib.Omega.{arith}
use Rattle.panel.proofs.LimitLaws.{small}
use Rattle.box_records.specs.Records.{area_of_word}
use Rattle.box_records.specs.Told.{box_in}
use Rattle.box_records.proofs.BoxLaws.{area_most}
use Rattle.box_records.proofs.RowLaws.{sum_turn, sum_end}
use Rattle.box_records.proofs.edges.total.Goals as goal

pub loop-k-init : goal.loop-k-init
loop-k-init c = let all : c.args.n - 0 ≡ c.args.n = omega arith in (rw (all, zero-add), omega arith)

pub overflow_add-tiles : goal.overflow_add-tiles
overflow_add-tiles c =
    let s = c.args in
    let l = c.loop-k in
    let a : c.area-tiles.result ≤ 2 ^ 24 = rw (c.area-tiles.ensures, c.box_at.ensures) (area_most s.work.now s.m l.k 0) in
    omega (arith, small.paths)

pub loop-k-preserved : goal.loop-k-preserved
loop-k-preserved c =
    let s = c.args in
    let l = c.loop-k in
    let e : c.area-tiles.result ≡ area_of_word (box_in s.work.now s.m l.k 0) = rw (c.area-tiles.ensures, c.box_at.ensures) in
    let a = area_most s.work.now s.m l.k 0 in
    let t = sum_turn (λ j. area_of_word (box_in s.work.now s.m j 0)) s.n l.k (omega arith) in
    (omega arith, omega arith)

pub returns : goal.returns
returns c =
    let s = c.args in
    let l = c.loop-k in
    omega (arith, sum_end (λ j. area_of_word (box_in s.work.now s.m j 0)) s.n l.k (omega arith))
