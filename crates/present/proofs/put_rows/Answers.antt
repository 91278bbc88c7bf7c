-- `present::put_rows` meets its contract. The loop's invariant: what the rows left would store from here is what all of them store.
-- Assumes nothing.
use Prim.Native.Nat.{ℕ, ◌+◌, ◌*◌, ◌-◌}
use mathlib.Core.Path.{◌≡◌, ap, ◌∙◌}
use native.Mathlib.Omega.{arith}
use lib.ListN.{length, take, drop, length-take}
use lib.Seq.{sets}
use Rattle.present.specs.Pixels.{row_bytes, rows_of}
use Rattle.present.proofs.RowLaws.{row_there, row_room, rows_turn, rows_done}
use Rattle.present.proofs.put_rows.Goals as goal

pub loop-y-init : goal.loop-y-init
loop-y-init c =
    let a = c.args in
    let all : a.height - 0 ≡ a.height = omega arith in
    ap (λ (k : ℕ). rows_of a.order a.pixels.now a.screen a.width a.stride k 0 a.out.now) all

pub overflow_mul-from : goal.overflow_mul-from
overflow_mul-from c =
    let a = c.args in
    omega (
      arith,
      row_there (length a.pixels.now) a.screen a.width a.height a.stride (length a.out.now) c.requires
          c.loop-y.y c.loop-y-test.true,
    )

pub overflow_add-to : goal.overflow_add-to
overflow_add-to c =
    let a = c.args in
    omega (
      arith,
      row_there (length a.pixels.now) a.screen a.width a.height a.stride (length a.out.now) c.requires
          c.loop-y.y c.loop-y-test.true,
    )

pub overflow_mul-at : goal.overflow_mul-at
overflow_mul-at c =
    let a = c.args in
    omega (
      arith,
      row_room (length a.pixels.now) a.screen a.width a.height a.stride (length a.out.now) c.requires
          c.loop-y.y c.loop-y-test.true,
    )

pub offset_bounds-pixels-from : goal.offset_bounds-pixels-from
offset_bounds-pixels-from c =
    let a = c.args in
    omega (
      arith,
      row_there (length a.pixels.now) a.screen a.width a.height a.stride (length a.out.now) c.requires
          c.loop-y.y c.loop-y-test.true,
    )

pub slice_bounds-row-count : goal.slice_bounds-row-count
slice_bounds-row-count c = omega arith

pub put_row-requires : goal.put_row-requires
put_row-requires c =
    let a = c.args in
    let l = c.loop-y in
    let from = l.y * a.screen in
    omega (
      arith,
      length-take (from + a.width - from) (drop from a.pixels.now),
      l.auto.out,
      row_room (length a.pixels.now) a.screen a.width a.height a.stride (length a.out.now) c.requires l.y
          c.loop-y-test.true,
    )

pub loop-y-preserved : goal.loop-y-preserved
loop-y-preserved c =
    let a = c.args in
    let l = c.loop-y in
    let from = l.y * a.screen in
    let wide : from + a.width - from ≡ a.width = omega arith in
    let r = c.put_row in
    let stored = r.ensures ∙ ap (λ (k : ℕ). sets l.out (l.y * a.stride) (row_bytes a.order (take k (drop from a.pixels.now)))) wide in
    rows_turn a.order a.pixels.now a.screen a.width a.stride a.height l.y l.out r.new.out _ c.loop-y-test.true stored l.invariant

pub returns : goal.returns
returns c =
    let a = c.args in
    let l = c.loop-y in
    rows_done a.order a.pixels.now a.screen a.width a.stride a.height l.y l.out _ c.loop-y-test.false l.invariant
