-- `present::present` meets its contract: at each `return` the tests that led there say which case of `present_of` holds. Assumes nothing.
use Prim.Native.Nat.{◌≤◌, ◌-◌}
use mathlib.Core.Path.{sym, ◌∙◌}
use native.Mathlib.Omega.{arith}
use native.Mathlib.Nat.{mul-le-mul}
use lib.ListN.{length}
use Rattle.panel.specs.Limits.{side_most}
use Rattle.panel.proofs.BoolLaws.{both}
use Rattle.ppm_write.specs.Write.{side_ok}
use Rattle.ppm_write.proofs.Answers.{sides_of, side_least, side_most_lem}
use Rattle.present.proofs.RowLaws.{whole_told, rows_fit, size_refused, whole_refused, room_refused, presented}
use Rattle.present.proofs.present.Goals as goal

pub returns-then-not-side_ok : goal.returns-then-not-side_ok
returns-then-not-side_ok c = size_refused _ _ _ _ _ _ _ (sides_of c.side_ok.ensures c.side_ok-2.ensures c.if-not-side_ok.true)

pub whole-requires : goal.whole-requires
whole-requires c =
    let a = c.args in
    let s = sides_of c.side_ok.ensures c.side_ok-2.ensures c.if-not-side_ok.false in
    side_least a.width (both (side_ok a.width) (side_ok a.height) s).0

pub returns-then-not-whole : goal.returns-then-not-whole
returns-then-not-whole c =
    whole_refused _ _ _ _ _ _ _ (sides_of c.side_ok.ensures c.side_ok-2.ensures c.if-not-side_ok.false)
    (sym c.whole.ensures ∙ c.if-not-whole.true)

pub overflow_sub-size : goal.overflow_sub-size
overflow_sub-size c =
    let a = c.args in
    let s = sides_of c.side_ok.ensures c.side_ok-2.ensures c.if-not-side_ok.false in
    omega (arith, side_least a.height (both (side_ok a.width) (side_ok a.height) s).1)

pub overflow_mul-size : goal.overflow_mul-size
overflow_mul-size c =
    let a = c.args in
    let s = sides_of c.side_ok.ensures c.side_ok-2.ensures c.if-not-side_ok.false in
    let b = both (side_ok a.width) (side_ok a.height) s in
    let high : a.height - 1 ≤ side_most = omega (arith, side_most_lem a.height b.1) in
    let wide : a.stride ≤ 4294967295 = omega arith in
    omega (arith, mul-le-mul wide high)

pub overflow_mul-size-2 : goal.overflow_mul-size-2
overflow_mul-size-2 c = omega arith

pub overflow_add-size : goal.overflow_add-size
overflow_add-size c =
    let a = c.args in
    let s = sides_of c.side_ok.ensures c.side_ok-2.ensures c.if-not-side_ok.false in
    let b = both (side_ok a.width) (side_ok a.height) s in
    let high : a.height - 1 ≤ side_most = omega (arith, side_most_lem a.height b.1) in
    let wide : a.stride ≤ 4294967295 = omega arith in
    omega (arith, mul-le-mul wide high, side_most_lem a.width b.0)

pub returns-then-out-size : goal.returns-then-out-size
returns-then-out-size c =
    room_refused _ _ _ _ _ _ _ (sides_of c.side_ok.ensures c.side_ok-2.ensures c.if-not-side_ok.false)
    (sym c.whole.ensures ∙ c.if-not-whole.false) c.if-out-size.true

pub put_rows-requires : goal.put_rows-requires
put_rows-requires c =
    let a = c.args in
    let s = sides_of c.side_ok.ensures c.side_ok-2.ensures c.if-not-side_ok.false in
    let least = side_least a.width (both (side_ok a.width) (side_ok a.height) s).0 in
    let w = sym c.whole.ensures ∙ c.if-not-whole.false in
    let told = whole_told (length a.pixels.now) a.screen a.width a.height a.stride w in
    rows_fit (length a.pixels.now) a.screen a.width a.height a.stride (length a.out.now) (omega (arith, least, told.0)) w c.if-out-size.false

pub returns : goal.returns
returns c =
    presented _ _ _ _ _ _ _ (sides_of c.side_ok.ensures
    c.side_ok-2.ensures c.if-not-side_ok.false)
    (sym c.whole.ensures ∙ c.if-not-whole.false)
    c.if-out-size.false _ c.put_rows.ensures
