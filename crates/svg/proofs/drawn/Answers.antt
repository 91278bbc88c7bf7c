use mathlib.Core.Path.{◌≡◌, sym}
use native.Mathlib.Omega.{arith}
use lib.Seq.{length-take-le}
use Rattle.std.proofs.lemmas.Result.{err_from_is_err_and}
use Rattle.panel.specs.declared.refusals.Refusal.TheVariants.{NoRoom}
use Rattle.svg_outline.specs.Sum.{Lines, Over}
use Rattle.svg.proofs.Answers.{named, over_drawn, count_is, lines_fit, lines_drawn}
use Rattle.svg.proofs.drawn.Goals as goal

pub count-requires : goal.count-requires
count-requires c = (c.requires.0, omega (arith, c.requires.1))

pub returns-in_err-n : goal.returns-in_err-n
returns-in_err-n c =
    let a = c.args in
    let p = err_from_is_err_and c.from_residual.result c.from_residual.ensures.1 in
    let n : c.count.result ≡ Over = grind arith in
    let e : c.in_err-n.field-0.0 ≡ NoRoom = grind arith in
    rw (p.1, p.2, e) (over_drawn a.text.now a.depth a.path a.paths.now a.coords.now c.count.result c.count.ensures n)

pub write-requires : goal.write-requires
write-requires c =
    let a = c.args in
    let l : c.count.result ≡ Lines c.in_ok-n.n = grind arith in
    lines_fit a.text.now a.depth a.path a.paths.now a.coords.now c.count.result c.count.ensures _ l c.requires.1

pub slice_bounds-fill-end : goal.slice_bounds-fill-end
slice_bounds-fill-end c =
    let a = c.args in
    let l : c.count.result ≡ Lines c.in_ok-n.n = grind arith in
    (count_is a.text.now a.depth a.path a.paths.now a.coords.now c.count.result c.count.ensures _ l).1

pub slice_bounds-fill-end-2 : goal.slice_bounds-fill-end-2
slice_bounds-fill-end-2 c =
    let a = c.args in
    let l : c.count.result ≡ Lines c.in_ok-n.n = grind arith in
    sym (length-take-le c.in_ok-n.n a.paths.now (count_is a.text.now a.depth a.path a.paths.now a.coords.now c.count.result c.count.ensures _ l).1)

pub returns : goal.returns
returns c =
    let a = c.args in
    let l : c.count.result ≡ Lines c.in_ok-n.n = grind arith in
    let h = (count_is a.text.now a.depth a.path a.paths.now a.coords.now c.count.result c.count.ensures _ l).1 in
    lines_drawn a.text.now a.depth a.path a.paths.now a.coords.now c.count.result c.count.ensures _ l _ _
    (named a.paths.now c.fill.new.self c.in_ok-n.n a.path h (c.fill.ensures.after (λ y e. e))) c.write.ensures
