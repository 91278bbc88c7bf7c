use Prim.Native.Nat.{◌+◌}
use native.Mathlib.Omega.{arith}
use lib.ListN.{length-drop}
use Rattle.std.proofs.lemmas.List.{take_rest}
use Rattle.svg_tokens.proofs.Parts.{sign_few, run_bounds, read_is}
use Rattle.svg_tokens.proofs.read.Goals as goal

pub slice_bounds-digits-count : goal.slice_bounds-digits-count
slice_bounds-digits-count c = let h = sign_few _ _ c.signs-k.ensures in omega (arith, h)

pub slice_bounds-digits-start : goal.slice_bounds-digits-start
slice_bounds-digits-start c = let h = sign_few _ _ c.signs-k.ensures in omega (arith, h)

pub overflow_add-past : goal.overflow_add-past
overflow_add-past c =
    let h = run_bounds _ _ _ (omega arith) c.digits-whole.ensures in
    let g = sign_few _ _ c.signs-k.ensures in
    omega (arith, h.1, g)

pub slice_bounds-part-count : goal.slice_bounds-part-count
slice_bounds-part-count c =
    let s = c.args.s.now in
    let h = run_bounds _ _ _ (omega arith) (rw take_rest at c.digits-whole.ensures) in
    let g = sign_few _ _ c.signs-k.ensures in
    omega (arith, h.2, g, length-drop c.signs-k.result s, c.requires)

pub slice_bounds-part-start : goal.slice_bounds-part-start
slice_bounds-part-start c = slice_bounds-part-count c

pub part-requires : goal.part-requires
part-requires c =
    let h = run_bounds _ _ _ (omega arith) c.digits-whole.ensures in
    let g = sign_few _ _ c.signs-k.ensures in
    (h.0, omega (arith, h.1, g))

pub returns : goal.returns
returns c =
    let s = c.args.s.now in
    read_is s _ _ _ _ _ c.signs-k.ensures (take_rest s c.signs-k.result) c.digits-whole.ensures
    (take_rest s (c.signs-k.result + c.digits-whole.result.taken)) c.part.ensures
