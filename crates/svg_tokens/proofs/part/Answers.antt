use native.Mathlib.Omega.{arith}
use Rattle.std.proofs.lemmas.List.{take_rest}
use Rattle.svg_tokens.proofs.Parts.{point_in, run_bounds, padded_few, pointed, plain}
use Rattle.svg_tokens.proofs.part.Goals as goal

pub slice_bounds-digits-count : goal.slice_bounds-digits-count
slice_bounds-digits-count c = point_in c.args.s.now _ c.point_at.ensures c.if-point_at.true

pub slice_bounds-digits-start : goal.slice_bounds-digits-start
slice_bounds-digits-start c = point_in c.args.s.now _ c.point_at.ensures c.if-point_at.true

pub padded-requires : goal.padded-requires
padded-requires c = let h = run_bounds _ _ _ (omega arith) c.digits-p.ensures in (h.1, h.0)

pub overflow_add-result : goal.overflow_add-result
overflow_add-result c =
    let h = run_bounds _ _ _ (omega arith) c.digits-p.ensures in
    let g = padded_few _ _ _ h.0 c.padded.ensures in
    omega (arith, g, c.requires.0)

pub overflow_add-result-then-point_at-2 : goal.overflow_add-result-then-point_at-2
overflow_add-result-then-point_at-2 c = let h = run_bounds _ _ _ (omega arith) c.digits-p.ensures in omega (arith, h.1)

pub returns-then-point_at : goal.returns-then-point_at
returns-then-point_at c = pointed c.args.s.now _ _ _ _ _ _ _ c.point_at.ensures c.if-point_at.true (take_rest c.args.s.now 1) c.digits-p.ensures c.padded.ensures

pub returns-else-point_at : goal.returns-else-point_at
returns-else-point_at c = plain _ _ _ _ _ c.point_at.ensures c.if-point_at.false
