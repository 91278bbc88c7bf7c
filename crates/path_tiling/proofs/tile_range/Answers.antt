-- `path_tiling::tile_range` meets its contract. The loop's invariant, `Going`: what is left from reference k on, on the segments and tags as they are
-- now, is what the range comes to. The measure is what is left of the references. Assumes nothing.
use native.Mathlib.Nat.{le_refl}
use native.Mathlib.Omega.{arith}
use mathlib.Core.Path.{refl, ◌∙◌}
use lib.ListN.{length}
use Rattle.std.proofs.lemmas.Result.{err_from_is_err_and}
use Rattle.looks.proofs.OneLaws.{long_self}
use Rattle.path_tiling.proofs.RangeLaws.{slots_fit, slots_tagged}
use Rattle.path_tiling.proofs.RunLaws.{on, halted, done}
use Rattle.path_tiling.proofs.tile_range.Goals as goal

pub loop-k-init : goal.loop-k-init
loop-k-init c = record { low = le_refl _; high = c.requires.forward; long = long_self _; left = refl }

pub tile_next-requires : goal.tile_next-requires
tile_next-requires c =
    let p = c.requires in
    let g = c.loop-k.invariant in
    let n = length c.args.segments.now in
    record {
      some = c.loop-k-test.true;
      there = p.there;
      lines = p.lines;
      paths = p.paths;
      room = omega (arith, c.slots_of-slots.ensures, slots_fit n, g.long.segments);
      tagged = omega (arith, c.slots_of-slots.ensures, slots_tagged n, p.tagged, g.long.tags);
    }

pub shape_of-segments-in_err-k : goal.shape_of-segments-in_err-k
shape_of-segments-in_err-k c =
    c.segments-1.given ∙ c.loop-k.invariant.long.segments

pub shape_of-tags-in_err-k : goal.shape_of-tags-in_err-k
shape_of-tags-in_err-k c = c.tags-1.given ∙ c.loop-k.invariant.long.tags

pub returns-in_err-k : goal.returns-in_err-k
returns-in_err-k c =
    let r = err_from_is_err_and c.from_residual.result c.from_residual.ensures.1 in
    rw (r.1, r.2) (halted _ _ _ _ _ _ _ c.loop-k.invariant _ _ _ (rw c.in_err-k.was at c.tile_next.ensures) refl c.slots_of-slots.ensures)

pub loop-k-smaller : goal.loop-k-smaller
loop-k-smaller c =
    let m = rw c.in_ok-k.was at c.tile_next.ensures in
    omega (arith, m.less refl, c.loop-k-test.true)

pub loop-k-preserved : goal.loop-k-preserved
loop-k-preserved c =
    on _ _ _ _ _ _ _ c.loop-k.invariant _ (rw c.in_ok-k.was at c.tile_next.ensures) refl

pub shape_of-segments : goal.shape_of-segments
shape_of-segments c = c.loop-k.invariant.long.segments

pub shape_of-tags : goal.shape_of-tags
shape_of-tags c = c.loop-k.invariant.long.tags

pub returns : goal.returns
returns c = done _ _ _ _ _ _ _ c.loop-k.invariant c.loop-k-test.false c.slots_of-slots.ensures
