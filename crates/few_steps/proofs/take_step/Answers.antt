-- `few_steps::take_step` meets its contract. Up to its writes it is the check of a step in whole numbers.
-- Assumes nothing.
use mathlib.Core.Bool.{true, not, cond}
use mathlib.Core.Path.{◌≡◌, refl, ap, ◌∙◌, subst}
use native.Mathlib.Omega.{arith}
use Prim.Native.Nat.{ℕ, ◌+◌, ◌<◌}
use lib.ListN.{length, get_or}
use lib.IntN.{pos, ◌+ℤ◌}
use Rattle.panel.proofs.SignLaws.{mag_in}
use Rattle.panel.specs.Signed.{in_i32}
use Rattle.strides.specs.Strides.{Struck, StrideMet}
use Rattle.strides.specs.Stride.{Stride}
use Rattle.acts.specs.Acts.{delta_of}
use Rattle.acts.proofs.Signs.{told}
use Rattle.walk.proofs.Tiles.{tile_in_lem}
use Rattle.walk.specs.Step.{last_z_word}
use Rattle.hits.proofs.StepLaws.{hit_on, next_below}
use Rattle.few_steps.proofs.Fews.{in_range, stays, takes}
use Rattle.few_steps.proofs.take_step.Goals as goal
use Rattle.few_steps.proofs.take_step.Goals.{After-leaves, In_ok-tile}

pub stride_at-requires : goal.stride_at-requires
stride_at-requires c = (c.requires.0.boxed, c.requires.2, in_range c.args.i c.requires.1, c.requires.3, c.requires.4)

pub returns-in_err-tile : goal.returns-in_err-tile
returns-in_err-tile c = rw c.from_residual.ensures (refl, refl, refl, refl)

-- the step is on its tile
fell : (c : In_ok-tile) →
    Struck c.args.pace c.args.path c.args.i c.in_ok-tile.tile c.in_ok-tile.marks c.in_ok-tile.z
fell c = subst (λ (r : Stride). StrideMet c.args.pace c.args.path c.args.i r) c.in_ok-tile.was c.stride_at.ensures

-- which is lent
below : (c : In_ok-tile) → c.in_ok-tile.tile < length c.args.counts.now
below c = omega (arith, (tile_in_lem c.args.pace c.args.path c.args.i _ _ _ _ (fell c).falls).1, c.requires.0.within)

-- and so is the tile that is marked, or the step's own
next : (c : In_ok-tile) →
    cond c.in_ok-tile.marks (c.in_ok-tile.tile + 1) c.in_ok-tile.tile < length c.args.backs.now
next c =
    let f = fell c in
    omega (arith, next_below c.args.pace c.args.path c.args.i _ _ _ _ f.falls (last_z_word c.args.pace c.args.i) _ f.crosses, c.requires.0.within, c.requires.0.paired)

pub bounds-counts-own : goal.bounds-counts-own
bounds-counts-own c = below (goal.at.bounds-counts-own c).In_ok-tile

pub returns-then-counts-own-ge-MOST_COUNT : goal.returns-then-counts-own-ge-MOST_COUNT
returns-then-counts-own-ge-MOST_COUNT c = (refl, refl, refl, refl)

pub offset_bounds-backs-q : goal.offset_bounds-backs-q
offset_bounds-backs-q c = omega (arith, next (goal.at.offset_bounds-backs-q c).In_ok-tile, c.next_if-q.ensures, c.requires.0.few, c.requires.0.paired)

pub slice_copy_out-leaves : goal.slice_copy_out-leaves
slice_copy_out-leaves c = omega (arith, next (goal.at.slice_copy_out-leaves c).In_ok-tile, c.next_if-q.ensures)

pub returns-then-leaves : goal.returns-then-leaves
returns-then-leaves c = (refl, refl, refl, refl)

-- what `leaves` says of the backdrop itself
said : (c : After-leaves) →
    c.leaves.result ≡ not (in_i32 (get_or c.args.backs.now (cond c.in_ok-tile.marks (c.in_ok-tile.tile + 1) c.in_ok-tile.tile) (pos 0) +ℤ delta_of c.args.up))
said c =
    told (get_or c.args.backs.now c.next_if-q.result (pos 0)) (delta_of c.args.up) c.leaves.result c.leaves-arg-1.given c.leaves.ensures
    ∙ ap (λ (q : ℕ). not (in_i32 (get_or c.args.backs.now q (pos 0) +ℤ delta_of c.args.up))) c.next_if-q.ensures

pub word_of-word-requires : goal.word_of-word-requires
word_of-word-requires c = omega (arith, below (goal.at.word_of-word-requires c).In_ok-tile, c.requires.0.few)

pub visit-requires : goal.visit-requires
visit-requires c = (below (goal.at.visit-requires c).In_ok-tile, c.requires.5, c.if-counts-own-ge-MOST_COUNT.false, in_range c.args.i c.requires.1, c.requires.6)

pub mark_if-requires : goal.mark_if-requires
mark_if-requires c = (next (goal.at.mark_if-requires c).In_ok-tile, stays (delta_of c.args.up) c.args.backs.now c.in_ok-tile.tile c.in_ok-tile.marks c.leaves.result (said (goal.at.mark_if-requires c).After-leaves) c.if-leaves.false)

pub returns : goal.returns
returns c =
    let f = fell (goal.at.returns c).In_ok-tile in
    takes c.args.pace c.args.path c.args.up c.args.line.0 c.args.i c.args.at c.in_ok-tile.z c.in_ok-tile.tile c.in_ok-tile.marks
    c.word_of-word.result c.named_at-named.result c.packed_at-packed.result c.args.notes.now _ c.args.backs.now _ c.args.counts.now _ c.args.refs.now _
    f.next
    (hit_on c.args.pace c.args.path c.args.i _ _ _ _ f.falls (last_z_word c.args.pace c.args.i) c.in_ok-tile.marks refl f.crosses)
    c.if-counts-own-ge-MOST_COUNT.false
    (stays (delta_of c.args.up) c.args.backs.now c.in_ok-tile.tile c.in_ok-tile.marks c.leaves.result (said (goal.at.returns c).After-leaves) c.if-leaves.false)
    c.word_of-word.ensures c.named_at-named.ensures c.packed_at-packed.ensures c.keep.ensures
    (below (goal.at.returns c).In_ok-tile) (next (goal.at.returns c).In_ok-tile)
    (subst (λ (q : ℕ). in_i32 (get_or c.args.backs.now q (pos 0)) ≡ true) c.next_if-q.ensures (mag_in (get_or c.args.backs.now c.next_if-q.result (pos 0)) c.leaves-arg-1.given))
    c.requires.5 c.visit.ensures.0 c.visit.ensures.1 c.mark_if.ensures
