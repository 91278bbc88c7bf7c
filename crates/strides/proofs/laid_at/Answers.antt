-- `strides::laid_at` meets its contract. Assumes nothing.
use Rattle.std.proofs.Common.{◌≡◌, ◌+◌, ◌^◌, ◌<◌, T, ℤ, sym, refl, ap, ◌∙◌, subst, arith, w32}
use lib.Ieee.{Float, binary32, in_float, of_int}
use mir.Facts.{to_z_pos}
use Rattle.float32.specs.Inner.{Within}
use Rattle.exact.specs.Whole.{floor_z}
use Rattle.exact.proofs.Limits.{far}
use Rattle.whole.specs.Bits.{bits_of}
use Rattle.walk.specs.Num.{float}
use Rattle.walk.proofs.Counts.{in_float_lem}
use Rattle.strides.specs.Strides.{sum_at, held_of}
use Rattle.strides.proofs.Laws.{Grid, grid, row_few, less_back}
use Rattle.strides.proofs.Lays.{held_within, room, laid}
use Rattle.strides.proofs.laid_at.Goals as goal
use Rattle.strides.proofs.laid_at.Goals.{After-floor_bits-z, Start}

-- a step's number is small
few : (s : Start) → s.args.i < 2 ^ 31
few s = omega (arith, s.requires.3, far.steps)

pub overflow_cast-f : goal.overflow_cast-f
overflow_cast-f c = record { sfits = few c }

pub int_to_float-f : goal.int_to_float-f
int_to_float-f c =
    subst (λ (n : ℤ). T (in_float binary32 n)) (sym (to_z_pos w32 (few (goal.at.int_to_float-f c).Start))) (in_float_lem c.args.i (omega (arith, c.requires.3, far.steps)))

pub floor_bits-z-requires : goal.floor_bits-z-requires
floor_bits-z-requires c = subst Within (sym c.held.ensures) (held_within _)

-- the line's numbers
the_grid : (s : Start) → Grid s.args.p s.args.b s.requires.0 s.requires.2 s.args.g
the_grid s = grid s.args.p s.args.b s.requires.0 s.requires.2 s.args.g s.requires.4

pub overflow_add-y : goal.overflow_add-y
overflow_add-y c =
    omega (arith, (the_grid (goal.at.overflow_add-y c).Start).top_is, row_few c.args.p c.args.b c.requires.0 c.requires.2, c.requires.3, far.steps)

pub word_at-requires : goal.word_at-requires
word_at-requires c =
    room c.args.p c.args.b c.requires.0 c.requires.2 c.args.g (the_grid (goal.at.word_at-requires c).Start) c.requires.1
    _ _ _ refl _ _ c.pick-col.ensures c.pick-row.ensures

-- z, by the step's number as it is
z_is : (c : After-floor_bits-z) → c.args.i < 2 ^ 31 →
    c.floor_bits-z.result ≡ bits_of (floor_z (held_of (sum_at c.args.p (float c.args.i))))
z_is c l =
    c.floor_bits-z.ensures
    ∙ ap (λ (v : Float). bits_of (floor_z v)) c.held.ensures
    ∙ ap (λ (n : ℤ). bits_of (floor_z (held_of (sum_at c.args.p (of_int binary32 n))))) (to_z_pos w32 l)

pub returns : goal.returns
returns c =
    let g = the_grid (goal.at.returns c).Start in
    let y_fits : c.args.g.top + c.args.i < 2 ^ 32 = omega (arith, g.top_is, row_few c.args.p c.args.b c.requires.0 c.requires.2, c.requires.3, far.steps) in
    laid c.args.p c.args.b c.requires.0 c.requires.2 c.args.g g c.requires.1
    _ _ _ refl c.args.i c.requires.3 _ (z_is (goal.at.returns c).After-floor_bits-z (few (goal.at.returns c).Start))
    (less_back _ _ (omega arith) (omega arith)) (less_back (c.args.g.top + c.args.i) c.floor_bits-z.result y_fits (omega arith))
    c.args.last _ _ _ _ c.pick-col.ensures c.pick-row.ensures refl c.word_at.ensures
