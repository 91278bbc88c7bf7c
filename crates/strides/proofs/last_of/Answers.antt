-- `strides::last_of` meets its contract. Assumes nothing.
use Rattle.std.proofs.Common.{◌≡◌, ℕ, refl, ◌∙◌, arith}
use lib.Ieee.{Float, binary32, sub}
use Rattle.exact.proofs.Limits.{far}
use Rattle.walk.proofs.Counts.{in_float_lem}
use Rattle.walk.specs.Num.{float}
use Rattle.util.specs.Constants.{one}
use Rattle.walk.specs.Step.{z_at, last_z_word}
use Rattle.walk.specs.declared.kinds.Pace.{Pace}
use Rattle.strides.specs.Last.{Last, Z, Other}
use Rattle.strides.specs.Strides.{sum_at, BitsMet, LastMet}
use Rattle.strides.proofs.Laws.{some_bits, first_last, later_last}
use Rattle.strides.proofs.last_of.Goals as goal

pub int_to_float-f : goal.int_to_float-f
int_to_float-f c = in_float_lem c.args.i (omega (arith, c.requires, far.steps))

pub overflow_sub-z : goal.overflow_sub-z
overflow_sub-z c = let b = c.in_ok-z.ensures in omega (arith, b.is, some_bits _ b.near)

pub returns-then-i-eq0 : goal.returns-then-i-eq0
returns-then-i-eq0 c =
    let b = c.in_ok-z.ensures in
    first_last c.args.p c.args.i c.pick.result c.if-i-eq0.true (some_bits _ b.near) (c.pick.ensures ∙ rw b.is refl)

-- at a later step, whatever is found
later : (p : Pace) (i : ℕ) (f : Float) → (i ≡ 0 → ⊥) → last_z_word p i ≡ z_at p.a p.b f → (r : Last) → BitsMet (sum_at p f) r → LastMet p i r
later p i f n e (Z z) b = later_last p i z f n e b.near b.is
later p i f n e Other b = tt

pub returns : goal.returns
returns c = later c.args.p c.args.i (sub binary32 (float c.args.i) one) c.if-i-eq0.false refl c.bits_near-2.result c.bits_near-2.ensures
