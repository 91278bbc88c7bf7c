-- `colours::byte` meets its contract: the bits of two sums of what the picks leave say the channel's byte (`rounded`, ByShift). Assumes nothing.
use mathlib.Core.Path.{◌≡◌, sym, ap, ◌∙◌, subst}
use mathlib.Core.Bool.{cond}
use Prim.Native.Nat.{ℕ, ◌<◌}
use lib.Dec.{T}
use lib.Ieee.{Float, binary32, of_bits, lt, mul, fits}
use Rattle.float32.proofs.Tests.{yes}
use Rattle.util.specs.Constants.{zero, one, byte_most}
use Rattle.rounded.proofs.ByShift.{Lifted, kept_by}
use Rattle.colours.specs.Colour.{byte_many, byte_of}
use Rattle.colours.proofs.Bytes.{byte_small, lifted}
use Rattle.colours.proofs.byte.Goals as goal
use Rattle.colours.proofs.byte.Goals.{After-pick-x}

-- a and b are the picks
made : (v a b : Float) → T (fits binary32 v) → a ≡ cond (lt zero v) v zero → b ≡ cond (lt a one) a one → Lifted (byte_of v) (mul binary32 b byte_most)
made v a b h e f = lifted v (mul binary32 b byte_most) h (ap (λ (z : Float). mul binary32 z byte_most) (f ∙ ap (λ (z : Float). cond (lt z one) z one) e ∙ kept_by v h))

sums : (c : After-pick-x) → Lifted (byte_of c.args.v) (mul binary32 c.pick-x.result byte_most)
unfolding of_bits
sums c =
    made c.args.v c.pick-low.result c.pick-x.result (yes c.well_formed.0.1) c.pick-low.ensures c.pick-x.ensures

pub float_to_bits-result : goal.float_to_bits-result
unfolding of_bits
float_to_bits-result c = (sums c).real

pub overflow_sub-result : goal.overflow_sub-result
unfolding of_bits
overflow_sub-result c = (sums c).least

pub returns : goal.returns
unfolding of_bits
returns c = let e = (sums c).is in (e, subst (λ (n : ℕ). n < byte_many) (sym e) (byte_small c.args.v))
