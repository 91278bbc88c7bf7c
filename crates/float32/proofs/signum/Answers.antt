-- `float32::signum` meets its contract: the highest bit of the pattern is the sign. Assumes nothing.
use mathlib.Core.Path.{◌≡◌, sym, ap, ◌∙◌}
use mathlib.Core.Bool.{Bool, true, false}
use lib.Dec.{T, leb}
use lib.Ieee.{Float, nan, binary32, fits, of_bits, neg, to_bits, ne}
use borrow.Author.Tests.{lt-leb, le-leb}
use Rattle.float32.specs.Meaning.{signum_of, unit}
use Rattle.float32.proofs.Tests.{yes, is_nan_lem, no_nan}
use Rattle.float32.proofs.Fields.{sign_bit, signum_is}
use Rattle.float32.proofs.signum.Goals as goal
use Rattle.float32.proofs.signum.Goals.{Start}

held : (c : Start) → T (fits binary32 c.args.x)
held c = yes c.well_formed.0.1

at_nan : (x : Float) → x ≡ nan → x ≡ signum_of x
unfolding signum_of
at_nan x e = e ∙ ap signum_of (sym e)

by_bit : (x : Float) (s : Bool) → T (fits binary32 x) → ne x x ≡ false → leb 2147483648 (to_bits binary32 x) ≡ s → unit s ≡ signum_of x
by_bit x s h n e = sym (signum_is x (no_nan x n) ∙ ap unit (sign_bit x h (no_nan x n) ∙ e))

pub float_to_bits-x : goal.float_to_bits-x
float_to_bits-x c = no_nan c.args.x c.if-no_number.false

pub returns-then-no_number : goal.returns-then-no_number
returns-then-no_number c = at_nan c.args.x (is_nan_lem c.args.x c.if-no_number.true)

pub returns-then-x-lt2147483648 : goal.returns-then-x-lt2147483648
unfolding of_bits
returns-then-x-lt2147483648 c =
    let x = c.args.x in
    by_bit x false (held (goal.at.returns-then-x-lt2147483648 c).Start) c.if-no_number.false (lt-leb 2147483648 (to_bits binary32 x) c.if-x-lt2147483648.true)

pub returns-else-x-lt2147483648 : goal.returns-else-x-lt2147483648
unfolding of_bits neg
returns-else-x-lt2147483648 c =
    let x = c.args.x in
    by_bit x true (held (goal.at.returns-else-x-lt2147483648 c).Start) c.if-no_number.false (le-leb 2147483648 (to_bits binary32 x) c.if-x-lt2147483648.false)
