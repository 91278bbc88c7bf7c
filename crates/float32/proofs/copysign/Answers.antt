-- `float32::copysign` meets its contract: the highest bit of the pattern is the sign. Assumes nothing.
use mathlib.Core.Path.{◌≡◌, refl, sym, ap, ◌∙◌}
use mathlib.Core.Bool.{Bool, true, false}
use lib.Dec.{T, leb}
use lib.Ieee.{Float, nan, inf, fin, binary32, fits, neg, to_bits, ne}
use borrow.Author.Tests.{lt-leb, le-leb}
use Rattle.float32.specs.Meaning.{abs_of, signed, sign_of, copysign_of}
use Rattle.float32.proofs.Tests.{yes, is_nan_lem, no_nan}
use Rattle.float32.proofs.Fields.{sign_bit, abs_signed}
use Rattle.float32.proofs.copysign.Goals as goal
use Rattle.float32.proofs.copysign.Goals.{Start}

held : (c : Start) → T (fits binary32 c.args.sign)
held c = yes c.well_formed.1.0.1

at_nan : (x y : Float) → y ≡ nan → abs_of x ≡ copysign_of x y
unfolding sign_of
at_nan x y e = abs_signed x ∙ ap (λ (z : Float). signed (sign_of z) x) (sym e)

negated : (x : Float) → neg (abs_of x) ≡ signed true x
unfolding neg abs_of signed
negated nan = refl
negated (inf s) = refl
negated (fin s m e) = refl

by_bit : (x y : Float) (s : Bool) → T (fits binary32 y) → ne y y ≡ false → leb 2147483648 (to_bits binary32 y) ≡ s → signed s x ≡ copysign_of x y
by_bit x y s h n e = ap (λ (t : Bool). signed t x) (sym (sign_bit y h (no_nan y n) ∙ e))

pub float_to_bits-sign : goal.float_to_bits-sign
float_to_bits-sign c = no_nan c.args.sign c.if-sign.false

pub returns-then-sign : goal.returns-then-sign
returns-then-sign c =
    let a = c.args in
    c.abs-a.ensures ∙ at_nan a.magnitude a.sign (is_nan_lem a.sign c.if-sign.true)

pub returns-then-sign-lt2147483648 : goal.returns-then-sign-lt2147483648
returns-then-sign-lt2147483648 c =
    let a = c.args in
    c.abs-a.ensures ∙ abs_signed a.magnitude ∙ by_bit a.magnitude a.sign false (held (goal.at.returns-then-sign-lt2147483648 c).Start)
    c.if-sign.false (lt-leb 2147483648 (to_bits binary32 a.sign) c.if-sign-lt2147483648.true)

pub returns-else-sign-lt2147483648 : goal.returns-else-sign-lt2147483648
returns-else-sign-lt2147483648 c =
    let a = c.args in
    ap neg c.abs-a.ensures ∙ negated a.magnitude ∙ by_bit a.magnitude a.sign true (held (goal.at.returns-else-sign-lt2147483648 c).Start)
    c.if-sign.false (le-leb 2147483648 (to_bits binary32 a.sign) c.if-sign-lt2147483648.false)
