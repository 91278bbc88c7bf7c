-- `of_word` of a float meets its contract. Assumes nothing.
use borrow.Author.Tests.{lt-ltb, le-ltb}
use mathlib.Core.Path.{◌≡◌, refl, sym, ◌∙◌}
use mathlib.Core.Bool.{true, false≢true}
use Prim.Native.Nat.{◌%◌}
use lib.Ieee.{Float, nan, inf, fin, binary32, of_bits, is_nan}
use lib.Ieee.Bits.{nan_bits_is, nan_bits_above}
use Rattle.float32.proofs.Tests.{no}
use Rattle.hexlist.proofs.words.F32Element.of_word.Goals as goal

is_nan_lem : (x : Float) → is_nan x ≡ true → nan ≡ x
unfolding is_nan
is_nan_lem nan h = refl
is_nan_lem (inf s) h = absurd (false≢true h)
is_nan_lem (fin s m e) h = absurd (false≢true h)

none : of_bits binary32 2143289344 ≡ nan
unfolding of_bits
none = refl

pub float_from_bits-result : goal.float_from_bits-result
float_from_bits-result c = no (nan_bits_above binary32 c.args.w ∙ le-ltb 2139095040 (c.args.w % 2147483648) c.if-w-gt2139095040.false)

pub returns-then-w-gt2139095040 : goal.returns-then-w-gt2139095040
returns-then-w-gt2139095040 c =
    let w = c.args.w in
    none ∙ is_nan_lem (of_bits binary32 w) (sym (nan_bits_is binary32 w) ∙ nan_bits_above binary32 w ∙ lt-ltb 2139095040 (w % 2147483648) c.if-w-gt2139095040.true)
