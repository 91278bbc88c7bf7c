-- `float32::abs` meets its contract: the highest bit of a pattern is the sign. Assumes nothing.
use mathlib.Core.Path.{sym, ap, ◌∙◌, ◌≡◌}
use lib.Dec.{T}
use lib.Ieee.{Float, nan, binary32, fits}
use Rattle.float32.specs.Meaning.{abs_of}
use Rattle.float32.proofs.Tests.{yes, is_nan_lem, no_nan}
use Rattle.float32.proofs.Fields.{abs_bits, no_nan_bits, abs_no_nan}
use Rattle.float32.proofs.abs.Goals as goal
use Rattle.float32.proofs.abs.Goals.{Start}

held : (c : Start) → T (fits binary32 c.args.x)
held c = yes c.well_formed.0.1

at_nan : (x : Float) → x ≡ nan → x ≡ abs_of x
unfolding abs_of
at_nan x e = e ∙ ap abs_of (sym e)

pub float_to_bits-result : goal.float_to_bits-result
float_to_bits-result c = no_nan c.args.x c.if-x.false

pub float_from_bits-result : goal.float_from_bits-result
float_from_bits-result c =
    let x = c.args.x in
    no_nan_bits _ (abs_of x) (abs_bits x (held (goal.at.float_from_bits-result c).Start)) (abs_no_nan x (no_nan x c.if-x.false))

pub returns-then-x : goal.returns-then-x
returns-then-x c = at_nan c.args.x (is_nan_lem c.args.x c.if-x.true)

pub returns-else-x : goal.returns-else-x
returns-else-x c = abs_bits c.args.x (held (goal.at.returns-else-x c).Start)
