-- `setup::start` meets its contract: what is picked beside is a number and no zero, so one comparison tells the smaller. Assumes nothing.
use Prim.Native.Nat.{ℕ, ◌≤◌}
use native.Mathlib.Omega.{arith}
use mathlib.Core.Path.{◌≡◌, refl, sym, ◌∙◌}
use mathlib.Core.Bool.{Bool, true, false, not, cond}
use lib.Dec.{T, lit≤}
use lib.Ieee.{Float, binary32, lt, fits, is_nan, of_bits}
use lib.Ieee.Bits.{of_bits-fits}
use lib.Ieee.Fits.{mul-fits}
use Rattle.float32.specs.Meaning.{min_of}
use Rattle.float32.proofs.Alike.{IsZero}
use Rattle.float32.proofs.MinMax.{min_first, min_last}
use Rattle.util.specs.Constants.{one_minus_ulp}
use Rattle.walk.specs.Setup.{b_of}
use Rattle.setup.proofs.start.Goals as goal

some : (n : ℕ) → n ≡ 0 → 1 ≤ n → ⊥
some n e l = omega arith

no_zero : IsZero one_minus_ulp → ⊥
unfolding of_bits
no_zero e = some _ e (lit≤ tt)

number : T (not (is_nan one_minus_ulp))
unfolding of_bits is_nan
number = tt

capped : (x : Float) → T (fits binary32 x) → cond (lt x one_minus_ulp) x one_minus_ulp ≡ min_of x one_minus_ulp
capped x f = go (lt x one_minus_ulp) refl
  where
    go : (t : Bool) → lt x one_minus_ulp ≡ t → cond t x one_minus_ulp ≡ min_of x one_minus_ulp
    go true l = sym (min_first x one_minus_ulp l)
    go false l = sym (min_last x one_minus_ulp f (of_bits-fits binary32 0x3f7f_ffff) number no_zero l)

pub returns : goal.returns
unfolding b_of
returns c = c.pick.ensures ∙ capped _ (mul-fits binary32 _ _)
