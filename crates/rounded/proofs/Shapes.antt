-- What a rounded fraction can be: one that isn't negative is finite with the sign plus, or the upper infinity; and its size is that of the fraction without its sign.
-- Assumes nothing.
use mathlib.Core.Path.{◌≡◌, refl, sym, ap, ◌∙◌}
use mathlib.Core.Bool.{Bool, true, false, cond}
use Prim.Native.Nat.{ℕ, zero, suc, ◌+◌, ◌*◌, ◌^◌}
use lib.Dec.{ltb}
use lib.IntN.{ℤ, pos}
use lib.Ieee.{Float, nan, inf, fin, Format, binary32, prec, emax, low, round, units, odd}
use Rattle.float32.specs.Meaning.{abs_of, signed}
use Rattle.float32.proofs.Fields.{abs_signed}
use Rattle.exact.proofs.Exact.{round_signed}

signed_again : (s : Bool) (x : Float) → signed false (signed s x) ≡ signed false x
unfolding signed
signed_again s nan = refl
signed_again s (inf t) = refl
signed_again s (fin t m e) = refl

pub round_abs : (s : Bool) (a c : ℕ) → abs_of (round binary32 s a c) ≡ round binary32 false a c
round_abs s a c =
    abs_signed (round binary32 s a c) ∙ ap (signed false) (round_signed s a c) ∙ signed_again s (round binary32 false a c) ∙ sym (round_signed false a c)

-- a rounded fraction that is not negative is an infinity or a finite value with the sign clear
module _ (P : Float → Type 0) (i : P (inf false)) (g : (m : ℕ) (e : ℤ) → P (fin false m e)) where
  shape_odd : (d q k l : ℕ) → P (odd d false q k l)
  unfolding odd
  shape_odd d zero k l = g zero (pos zero)
  shape_odd d (suc q) k l = g _ _

  shape_units : (f : Format) (q k : ℕ) → P (units f false q k)
  unfolding units
  shape_units f q k = go (ltb (q * 2 ^ k) (2 ^ (low f + suc (emax f))))
    where
      go : (b : Bool) → P (cond b (odd (suc (prec f)) false q k (low f)) (inf false))
      go true = shape_odd (suc (prec f)) q k (low f)
      go false = i

  pub shape : (f : Format) (a b : ℕ) → P (round f false a b)
  unfolding round
  shape f a b = shape_units f _ _
