-- A conjunction taken apart. Its other laws are mathlib's. Assumes nothing.
use mathlib.Core.Path.{◌≡◌, refl}
use mathlib.Core.Bool.{Bool, true, false, ◌&&◌}
use mathlib.Core.Logic.{◌⊎◌, inl, inr}
use Prim.Native.Nat.{ℕ}
use native.Mathlib.Omega.{arith}

pub both : (a b : Bool) → a && b ≡ true → (a ≡ true) × (b ≡ true)
both true b e = (refl, e)
both false b e = let z : ◌≡◌ {A = ℕ} 0 1 = cc in absurd (omega arith)

-- where it fails, one of the two does, and then the second where the first holds
pub one_false : (a b : Bool) → a && b ≡ false → (a ≡ false) ⊎ (b ≡ false)
one_false true b e = inr e
one_false false b e = inl refl

pub second_false : (a b : Bool) → a ≡ true → a && b ≡ false → b ≡ false
second_false true b h e = e
second_false false b h e = let z : ◌≡◌ {A = ℕ} 0 1 = cc in absurd (omega arith)
