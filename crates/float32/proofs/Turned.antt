-- A signed number of 32 bits as it is read back from its bits, and -1 - z, which turns the bits of z over. Assumes nothing.
use mathlib.Core.Path.{◌≡◌, refl, sym, ap, ◌∙◌, subst}
use mathlib.Core.Bool.{true, false, true≢false}
use Prim.Native.Nat.{ℕ, suc}
use native.Mathlib.Numerals.{add-one}
use lib.IntN.{ℤ, pos, negsuc, ◌+ℤ◌, ◌-ℤ◌, +ℤ_comm, +ℤ-neg_ℤ_cancel}
use lib.Signed.{lt_z}
use mir.Syntax.{w32}
use mir.Val.{SFits, to_z, of_z}
use mir.Facts.{to_z-of_z}
use Rattle.float32.proofs.Ints.{none}

abbrev pub read : ℤ → ℤ
read z = to_z w32 (of_z w32 z)

pub back : (z : ℤ) → SFits w32 z → read z ≡ z
back z f = to_z-of_z f

pub low : (z : ℤ) → lt_z z (pos 0) ≡ true → (j : ℕ) × (z ≡ negsuc j)
low (pos n) t = absurd (none n t)
low (negsuc j) t = (j, refl)

pub plain : (z : ℤ) → lt_z z (pos 0) ≡ false → (n : ℕ) × (z ≡ pos n)
plain (pos n) t = (n, refl)
plain (negsuc j) t = absurd (true≢false t)

up_from : (j : ℕ) → negsuc 0 -ℤ negsuc j ≡ pos j
up_from j = +ℤ_comm (negsuc 0) (pos (suc j)) ∙ ap (λ (n : ℕ). pos n +ℤ negsuc 0) (sym (add-one j)) ∙ +ℤ-neg_ℤ_cancel (pos j) (pos 1)

-- of a negative number
module _ (z : ℤ) (f : SFits w32 z) (j : ℕ) (e : z ≡ negsuc j) where
  over : negsuc 0 -ℤ read z ≡ pos j
  over = ap (λ (y : ℤ). negsuc 0 -ℤ y) (back z f ∙ e) ∙ up_from j

  pub over_fits : SFits w32 (negsuc 0 -ℤ read z)
  over_fits = rw over (record { sfits = (subst (SFits w32) e f).sfits })

  pub over_is : read (negsuc 0 -ℤ read z) ≡ pos j
  over_is = to_z-of_z over_fits ∙ over
