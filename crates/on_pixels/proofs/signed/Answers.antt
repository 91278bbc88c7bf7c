-- `on_pixels::signed` meets its contract.
-- Assumes nothing.
use mathlib.Core.Path.{◌≡◌, refl, sym, ap, subst, ◌∙◌}
use Prim.Native.Nat.{ℕ, zero, suc, ◌-◌, ◌^◌, ◌≤◌}
use borrow.Author.Tests.{le-ltb, lt-ltb}
use lib.IntN.{ℤ, pos, negsuc, ◌-ℤ◌}
use native.Mathlib.Nat.{zero-add}
use mir.Syntax.{w32}
use mir.Val.{SFits, to_z, of_z}
use mir.ValLaws.{to_z_pos, to_z-of_z}
use Rattle.commands.specs.Pixel.{signed_of}
use native.Mathlib.Omega.{arith}
use Rattle.on_pixels.proofs.signed.Goals as goal

minus : (k : ℕ) → negsuc 0 -ℤ pos k ≡ negsuc k
minus zero = refl
minus (suc k) = ap (λ (n : ℕ). negsuc (suc n)) (zero-add k)

lower : (w : ℕ) → 2 ^ 31 ≤ w → negsuc 0 -ℤ to_z w32 (4294967295 - w) ≡ negsuc (4294967295 - w)
lower w h = ap (λ (z : ℤ). negsuc 0 -ℤ z) (to_z_pos w32 (4294967295 - w) (omega arith)) ∙ minus (4294967295 - w)

fits : (w : ℕ) → 2 ^ 31 ≤ w → SFits w32 (negsuc (4294967295 - w))
fits w h = record { sfits = omega arith }

pub overflow_sub-result-else-w-lt2147483648 : goal.overflow_sub-result-else-w-lt2147483648
overflow_sub-result-else-w-lt2147483648 c = subst (SFits w32) (sym (lower c.args.w (omega arith))) (fits c.args.w (omega arith))

pub returns-then-w-lt2147483648 : goal.returns-then-w-lt2147483648
unfolding signed_of
returns-then-w-lt2147483648 c = to_z_pos w32 c.args.w c.if-w-lt2147483648.true ∙ sym (simp (lt-ltb c.args.w (2 ^ 31) c.if-w-lt2147483648.true))

pub returns-else-w-lt2147483648 : goal.returns-else-w-lt2147483648
unfolding signed_of
returns-else-w-lt2147483648 c = ap (λ (z : ℤ). to_z w32 (of_z w32 z)) (lower c.args.w (omega arith)) ∙ to_z-of_z w32 (negsuc (4294967295 - c.args.w))
    (fits c.args.w (omega arith)) ∙ sym (simp (le-ltb c.args.w (2 ^ 31) c.if-w-lt2147483648.false))
