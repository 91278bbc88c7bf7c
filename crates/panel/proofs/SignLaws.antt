-- The range of i32, as a test and as the logic has it. Assumes nothing.
use mathlib.Core.Path.{◌≡◌}
use mathlib.Core.Bool.{true}
use Prim.Native.Nat.{◌<◌, ◌^◌}
use native.Mathlib.Omega.{arith}
use lib.Dec.{leb}
use lib.IntN.{ℤ, pos, negsuc}
use lib.Signed.{mag}
use mir.Syntax.{w32}
use mir.Val.{SFits}
use borrow.Author.Tests.{leb-true, le-leb}
use Rattle.panel.specs.Signed.{in_i32}
use Rattle.panel.proofs.BoolLaws.{both}

-- what the test says is that the number fits
pub in_fits : (z : ℤ) → in_i32 z ≡ true → SFits w32 z
in_fits (pos n) e = let h = both true (leb n 2147483647) e in record { sfits = omega (arith, leb-true n 2147483647 h.1) }
in_fits (negsuc n) e = let h = both (leb n 2147483647) true e in record { sfits = omega (arith, leb-true n 2147483647 h.0) }

pub mag_in : (z : ℤ) → mag z < 2 ^ 31 → in_i32 z ≡ true
mag_in (pos n) h = rw (le-leb n 2147483647 (omega arith))
mag_in (negsuc n) h = rw (le-leb n 2147483647 (omega arith))
