-- A backdrop beside a word of ours.
-- Assumes nothing.
use mathlib.Core.Path.{◌≡◌, sym, ap, ◌∙◌}
use mathlib.Core.Bool.{Bool, true, false, not}
use mathlib.Core.List.{List}
use Prim.Native.Nat.{ℕ, suc, ◌+◌, ◌-◌, ◌≤◌, ◌<◌, ◌^◌, zero-le}
use native.Mathlib.Omega.{arith}
use lib.Dec.{eqb}
use lib.ListN.{length, get_or}
use lib.IntN.{ℤ, pos, negsuc, nat_abs, ◌-ℤ◌}
use lib.Signed.{mag, lt_z}
use mir.Syntax.{w32}
use mir.Val.{SFits, to_z, of_z}
use mir.Facts.{to_z-of_z}
use borrow.Author.Tests.{lt-ltb, le-ltb}
use Rattle.own_count.specs.View.{zero_back, back_of, view_of}
use Rattle.own_count.proofs.Shown.{back_at}
use Rattle.tile_check.specs.Faults.{same_back, back_fault}

pub back_high : (w : ℕ) → zero_back ≤ w → back_of w ≡ pos (w - zero_back)
unfolding back_of
back_high w h = rw (le-ltb w zero_back h)

pub back_low : (w : ℕ) → w < zero_back → back_of w ≡ negsuc (zero_back - suc w)
unfolding back_of
back_low w h = rw (lt-ltb w zero_back h)

-- a signed number that is passed to a call stands as what its bits read back
pub back_told : (z : ℤ) (w : ℕ) (r : Bool) → mag z < 2 ^ 31 → r ≡ same_back (to_z w32 (of_z w32 z)) (back_of w) → r ≡ same_back z (back_of w)
back_told z w r h e = e ∙ ap (λ (y : ℤ). same_back y (back_of w)) (to_z-of_z {w = w32} {z = z} (record { sfits = h }))

pub back_fault_lem : (backs : List ℤ) (ws : List ℕ) (t : ℕ) (r : Bool) → length backs + length backs ≤ length ws → t < length backs
    → r ≡ same_back (get_or backs t (pos 0)) (back_of (get_or ws (length backs + t) 0)) → back_fault backs (view_of (length backs) ws 0).backs t ≡ not r
back_fault_lem backs ws t r fits h e =
    ap (λ (z : ℤ). not (same_back (get_or backs t (pos 0)) z)) (back_at (length backs) ws 0 fits t h) ∙ ap not (sym e)

-- ---- a backdrop below 0, by its distance from -1; and one that isn't

below_zero : (n : ℕ) → lt_z (pos n) (pos 0) ≡ true → ⊥
below_zero n h = let q = le-ltb n 0 zero-le in let z : ◌≡◌ {A = ℕ} 0 1 = cc in omega arith

minus_one : (k : ℕ) → negsuc 0 -ℤ negsuc k ≡ pos k
minus_one k = rw (le-ltb (suc k) 1 (omega arith)) (ap pos (less k))
  where
    less : (k : ℕ) → suc k - 1 ≡ k
    less k = omega arith

pub neg-fits : (b : ℤ) → SFits w32 b → lt_z b (pos 0) ≡ true → SFits w32 (negsuc 0 -ℤ b)
neg-fits (pos n) f h = absurd (below_zero n h)
neg-fits (negsuc n) f h = rw (minus_one n) (record { sfits = f.sfits })

pub neg_high : (b : ℤ) (w : ℕ) → lt_z b (pos 0) ≡ true → zero_back ≤ w → false ≡ same_back b (back_of w)
neg_high (pos n) w h l = absurd (below_zero n h)
neg_high (negsuc n) w h l = rw (back_high w l)

pub neg_same : (b : ℤ) (w : ℕ) → lt_z b (pos 0) ≡ true → w < zero_back → eqb (nat_abs (negsuc 0 -ℤ b)) (2147483647 - w) ≡ same_back b (back_of w)
neg_same (pos n) w h l = absurd (below_zero n h)
neg_same (negsuc n) w h l =
    let q : 2147483647 - w ≡ zero_back - suc w = omega arith in
    rw (minus_one n, back_low w l) (ap (eqb n) q)

pub pos_low : (b : ℤ) (w : ℕ) → lt_z b (pos 0) ≡ false → w < zero_back → false ≡ same_back b (back_of w)
pos_low (pos n) w h l = rw (back_low w l)
pos_low (negsuc n) w h l = let z : ◌≡◌ {A = ℕ} 0 1 = cc in absurd (omega arith)

pub pos_same : (b : ℤ) (w : ℕ) → lt_z b (pos 0) ≡ false → zero_back ≤ w → eqb (nat_abs b) (w - zero_back) ≡ same_back b (back_of w)
pos_same (pos n) w h l = rw (back_high w l)
pos_same (negsuc n) w h l = let z : ◌≡◌ {A = ℕ} 0 1 = cc in absurd (omega arith)
