-- `float32::to_i32_far` meets its contract: each way by its part of `Casts.antt`. Assumes nothing.
use mathlib.Core.Path.{◌≡◌, sym, ap, ◌∙◌, subst}
use mathlib.Core.Bool.{false, not}
use mathlib.Core.Logic.{inl, inr}
use Prim.Native.Nat.{ℕ, suc, zero, ◌+◌, ◌*◌, ◌/◌, ◌%◌, ◌^◌, ◌≤◌, ◌<◌}
use native.Mathlib.Nat.{le_of_lt}
use native.Mathlib.Omega.{arith}
use lib.Dec.{T}
use lib.IntN.{pos, negsuc, neg_ℤ, ◌-ℤ◌, +ℤ_idl}
use lib.Signed.{mag}
use lib.Ieee.{Float, nan, binary32, fits, is_nan, ne, of_bits, to_bits, to_signed}
use mir.Syntax.{w32}
use mir.Val.{SFits, to_z, of_z}
use mir.Facts.{to_z-of_z, to_z_pos}
use Rattle.float32.proofs.Tests.{yes, is_nan_lem, no_nan}
use Rattle.float32.proofs.Fields.{pattern}
use Rattle.float32.proofs.Cut.{exp_of, digits_lt}
use Rattle.float32.proofs.Casts.{Down, down_lt, shifted_lt, i32_plus, i32_minus, i32_top, i32_bottom}
use Rattle.float32.proofs.to_i32_far.Goals as goal
use Rattle.float32.proofs.to_i32_far.Goals.{then-e-lt127, else-e-lt127, Joined-e-lt127}

at_nan : (x : Float) → x ≡ nan → pos 0 ≡ to_signed 31 x
unfolding to_signed
at_nan x e = ap (to_signed 31) (sym e)

-- ---- -n, for an n below 2 ^ 31
mag_neg : (n : ℕ) → n < 2147483648 → mag (neg_ℤ (pos n)) < 2147483648
mag_neg zero h = h
mag_neg (suc n) h = le_of_lt h

minus_is : (n : ℕ) → n < 2147483648 → pos 0 -ℤ to_z w32 n ≡ neg_ℤ (pos n)
minus_is n h = +ℤ_idl (neg_ℤ (to_z w32 n)) ∙ ap neg_ℤ (to_z_pos w32 h)

minus_fits : (n : ℕ) → n < 2147483648 → SFits w32 (pos 0 -ℤ to_z w32 n)
minus_fits n h = subst (SFits w32) (sym (minus_is n h)) (record { sfits = mag_neg n h })

-- the digits, shifted
abbrev shifted : ℕ → ℕ → ℕ
shifted b k = (b % 8388608 + 8388608) * 128 / 2 ^ k

half : (b k : ℕ) → shifted b k < 2147483648
half b k = shifted_lt (b % 8388608) k (digits_lt b)

under : (e : ℕ) → e < 158 → e ≤ 157
under e h = omega arith

-- ---- of an x that is no NaN
module _ (x : Float) (h : T (fits binary32 x)) (d : ne x x ≡ false) where
  pattern_no_nan : T (not (is_nan (of_bits binary32 (to_bits binary32 x))))
  pattern_no_nan = subst (λ (v : Float). T (not (is_nan v))) (sym (pattern x h)) (no_nan x d)

  read : to_signed 31 (of_bits binary32 (to_bits binary32 x)) ≡ to_signed 31 x
  read = ap (to_signed 31) (pattern x h)

  plus : (k : ℕ) → to_bits binary32 x < 2147483648 → Down (exp_of (to_bits binary32 x)) k → exp_of (to_bits binary32 x) < 158 → to_z w32 (shifted (to_bits binary32 x) k) ≡ to_signed 31 x
  plus k p w u = let b = to_bits binary32 x in to_z_pos w32 (half b k) ∙ sym (i32_plus b pattern_no_nan k p w (under (exp_of b) u)) ∙ read

  minus : (k : ℕ) → 2147483648 ≤ to_bits binary32 x → Down (exp_of (to_bits binary32 x)) k → exp_of (to_bits binary32 x) < 158
      → to_z w32 (of_z w32 (pos 0 -ℤ to_z w32 (shifted (to_bits binary32 x) k))) ≡ to_signed 31 x
  minus k p w u =
      let b = to_bits binary32 x in
      let n = shifted b k in
      to_z-of_z (minus_fits n (half b k)) ∙ minus_is n (half b k) ∙ sym (i32_minus b pattern_no_nan k p w (under (exp_of b) u)) ∙ read

  top : to_bits binary32 x < 2147483648 → 158 ≤ exp_of (to_bits binary32 x) → pos 2147483647 ≡ to_signed 31 x
  top p l = sym (i32_top (to_bits binary32 x) pattern_no_nan p l) ∙ read

  bottom : 2147483648 ≤ to_bits binary32 x → 158 ≤ exp_of (to_bits binary32 x) → negsuc 2147483647 ≡ to_signed 31 x
  bottom p l = sym (i32_bottom (to_bits binary32 x) pattern_no_nan p l) ∙ read

-- where the arms meet
shift : (c : Joined-e-lt127) → Down (exp_of (to_bits binary32 c.args.x)) c.if-e-lt127.k
shift c = elim c.if-e-lt127.branch [ then-e-lt127 w ↦ inl (w.if-e-lt127.true, w.k-is) | else-e-lt127 w ↦ inr (w.if-e-lt127.false, w.k-is) ]

pub returns-then-x : goal.returns-then-x
returns-then-x c = at_nan c.args.x (is_nan_lem c.args.x c.if-x.true)

pub float_to_bits-b : goal.float_to_bits-b
float_to_bits-b c = no_nan c.args.x c.if-x.false

pub overflow_shr-n : goal.overflow_shr-n
overflow_shr-n c = down_lt _ c.if-e-lt127.k (shift (goal.at.overflow_shr-n c).Joined-e-lt127)

pub overflow_cast-result : goal.overflow_cast-result
overflow_cast-result c = record { sfits = half (to_bits binary32 c.args.x) c.if-e-lt127.k }

pub overflow_cast-result-else-b-lt2147483648 : goal.overflow_cast-result-else-b-lt2147483648
overflow_cast-result-else-b-lt2147483648 c = record { sfits = half (to_bits binary32 c.args.x) c.if-e-lt127.k }

pub overflow_sub-result : goal.overflow_sub-result
overflow_sub-result c =
    let b = to_bits binary32 c.args.x in
    let k = c.if-e-lt127.k in
    minus_fits (shifted b k) (half b k)

pub returns-then-b-lt2147483648 : goal.returns-then-b-lt2147483648
returns-then-b-lt2147483648 c =
    plus c.args.x (yes c.well_formed.0.1) c.if-x.false c.if-e-lt127.k c.if-b-lt2147483648.true (shift (goal.at.returns-then-b-lt2147483648 c).Joined-e-lt127) c.if-e-lt158.true

pub returns-else-b-lt2147483648 : goal.returns-else-b-lt2147483648
returns-else-b-lt2147483648 c =
    minus c.args.x (yes c.well_formed.0.1) c.if-x.false c.if-e-lt127.k c.if-b-lt2147483648.false (shift (goal.at.returns-else-b-lt2147483648 c).Joined-e-lt127) c.if-e-lt158.true

pub returns-then-b-lt2147483648-2 : goal.returns-then-b-lt2147483648-2
returns-then-b-lt2147483648-2 c =
    top c.args.x (yes c.well_formed.0.1) c.if-x.false c.if-b-lt2147483648-2.true c.if-e-lt158.false

pub returns-else-b-lt2147483648-2 : goal.returns-else-b-lt2147483648-2
returns-else-b-lt2147483648-2 c =
    bottom c.args.x (yes c.well_formed.0.1) c.if-x.false c.if-b-lt2147483648-2.false c.if-e-lt158.false
