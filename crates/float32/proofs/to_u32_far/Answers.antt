-- `float32::to_u32_far` meets its contract: each way by its part of `Casts.antt`. Assumes nothing.
use mathlib.Core.Path.{◌≡◌, sym, ap, ◌∙◌, subst}
use mathlib.Core.Bool.{false, not}
use mathlib.Core.Logic.{inl, inr}
use Prim.Native.Nat.{ℕ, ◌+◌, ◌*◌, ◌/◌, ◌%◌, ◌^◌, ◌≤◌, ◌<◌}
use native.Mathlib.Omega.{arith}
use lib.Dec.{T}
use lib.Ieee.{Float, nan, binary32, fits, is_nan, ne, of_bits, to_bits, to_unsigned}
use Rattle.float32.proofs.Tests.{yes, is_nan_lem, no_nan}
use Rattle.float32.proofs.Fields.{pattern}
use Rattle.float32.proofs.Casts.{Down, down_lt, u32_mid, u32_top, u32_large, u32_below}
use Rattle.float32.proofs.to_u32_far.Goals as goal
use Rattle.float32.proofs.to_u32_far.Goals.{then-e-lt127, else-e-lt127, Joined-e-lt127}

at_nan : (x : Float) → x ≡ nan → 0 ≡ to_unsigned 32 x
unfolding to_unsigned
at_nan x e = ap (to_unsigned 32) (sym e)

-- a pattern with no sign
field : (b : ℕ) → b < 2147483648 → b / 8388608 % 256 ≡ b / 8388608
field b h = omega arith

plus : (b : ℕ) → b < 1325400064 → b < 2147483648
plus b h = omega arith

plus' : (b : ℕ) → b < 1333788672 → b < 2147483648
plus' b h = omega arith

last : (b : ℕ) → b < 1325400064 → b / 8388608 % 256 ≤ 157
last b h = omega arith

at_158 : (b : ℕ) → 1325400064 ≤ b → b < 1333788672 → b / 8388608 % 256 ≡ 158
at_158 b l u = omega arith

over : (b : ℕ) → 1333788672 ≤ b → b < 2147483648 → 159 ≤ b / 8388608 % 256
over b h l = omega arith

-- ---- of an x that is no NaN
module _ (x : Float) (h : T (fits binary32 x)) (d : ne x x ≡ false) where
  pattern_no_nan : T (not (is_nan (of_bits binary32 (to_bits binary32 x))))
  pattern_no_nan = subst (λ (v : Float). T (not (is_nan v))) (sym (pattern x h)) (no_nan x d)

  read : to_unsigned 32 (of_bits binary32 (to_bits binary32 x)) ≡ to_unsigned 32 x
  read = ap (to_unsigned 32) (pattern x h)

  mid : (k : ℕ) → to_bits binary32 x < 1325400064 → Down (to_bits binary32 x / 8388608) k → (to_bits binary32 x % 8388608 + 8388608) * 128 / 2 ^ k ≡ to_unsigned 32 x
  mid k u w =
      let b = to_bits binary32 x in
      sym (u32_mid b pattern_no_nan k (plus b u) (subst (λ (e : ℕ). Down e k) (sym (field b (plus b u))) w) (last b u)) ∙ read

  top : 1325400064 ≤ to_bits binary32 x → to_bits binary32 x < 1333788672 → (to_bits binary32 x % 8388608 + 8388608) * 256 ≡ to_unsigned 32 x
  top l u = let b = to_bits binary32 x in sym (u32_top b pattern_no_nan (plus' b u) (at_158 b l u)) ∙ read

  large : 1333788672 ≤ to_bits binary32 x → to_bits binary32 x < 2147483648 → 4294967295 ≡ to_unsigned 32 x
  large l u = sym (u32_large (to_bits binary32 x) pattern_no_nan u (over (to_bits binary32 x) l u)) ∙ read

  below : 2147483648 ≤ to_bits binary32 x → 0 ≡ to_unsigned 32 x
  below l = sym (u32_below (to_bits binary32 x) pattern_no_nan l) ∙ read

-- where the arms meet
shift : (c : Joined-e-lt127) → Down (to_bits binary32 c.args.x / 8388608) c.if-e-lt127.k
shift c = elim c.if-e-lt127.branch [ then-e-lt127 w ↦ inl (w.if-e-lt127.true, w.k-is) | else-e-lt127 w ↦ inr (w.if-e-lt127.false, w.k-is) ]

pub returns-then-x : goal.returns-then-x
returns-then-x c = at_nan c.args.x (is_nan_lem c.args.x c.if-x.true)

pub float_to_bits-b : goal.float_to_bits-b
float_to_bits-b c = no_nan c.args.x c.if-x.false

pub overflow_shr-result : goal.overflow_shr-result
overflow_shr-result c = down_lt _ c.if-e-lt127.k (shift (goal.at.overflow_shr-result c).Joined-e-lt127)

pub returns-after-e-lt127 : goal.returns-after-e-lt127
returns-after-e-lt127 c =
    mid c.args.x (yes c.well_formed.0.1) c.if-x.false c.if-e-lt127.k c.if-b-lt1325400064.true (shift (goal.at.returns-after-e-lt127 c).Joined-e-lt127)

pub returns-then-b-lt1333788672 : goal.returns-then-b-lt1333788672
returns-then-b-lt1333788672 c =
    top c.args.x (yes c.well_formed.0.1) c.if-x.false c.if-b-lt1325400064.false c.if-b-lt1333788672.true

pub returns-then-b-lt2147483648 : goal.returns-then-b-lt2147483648
returns-then-b-lt2147483648 c =
    large c.args.x (yes c.well_formed.0.1) c.if-x.false c.if-b-lt1333788672.false c.if-b-lt2147483648.true

pub returns-else-b-lt2147483648 : goal.returns-else-b-lt2147483648
returns-else-b-lt2147483648 c =
    below c.args.x (yes c.well_formed.0.1) c.if-x.false c.if-b-lt2147483648.false
