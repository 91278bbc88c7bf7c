-- `float32::trunc` meets its contract. The pattern's lowest digits are cleared, which `Cut.antt` says is the definition. Assumes nothing.
use mathlib.Core.Path.{◌≡◌, sym, ap, ◌∙◌, subst}
use mathlib.Core.Bool.{not}
use mathlib.Core.Logic.{◌⊎◌, inl, inr}
use Prim.Native.Nat.{ℕ, ◌-◌, ◌*◌, ◌%◌, ◌^◌, ◌≤◌, ◌<◌}
use native.Mathlib.Nat.{mod-le}
use native.Mathlib.Omega.{arith}
use lib.Dec.{T, lit<}
use lib.Pow.{pow_pos}
use lib.Ieee.{Float, nan, binary32, fits, is_nan, of_bits, to_bits}
use Rattle.float32.specs.Meaning.{trunc_of}
use Rattle.float32.proofs.Tests.{yes, is_nan_lem, no_nan, shifted}
use Rattle.float32.proofs.Fields.{pattern, pattern_lt, no_nan_bits}
use Rattle.float32.proofs.Whole.{trunc_no_nan}
use Rattle.float32.proofs.Cut.{exp_of, cut_low, cut_mid, cut_high}
use Rattle.float32.proofs.trunc.Goals as goal
use Rattle.float32.proofs.trunc.Goals.{then-e-lt127, else-e-lt127, Joined-e-lt127}

at_nan : (x : Float) → x ≡ nan → x ≡ trunc_of x
unfolding trunc_of
at_nan x e = e ∙ ap trunc_of (sym e)

-- how many digits are cleared
abbrev Cleared : ℕ → ℕ → Type 0
Cleared e k = ((e < 127) × (k ≡ 31)) ⊎ ((127 ≤ e) × (k ≡ 150 - e))

few : (e k : ℕ) → Cleared e k → k < 32
few e k (inl w) = subst (λ (i : ℕ). i < 32) (sym w.1) (lit< tt)
few e k (inr w) = subst (λ (i : ℕ). i < 32) (sym w.1) (small e w.0)
  where
    small : (e : ℕ) → 127 ≤ e → 150 - e < 32
    small e h = omega arith

cut : (b k : ℕ) → b < 4294967296 → Cleared (exp_of b) k → exp_of b < 150 → of_bits binary32 (b - b % 2 ^ k) ≡ trunc_of (of_bits binary32 b)
cut b k h (inl w) u = ap (λ (i : ℕ). of_bits binary32 (b - b % 2 ^ i)) w.1 ∙ cut_low b h w.0
cut b k h (inr w) u = ap (λ (i : ℕ). of_bits binary32 (b - b % 2 ^ i)) w.1 ∙ cut_mid b w.0 u

-- ---- what the function computes, of an x that is no NaN
module _ (x : Float) (h : T (fits binary32 x)) where
  low : (k : ℕ) → Cleared (exp_of (to_bits binary32 x)) k → exp_of (to_bits binary32 x) < 150
      → of_bits binary32 (to_bits binary32 x - to_bits binary32 x % (1 * 2 ^ k % 4294967296)) ≡ trunc_of x
  low k w u =
      let b = to_bits binary32 x in
      ap (λ (z : ℕ). of_bits binary32 (b - b % z)) (shifted k (few (exp_of b) k w)) ∙ cut b k (pattern_lt x h) w u ∙ ap trunc_of (pattern x h)

  high : T (not (is_nan x)) → 150 ≤ exp_of (to_bits binary32 x) → x ≡ trunc_of x
  high n l = sym (pattern x h) ∙ cut_high (to_bits binary32 x) (subst (λ (v : Float). T (not (is_nan v))) (sym (pattern x h)) n) l ∙ ap trunc_of (pattern x h)

-- where the arms meet
cleared : (c : Joined-e-lt127) → Cleared (exp_of (to_bits binary32 c.args.x)) c.if-e-lt127.k
cleared c = elim c.if-e-lt127.branch [ then-e-lt127 w ↦ inl (w.if-e-lt127.true, w.k-is) | else-e-lt127 w ↦ inr (w.if-e-lt127.false, w.k-is) ]

pub returns-then-x : goal.returns-then-x
returns-then-x c = at_nan c.args.x (is_nan_lem c.args.x c.if-x.true)

pub float_to_bits-b : goal.float_to_bits-b
float_to_bits-b c = no_nan c.args.x c.if-x.false

pub overflow_shl-result : goal.overflow_shl-result
overflow_shl-result c = few _ c.if-e-lt127.k (cleared (goal.at.overflow_shl-result c).Joined-e-lt127)

pub nonzero_rem-result : goal.nonzero_rem-result
nonzero_rem-result c = let k = c.if-e-lt127.k in subst (λ (z : ℕ). 0 < z) (sym (shifted k (few _ k (cleared (goal.at.nonzero_rem-result c).Joined-e-lt127)))) (pow_pos k)

pub overflow_sub-result : goal.overflow_sub-result
overflow_sub-result c = mod-le _ _

pub float_from_bits-result : goal.float_from_bits-result
float_from_bits-result c =
    let x = c.args.x in
    no_nan_bits _ (trunc_of x) (low x (yes c.well_formed.0.1) c.if-e-lt127.k (cleared (goal.at.float_from_bits-result c).Joined-e-lt127) c.if-e-lt150.true)
    (trunc_no_nan x (no_nan x c.if-x.false))

pub returns-after-e-lt127 : goal.returns-after-e-lt127
returns-after-e-lt127 c = low c.args.x (yes c.well_formed.0.1) c.if-e-lt127.k (cleared (goal.at.returns-after-e-lt127 c).Joined-e-lt127) c.if-e-lt150.true

pub returns-else-e-lt150 : goal.returns-else-e-lt150
returns-else-e-lt150 c = high c.args.x (yes c.well_formed.0.1) (no_nan c.args.x c.if-x.false) c.if-e-lt150.false
