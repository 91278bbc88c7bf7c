-- A coordinate that is within the limit in tiles is within the limit. Assumes nothing.
--     sixteenth_exact    16 or more divided by 16 loses nothing
--     scaled_reach       so what is not above the limit in tiles is not above it
use mathlib.Core.Path.{◌≡◌, refl, sym, ap, ◌∙◌, subst}
use mathlib.Core.Bool.{Bool, true, false}
use mathlib.Core.Logic.{◌⊎◌, inl, inr}
use Prim.Native.Nat.{ℕ, suc, ◌+◌, ◌-◌, ◌*◌, ◌^◌, ◌≤◌, ◌<◌}
use native.Mathlib.Nat.{le_trans, le_of_eq, le_of_lt, lt_of_lt_of_le, lt_irrefl, mul-one, mul_assoc, mul_right_comm, mul-le-mul_right, mul-lt-mul_of_pos_right, mul-pos, le_of_mul-le-mul_right}
use native.Mathlib.Omega.{arith}
use lib.Dec.{T, lit<, lit≤}
use lib.Pow.{pow-add, pow_pos, pow-lt, pow_mono, shl_lt}
use lib.IntN.{ℤ, pos, negsuc}
use lib.Ieee.{Float, nan, inf, fin, binary32, up, down, unlike, round, mul, le, fits}
use lib.Ieee.Fits.{down_pos}
use lib.Ieee.Exact.{HasValue, round_exact}
use Rattle.float32.specs.Meaning.{abs_of}
use Rattle.float32.proofs.Tests.{below_or_not}
use Rattle.float32.proofs.Floors.{few_digits, not_high}
use Rattle.exact.specs.Whole.{Small}
use Rattle.exact.specs.Reach.{in_reach, scaled, coord_tiles}
use Rattle.exact.proofs.Limits.{far}
use Rattle.exact.proofs.Bounds.{le_of_small, scale_is}

-- ---- a value that is at most N
value_most : (y : Float) (s : Bool) (a c N : ℕ) → HasValue y s a c → Small y N → a ≤ N * c
value_most nan s a c N v h = absurd v
value_most (inf t) s a c N v h = absurd v
value_most (fin t n d) s a c N v h =
    le_of_mul-le-mul_right (le_trans (le_of_eq (sym v.1)) (le_trans (mul-le-mul_right c h) (le_of_eq (mul_right_comm N (down d) c)))) (down_pos d)

-- ---- divided by 16
last : 2 ^ 149 ≡ 2 ^ 145 * 16
last = refl

pow_within : (k : ℕ) → 2 ^ k ≤ 2 ^ 145 → k ≤ 145
pow_within k h = go (below_or_not 145 k)
  where
    go : (145 < k) ⊎ (k ≤ 145) → k ≤ 145
    go (inl l) = absurd (lt_irrefl (2 ^ 145) (lt_of_lt_of_le (pow-lt l) h))
    go (inr l) = l

sixteenth_exact : (s t : Bool) (m : ℕ) (e : ℤ) → T (fits binary32 (fin s m e)) → down e ≤ m * up e → HasValue (round binary32 t (m * up e) (down e * 16)) t (m * up e) (down e * 16)
sixteenth_exact s t m (pos k) h g =
    let p : m * 2 ^ (k + 145) ≡ m * 2 ^ k * 2 ^ 145 = ap (λ (z : ℕ). m * z) (pow-add 2 k 145) ∙ sym (mul_assoc m (2 ^ k) (2 ^ 145)) in
    round_exact binary32 t (m * 2 ^ k) 16 m (k + 145) (lit< tt) (few_digits s m (pos k) h)
    (lt_of_lt_of_le
    (subst (λ (z : ℕ). z < 2 ^ 273) (sym p) (mul-lt-mul_of_pos_right (subst (λ (z : ℕ). m * 2 ^ k < z) (mul-one (2 ^ 128)) (not_high s m (pos k) h)) (pow_pos 145)))
    (pow_mono {i = 273} {j = 277} (lit≤ tt)))
    (ap (λ (z : ℕ). m * 2 ^ k * z) last ∙ sym (mul_assoc (m * 2 ^ k) (2 ^ 145) 16) ∙ ap (λ (z : ℕ). z * 16) (sym p))
sixteenth_exact s t m (negsuc k) h g =
    let few = few_digits s m (negsuc k) h in
    let j = 145 - suc k in
    let b : 2 ^ suc k ≤ 2 ^ 145 = le_trans g (le_trans (le_of_eq (mul-one m)) (le_trans (le_of_lt few) (pow_mono {i = 24} {j = 145} (lit≤ tt)))) in
    let p : j + suc k ≡ 145 = rest (suc k) (pow_within (suc k) b) in
    let q : m * 2 ^ j * 2 ^ suc k ≡ m * 2 ^ 145 = mul_assoc m (2 ^ j) (2 ^ suc k) ∙ ap (λ (z : ℕ). m * z) (sym (pow-add 2 j (suc k)) ∙ ap (λ (z : ℕ). 2 ^ z) p) in
    round_exact binary32 t (m * 1) (2 ^ suc k * 16) m j (mul-pos (pow_pos (suc k)) (lit< tt)) few
    (lt_of_lt_of_le (shl_lt 24 j few) (pow_mono (under (suc k))))
    (ap (λ (z : ℕ). z * 2 ^ 149) (mul-one m) ∙ ap (λ (z : ℕ). m * z) last ∙ sym (mul_assoc m (2 ^ 145) 16) ∙ ap (λ (z : ℕ). z * 16) (sym q) ∙ mul_assoc (m * 2 ^ j) (2 ^ suc k) 16)
  where
    rest : (a : ℕ) → a ≤ 145 → 145 - a + a ≡ 145
    rest a h = omega arith

    under : (a : ℕ) → 24 + (145 - a) ≤ 277
    under a = omega arith

-- ---- so the limit in tiles is the limit
small_back : (p : Float) (N : ℕ) → 1 ≤ N → T (fits binary32 p) → Small (mul binary32 p (fin false 1 (negsuc 3))) N → Small p (N * 16)
unfolding mul
small_back nan N l f h = h
small_back (inf s) N l f h = h
small_back (fin s m e) N l f h = go (below_or_not (N * 16 * down e) (m * up e))
  where
    some : (N D A : ℕ) → 1 ≤ N → N * 16 * D < A → D ≤ A
    some N D A l g = let q : 1 * D ≤ N * D = mul-le-mul_right D l in omega (arith, mul_right_comm N 16 D)

    same : m * up e * 1 ≡ m * up e
    same = mul-one (m * up e)

    go : (N * 16 * down e < m * up e) ⊎ (m * up e ≤ N * 16 * down e) → m * up e ≤ N * 16 * down e
    go (inr g) = g
    go (inl g) =
        let v = sixteenth_exact s (unlike s false) m e f (some N (down e) (m * up e) l g) in
        let r = value_most (round binary32 (unlike s false) (m * up e) (down e * 16)) (unlike s false) (m * up e) (down e * 16) N v (subst (λ (z : ℕ). Small (round binary32 (unlike s false) z (down e * 16)) N) same h) in
        omega (arith, r, mul_right_comm N 16 (down e), mul_assoc N (down e) 16)

pub scaled_reach : (p : Float) → T (fits binary32 p) → Small (scaled p) coord_tiles → in_reach p ≡ true
scaled_reach p f h =
    subst (λ (w : Float). le (abs_of p) w ≡ true) (sym far.coord)
    (le_of_small p (coord_tiles * 16) (omega (arith, far.tiles)) (small_back p coord_tiles far.some f (subst (λ (k : Float). Small (mul binary32 p k) coord_tiles) scale_is h)))
