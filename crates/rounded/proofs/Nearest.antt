-- What is cut to 0..1, times 255, rounds and casts to a whole number below 256, and a NaN to 0. Assumes nothing.
--     minus_cast       a minus sign is kept, and casts to 0
--     nearest_small    a fraction up to 255 has a nearest whole number below 256
--     cut_small        what is cut to 0..1
use mathlib.Core.Path.{◌≡◌, refl, sym, ap, subst, ◌∙◌}
use mathlib.Core.Bool.{Bool, true, false, not, true≢false}
use Prim.Native.Nat.{ℕ, ◌*◌, ◌<◌, ◌≤◌}
use native.Mathlib.Nat.{mul-one, div-lt_iff_lt-mul}
use native.Mathlib.Omega.{arith}
use lib.Dec.{T}
use lib.IntN.{ℤ, pos}
use lib.Ieee.{Float, nan, inf, fin, binary32, up, down, le, lt, is_nan, mul, round, of_bits, to_unsigned}
use lib.Ieee.Bits.{is_true}
use lib.Ieee.Fits.{down_pos}
use lib.Ieee.Order.{round_mono}
use Rattle.float32.specs.Meaning.{whole, near_div, clamp_of, round_of, signed}
use Rattle.float32.proofs.Laws.{clamp_in, size_plus, whole_u32}
use Rattle.util.specs.Constants.{zero, one, byte_most}
use Rattle.exact.proofs.Exact.{round_signed}
use Rattle.rounded.proofs.Shapes.{shape}

-- how many whole numbers there are from 0 to 255
abbrev pub many : ℕ
many = 256

-- times 255, rounded and cast
abbrev pub cast_of : Float → ℕ
cast_of x = to_unsigned 32 (round_of (mul binary32 x byte_most))

-- ---- a minus sign is kept, and casts to 0
whole_minus : (n : ℕ) → to_unsigned 32 (whole true n) ≡ 0
unfolding to_unsigned signed
whole_minus n = ap (to_unsigned 32) (round_signed true n 1) ∙ shape (λ z. to_unsigned 32 (signed true z) ≡ 0) refl (λ m e. refl) binary32 n 1

pub minus_cast : (a c : ℕ) → to_unsigned 32 (round_of (round binary32 true a c)) ≡ 0
unfolding round_of signed
minus_cast a c =
    ap (λ (z : Float). to_unsigned 32 (round_of z)) (round_signed true a c)
    ∙ shape (λ z. to_unsigned 32 (round_of (signed true z)) ≡ 0) inf_minus (λ m e. whole_minus (near_div (m * up e) (down e))) binary32 a c
  where
    inf_minus : to_unsigned 32 (inf true) ≡ 0
    inf_minus = unfold to_unsigned in refl

-- ---- at most 255 rounds and casts to at most 255
pub nearest_small : (A D : ℕ) → 0 < D → A ≤ 255 * D → near_div A D < many
nearest_small A D p h = let q : 0 < D * 2 = omega arith in (div-lt_iff_lt-mul q).1 (omega arith)

abbrev Low : Float → Type 0
Low z = T (le z (whole false 255)) → to_unsigned 32 (round_of z) < many

pub top_size : whole false 255 ≡ fin false 255 (pos 0)
unfolding round
top_size = refl

low_inf : Low (inf false)
unfolding le
low_inf h = absurd (subst (λ (z : Float). T (le (inf false) z)) top_size h)

low_fin : (m : ℕ) (e : ℤ) → Low (fin false m e)
unfolding round_of
low_fin m e h =
    let q : near_div (m * up e) (down e) < 256 = nearest_small (m * up e) (down e) (down_pos e) (size_plus m e 255 (omega arith) (is_true _ h)) in
    subst (λ (n : ℕ). n < many) (sym (whole_u32 (near_div (m * up e) (down e)) (omega arith))) q

plus_cast : (a c : ℕ) → 0 < c → a ≤ 255 * c → to_unsigned 32 (round_of (round binary32 false a c)) < many
plus_cast a c p h = shape Low low_inf low_fin binary32 a c (round_mono binary32 a c 255 1 p (omega arith) (omega (arith, mul-one a)))

-- ---- the product, and what is clamped
pub times : (s : Bool) (m : ℕ) (e : ℤ) → mul binary32 (fin s m e) byte_most ≡ round binary32 s (m * up e * 255) (down e * 1)
unfolding mul of_bits
times true m e = refl
times false m e = refl

pub one_size : whole false 1 ≡ one
unfolding round of_bits
one_size = refl

clamped : (x : Float) → le zero x ≡ true → le x one ≡ true → cast_of x < many
unfolding le of_bits
clamped nan p q = absurd (true≢false (sym p))
clamped (inf true) p q = absurd (true≢false (sym p))
clamped (inf false) p q = absurd (true≢false (sym q))
clamped (fin true m e) p q = subst (λ (n : ℕ). n < many) (sym (ap (λ (z : Float). to_unsigned 32 (round_of z)) (times true m e) ∙ minus_cast (m * up e * 255) (down e * 1))) (omega arith)
clamped (fin false m e) p q =
    let h : m * up e ≤ 1 * down e = size_plus m e 1 (omega arith) (subst (λ (z : Float). le (fin false m e) z ≡ true) (sym one_size) q) in
    subst (λ (z : Float). to_unsigned 32 (round_of z) < many) (sym (times false m e))
    (plus_cast (m * up e * 255) (down e * 1) (omega (arith, down_pos e, mul-one (down e))) (omega (arith, mul-one (down e))))

pub nan_cast : cast_of (clamp_of nan zero one) ≡ 0
unfolding clamp_of round_of mul le lt of_bits to_unsigned
nan_cast = refl

number : (v : Float) → T (not (is_nan v)) → cast_of (clamp_of v zero one) < many
number v n = let h = clamp_in v zero one n unit_ends in clamped (clamp_of v zero one) h.0 h.1
  where
    unit_ends : le zero one ≡ true
    unit_ends = unfold le of_bits in refl

pub cut_small : (v : Float) → cast_of (clamp_of v zero one) < many
unfolding is_nan
cut_small nan = subst (λ (n : ℕ). n < many) (sym nan_cast) (omega arith)
cut_small (inf s) = number (inf s) tt
cut_small (fin s m e) = number (fin s m e) tt
