-- A value that an `f32` holds rounds to itself, so an `f32` less 0 is itself: a NaN, an infinity and -0 too. Assumes nothing.
-- Of `fin s m e` the size is A / D, with A = m * up e and D = down e.
use mathlib.Core.Path.{◌≡◌, refl, sym, ap, ◌∙◌, subst}
use mathlib.Core.Bool.{Bool, true, false, cond, ◌||◌, beq, false≢true}
use Prim.Native.Nat.{ℕ, suc, ◌+◌, ◌-◌, ◌*◌, ◌/◌, ◌^◌, zero-le}
use native.Mathlib.Nat.{mul-one, zero-mul, mul_right_comm, div-one}
use native.Mathlib.Omega.{arith}
use lib.Dec.{T, ltb, eqb}
use lib.IntN.{ℤ, pos, negsuc}
use lib.Ieee.{Float, nan, inf, fin, binary32, up, down, size, round, sub, sum, eq, fits, of_bits, to_bits, hid, top}
use lib.Ieee.Bits.{of_bits-to_bits}
use lib.Ieee.Exact.{HasValue}
use lib.Ieee.Fits.{down_pos, round-fits}
use lib.Ieee.Nearest.{div_same}
use borrow.Author.Tests.{le-ltb, eqb-true}
use Rattle.float32.specs.Meaning.{sign_of}
use Rattle.float32.proofs.Tests.{first}
use Rattle.float32.proofs.Nearest.{part_exact}
use Rattle.float32.proofs.Floors.{few_digits, not_low, trunc_exact}

-- ---- a sign and a size are those of one value only: its bits are made from nothing else
same_bits : (s : Bool) (m : ℕ) (e : ℤ) (n : ℕ) (d : ℤ) → n * up d * down e ≡ m * up e * down d → to_bits binary32 (fin s n d) ≡ to_bits binary32 (fin s m e)
unfolding to_bits
same_bits s m e n d h =
    ap (λ (z : ℕ). cond s (top binary32) 0 + (size z - 24) * hid binary32 + z / 2 ^ (size z - 24))
    (div_same (n * up d * 2 ^ 149) (down d) (m * up e * 2 ^ 149) (down e) (down_pos d) (down_pos e)
    (mul_right_comm (n * up d) (2 ^ 149) (down e) ∙ ap (λ (z : ℕ). z * 2 ^ 149) h ∙ mul_right_comm (m * up e) (down d) (2 ^ 149)))

pub same_value : (s : Bool) (m : ℕ) (e : ℤ) (y : Float) → T (fits binary32 (fin s m e)) → T (fits binary32 y) → HasValue y s (m * up e) (down e) → y ≡ fin s m e
same_value s m e nan h g v = absurd v
same_value s m e (inf t) h g v = absurd v
same_value s m e (fin t n d) h g v =
    sym (of_bits-to_bits binary32 (fin t n d) g)
    ∙ ap (of_bits binary32) (ap (λ (u : Bool). to_bits binary32 (fin u n d)) v.0 ∙ same_bits s m e n d v.1)
    ∙ of_bits-to_bits binary32 (fin s m e) h

-- so equal floats of one sign are one
pub same_sign : (x y : Float) → T (fits binary32 x) → T (fits binary32 y) → eq x y ≡ true → sign_of x ≡ sign_of y → x ≡ y
unfolding eq sign_of
same_sign nan y h g e s = absurd (false≢true e)
same_sign (inf s) nan h g e k = absurd (false≢true e)
same_sign (inf s) (inf t) h g e k = ap inf k
same_sign (inf s) (fin t n d) h g e k = absurd (false≢true e)
same_sign (fin s m e) nan h g q k = absurd (false≢true q)
same_sign (fin s m e) (inf t) h g q k = absurd (false≢true q)
same_sign (fin s m e) (fin t n d) h g q k =
    let A = m * up e * down d in
    let B = n * up d * down e in
    same_value t n d (fin s m e) g h (k, eqb-true A B (first (eqb A B) (beq s t || eqb A 0) q))

-- ---- what fits is rounded to itself
own_exact : (s : Bool) (m : ℕ) (e : ℤ) → T (fits binary32 (fin s m e)) → HasValue (round binary32 s (m * up e) (down e)) s (m * up e) (down e)
own_exact s m (pos k) h = subst (λ (z : ℕ). HasValue (round binary32 s z 1) s z 1) (div-one (m * 2 ^ k)) (trunc_exact s m (pos k) h)
own_exact s m (negsuc k) h =
    subst (λ (z : ℕ). HasValue (round binary32 s z (2 ^ suc k)) s z (2 ^ suc k)) (sym (mul-one m))
    (part_exact s m k (few_digits s m (negsuc k) h) (not_low s m (negsuc k) h))

pub round_own : (s : Bool) (m : ℕ) (e : ℤ) → T (fits binary32 (fin s m e)) → round binary32 s (m * up e) (down e) ≡ fin s m e
round_own s m e h = same_value s m e (round binary32 s (m * up e) (down e)) h (round-fits binary32 s (m * up e) (down e)) (own_exact s m e h)

-- ---- 0 taken off
none_more : (A D : ℕ) → A * 1 + 0 * 1 * D ≡ A
none_more A D = omega arith

none_less : (A D : ℕ) → A * 1 - 0 * 1 * D ≡ A
none_less A D = omega arith

none_over : (A D : ℕ) → ltb (A * 1) (0 * 1 * D) ≡ false
none_over A D = ap (λ (z : ℕ). ltb (A * 1) z) (zero-mul D) ∙ le-ltb (A * 1) 0 zero-le

sum_none : (s : Bool) (A D : ℕ) → sum binary32 s (A * 1) true (0 * 1 * D) (D * 1) ≡ round binary32 s A D
unfolding sum
sum_none true A D = rw (none_more A D, mul-one D) refl
sum_none false A D = rw (none_over A D, none_less A D, mul-one D) refl

pub sub-zero : (x : Float) → T (fits binary32 x) → sub binary32 x (fin false 0 (pos 0)) ≡ x
unfolding sub
sub-zero nan h = refl
sub-zero (inf s) h = refl
sub-zero (fin s m e) h = sum_none s (m * up e) (down e) ∙ round_own s m e h
