-- The whole number that is tried, by the bits of a float at 3 * 2 ^ 22 and on; and two floats of which the smaller is above it and the larger below the next. Assumes nothing.
--     guess_is     the float, less the shift, is the whole number
--     both_off     so both floats lie strictly between
use Rattle.std.proofs.Common.{◌≡◌, ℕ, ◌+◌, ◌-◌, ◌*◌, ◌^◌, ◌<◌, ◌≤◌, Bool, true, false, cond, T, ◌⊎◌, sym, refl, ap, ◌∙◌, subst, inl, inr, true≢false, mul-pos, zero-mul, arith, ltb-false, ltb-true, le-ltb, lt-ltb}
use mathlib.Core.Bool.{false≢true}
use lib.Ieee.{Float, nan, inf, fin, binary32, up, down, add, sub, lt, fits, of_bits, to_bits}
use lib.Ieee.Exact.{HasValue}
use lib.Ieee.Fits.{down_pos}
use lib.Ieee.Scale.{finite}
use Rattle.float32.specs.Meaning.{whole, sign_of}
use Rattle.float32.proofs.Tests.{below_or_not}
use Rattle.float32.proofs.Fields.{pattern}
use Rattle.float32.proofs.Whole.{whole_value}
use Rattle.float32.proofs.Floors.{one_more}
use Rattle.float32.proofs.Magic.{taken_off}
use Rattle.float32.proofs.MinMax.{le_of_lt}
use Rattle.float32.proofs.Order.{not_lt_of_le}
use Rattle.util.specs.Constants.{one}
use Rattle.whole.specs.Bits.{zero_bits}
use Rattle.whole.proofs.Shifted.{from_bits}
use Rattle.errors.specs.Sizes.{parts}
use Rattle.errors.proofs.Parts.{parts_pos, own_parts}
use Rattle.margin.proofs.Ends.{value_lt, value_scale}
use Rattle.spot.specs.Tests.{shift}
use Rattle.spot.proofs.InTile.{Off, next_parts}

-- ---- the whole number
module _ (t : Float) (x : ℕ) (f : T (fits binary32 t)) (e : to_bits binary32 t ≡ zero_bits + x) (h : x < 2 ^ 20) where
  guess_whole : t ≡ whole false (12582912 + x)
  guess_whole =
      sym (pattern t f)
      ∙ ap (of_bits binary32) (e ∙ split x)
      ∙ from_bits (4194304 + x) (omega arith)
      ∙ ap (whole false) (joined x)
    where
      split : (x : ℕ) → zero_bits + x ≡ 0x4b00_0000 + (4194304 + x)
      split x = omega arith

      joined : (x : ℕ) → 8388608 + (4194304 + x) ≡ 12582912 + x
      joined x = omega arith

  pub guess_is : sub binary32 t shift ≡ whole false x
  unfolding of_bits
  guess_is =
      taken_off 3 22 (12582912 + x) t (subst (λ (y : Float). HasValue y false (12582912 + x) 1) (sym guess_whole) (whole_value false (12582912 + x) (omega arith)))
      ∙ rw (le-ltb (12582912 + x) 12582912 (omega arith)) (ap (whole false) (less x))
    where
      less : (x : ℕ) → 12582912 + x - 12582912 ≡ x
      less x = omega arith

  pub guess_next : add binary32 (sub binary32 t shift) one ≡ whole false (x + 1)
  unfolding of_bits
  guess_next = one_more false (sub binary32 t shift) x (subst (λ (y : Float). HasValue y false x 1) (sym guess_is) (whole_value false x (omega arith)))

-- ---- what lies above one whole number and below the next is a number from 0 up
record FromZero (u : Float) : Type 0 where
  pub can : T (finite u)
  pub plus : sign_of u ≡ false

some : (a b : ℕ) → 0 < a → 0 < b + a
some a b h = omega arith

pub factor : (a b c : ℕ) → a < b * c → 0 < b
factor a b c h = go (below_or_not 0 b)
  where
    go : (0 < b) ⊎ (b ≤ 0) → 0 < b
    go (inl l) = l
    go (inr l) =
        let z : b ≡ 0 = omega arith in
        omega (arith, ap (λ (k : ℕ). k * c) z, zero-mul c)

-- y < u, no w < u, and w < z
reals : (y u w z : Float) (n m : ℕ) → HasValue y false n 1 → HasValue z false m 1 → lt y u ≡ true → lt w u ≡ false → lt w z ≡ true → FromZero u × FromZero w
unfolding lt sign_of
reals nan u w z n m v k l o g = absurd v
reals (inf r) u w z n m v k l o g = absurd v
reals (fin true a e) u w z n m v k l o g = absurd (true≢false v.0)
reals (fin false a e) nan w z n m v k l o g = absurd (false≢true l)
reals (fin false a e) (inf true) w z n m v k l o g = absurd (false≢true l)
reals (fin false a e) (inf false) nan z n m v k l o g = absurd (false≢true g)
reals (fin false a e) (inf false) (inf true) z n m v k l o g = absurd (true≢false o)
reals (fin false a e) (inf false) (inf false) nan n m v k l o g = absurd k
reals (fin false a e) (inf false) (inf false) (inf r) n m v k l o g = absurd k
reals (fin false a e) (inf false) (inf false) (fin r b c) n m v k l o g = absurd (false≢true g)
reals (fin false a e) (inf false) (fin r b c) z n m v k l o g = absurd (true≢false o)
reals (fin false a e) (fin true j d) w z n m v k l o g = absurd (false≢true l)
reals (fin false a e) (fin false j d) nan z n m v k l o g = absurd (false≢true g)
reals (fin false a e) (fin false j d) (inf true) z n m v k l o g = absurd (true≢false o)
reals (fin false a e) (fin false j d) (inf false) nan n m v k l o g = absurd k
reals (fin false a e) (fin false j d) (inf false) (inf r) n m v k l o g = absurd k
reals (fin false a e) (fin false j d) (inf false) (fin r b c) n m v k l o g = absurd (false≢true g)
reals (fin false a e) (fin false j d) (fin true b c) z n m v k l o g =
    let p : 0 < j * up d = factor (a * up e * down d) (j * up d) (down e) (ltb-true (a * up e * down d) (j * up d * down e) l) in
    absurd (true≢false (sym (lt-ltb 0 (b * up c * down d + j * up d * down c) (some (j * up d * down c) (b * up c * down d) (mul-pos p (down_pos c)))) ∙ o))
reals (fin false a e) (fin false j d) (fin false b c) z n m v k l o g = (record { can = tt; plus = refl }, record { can = tt; plus = refl })

-- so both lie strictly between
ordered_off : (u w : Float) (x : ℕ) → T (fits binary32 u) → T (fits binary32 w) → x + 1 ≤ 2 ^ 24
    → lt (whole false x) u ≡ true → lt w u ≡ false → lt w (whole false (x + 1)) ≡ true → Off u x × Off w x
ordered_off u w x f g b l o r =
    let y = whole false x in
    let z = whole false (x + 1) in
    let v = whole_value false x (omega arith) in
    let k = whole_value false (x + 1) b in
    let c = reals y u w z x (x + 1) v k l o r in
    let p = own_parts u f c.0.can c.0.plus in
    let q = own_parts w g c.1.can c.1.plus in
    let i : x * parts < p.0 = ltb-true (x * parts) p.0 (sym (value_lt y u (x * parts) p.0 parts parts_pos (value_scale y false x parts v) p.1) ∙ l) in
    let j : q.0 < (x + 1) * parts =
    ltb-true q.0 ((x + 1) * parts) (sym (value_lt w z q.0 ((x + 1) * parts) parts parts_pos q.1 (value_scale z false (x + 1) parts k)) ∙ r) in
    let h : p.0 ≤ q.0 = ltb-false q.0 p.0 (sym (value_lt w u q.0 p.0 parts parts_pos q.1 p.1) ∙ o) in (
      record { n = p.0; is = p.1; fit = f; low = i; high = omega (arith, next_parts x) },
      record { n = q.0; is = q.1; fit = g; low = omega arith; high = omega (arith, next_parts x) },
    )

pub both_off : (u v : Float) (x : ℕ) → T (fits binary32 u) → T (fits binary32 v) → x + 1 ≤ 2 ^ 24
    → lt (whole false x) (cond (lt v u) v u) ≡ true → lt (cond (lt v u) u v) (whole false (x + 1)) ≡ true → Off u x × Off v x
both_off u v x f g b l r = go (lt v u) refl l r
  where
    go : (t : Bool) → lt v u ≡ t → lt (whole false x) (cond t v u) ≡ true → lt (cond t u v) (whole false (x + 1)) ≡ true → Off u x × Off v x
    go true e l r = let c = ordered_off v u x g f b l (not_lt_of_le v u (le_of_lt v u e)) r in (c.1, c.0)
    go false e l r = ordered_off u v x f g b l e r
