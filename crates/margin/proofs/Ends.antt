-- A line's ends in tile 1 or further, from 16 on, in tiles: whole numbers of 2 ^ -23, so that floors, ceilings, spans and where the line starts in its first tile are exact. Assumes nothing.
--     grid_of      such a coordinate, in tiles
--     value_less, value_turned, value_apart   differences
--     floor_at, ceil_at, span_at_lem   floors, ceilings, and the tiles of a span
use mathlib.Core.Path.{◌≡◌, refl, sym, ap, ◌∙◌, subst}
use mathlib.Core.Bool.{Bool, true, false, cond, ◌&&◌, true≢false, false≢true}
use mathlib.Core.Logic.{◌⊎◌, inl, inr}
use Prim.Native.Nat.{ℕ, zero, suc, ◌+◌, ◌-◌, ◌*◌, ◌/◌, ◌^◌, ◌≤◌, ◌<◌}
use native.Mathlib.Nat.{le_trans, le_of_eq, le_of_lt, le_antisymm, lt_of_le_of_lt, lt_irrefl, mul-one, one-mul, mul_assoc, mul_comm, mul_right_comm, mul-pos, mul-sub, mul-le-mul_right, mul-lt-mul_of_pos_right, le_of_mul-le-mul_right, lt_of_mul-lt-mul_right, div-add-mod', le-div_iff_mul-le, mod-lt}
use native.Mathlib.Omega.{arith}
use lib.Dec.{T, ltb, lit<}
use lib.IntN.{ℤ, pos, negsuc, nat_abs}
use lib.Pow.{pow-add, pow_pos, pow_mono}
use lib.Ieee.{Float, nan, inf, fin, binary32, up, down, unlike, round, sum, add, sub, mul, lt, fits, of_bits, to_unsigned}
use lib.Ieee.Fits.{down_pos}
use lib.Ieee.Exact.{HasValue}
use lib.Ieee.Nearest.{div_same}
use lib.Ieee.Scale.{round_same}
use borrow.Author.Tests.{lt-ltb, le-ltb}
use Rattle.float32.specs.Meaning.{whole, up_div, floor_of, ceil_of, abs_of, unit}
use Rattle.float32.proofs.Tests.{below_or_not}
use Rattle.float32.proofs.Whole.{whole_value}
use Rattle.float32.proofs.Floors.{few_digits}
use Rattle.float32.proofs.Same.{round_own}
use Rattle.float32.proofs.Laws.{up_most}
use Rattle.util.specs.Constants.{one}
use Rattle.util.specs.Span.{span_of}
use Rattle.exact.specs.Whole.{IsWhole, Small}
use Rattle.exact.specs.Reach.{in_reach, scaled, coord_tiles, Near}
use Rattle.exact.proofs.Bounds.{near_of}
use Rattle.exact.proofs.Limits.{far}
use Rattle.exact.proofs.Exact.{value_whole, sub_whole}
use Rattle.exact.proofs.Compare.{lt_whole}
use Rattle.exact.proofs.Signs.{less_plus}
use Rattle.exact.proofs.Spans.{span_at, span_cast, one_whole, pos_cast}
use Rattle.errors.proofs.Sizes.{abs_round}

-- a value of 2 ^ -23ths, from 1 on
pub record Grid (s : Float) : Type 0 where
  pub S : ℕ
  pub is : HasValue s false S 8388608
  pub least : 8388608 ≤ S
  pub most : S ≤ coord_tiles * 8388608

-- ---- from a coordinate
pow_small : (k : ℕ) → 2 ^ k < 2 ^ 24 → k ≤ 23
pow_small k h = go (below_or_not 23 k)
  where
    go : (23 < k) ⊎ (k ≤ 23) → k ≤ 23
    go (inl g) = absurd (lt_irrefl (2 ^ 24) (lt_of_le_of_lt (pow_mono g) h))
    go (inr g) = g

join : (i : ℕ) → i ≤ 23 → 23 - i + i ≡ 23
join i h = omega arith

-- in tile 1 or further
one_most : (m : ℕ) (e : ℤ) → 1 ≤ to_unsigned 32 (fin false m e) → down e ≤ m * up e
unfolding to_unsigned
one_most m e h = le_trans (le_of_eq (sym (one-mul (down e)))) ((le-div_iff_mul-le (down_pos e)).0 (omega arith))

wide : (A D S N : ℕ) → 0 < D → A * 8388608 ≡ S * D → D ≤ A → A ≤ N * D → (8388608 ≤ S) × (S ≤ N * 8388608)
wide A D S N p e l m = (
  le_of_mul-le-mul_right (le_trans (le_of_eq (mul_comm 8388608 D)) (le_trans (mul-le-mul_right 8388608 l) (le_of_eq e))) p,
  le_of_mul-le-mul_right (le_trans (le_of_eq (sym e)) (le_trans (mul-le-mul_right 8388608 m) (le_of_eq (mul_right_comm N D 8388608)))) p,
)

grid_by : (s : Float) → T (fits binary32 s) → Small s coord_tiles → 1 ≤ to_unsigned 32 s → Grid s
grid_by nan h f l = absurd f
grid_by (inf t) h f l = absurd f
grid_by (fin true m e) h f l = absurd (none l)
  where
    none : 1 ≤ to_unsigned 32 (fin true m e) → ⊥
    none l = unfold to_unsigned in omega (arith, l)
grid_by (fin false m (pos k)) h f l =
    let w = wide (m * 2 ^ k) 1 (m * 2 ^ k * 8388608) coord_tiles (lit< tt) (sym (mul-one (m * 2 ^ k * 8388608))) (one_most m (pos k) l) f in
    record { S = m * 2 ^ k * 8388608; is = (refl, sym (mul-one (m * 2 ^ k * 8388608))); least = w.0; most = w.1 }
grid_by (fin false m (negsuc k)) h f l =
    let b : 2 ^ suc k < 2 ^ 24 = lt_of_le_of_lt (le_trans (one_most m (negsuc k) l) (le_of_eq (mul-one m))) (few_digits false m (negsuc k) h) in
    let j = 23 - suc k in
    let p : 8388608 ≡ 2 ^ j * 2 ^ suc k = ap (λ (i : ℕ). 2 ^ i) (sym (join (suc k) (pow_small (suc k) b))) ∙ pow-add 2 j (suc k) in
    let e : m * 1 * 8388608 ≡ m * 2 ^ j * 2 ^ suc k = ap (λ (z : ℕ). z * 8388608) (mul-one m) ∙ ap (λ (z : ℕ). m * z) p ∙ sym (mul_assoc m (2 ^ j) (2 ^ suc k)) in
    let w = wide (m * 1) (2 ^ suc k) (m * 2 ^ j) coord_tiles (pow_pos (suc k)) e (one_most m (negsuc k) l) f in
    record { S = m * 2 ^ j; is = (refl, e); least = w.0; most = w.1 }

pub grid_of : (p : Float) → in_reach p ≡ true → 1 ≤ to_unsigned 32 (scaled p) → Grid (scaled p)
grid_of p h l = let n = near_of p h in grid_by (scaled p) n.fit n.few l

-- ---- two values over one denominator
module _ (A B K n m c : ℕ) (k : 0 < K) (C : 0 < c) (a : A * c ≡ n * K) (b : B * c ≡ m * K) where
  keep_le : n ≤ m → A ≤ B
  keep_le h = le_of_mul-le-mul_right (le_trans (le_of_eq a) (le_trans (mul-le-mul_right K h) (le_of_eq (sym b)))) C

  keep_lt : n < m → A < B
  keep_lt h = lt_of_mul-lt-mul_right c (subst (λ (z : ℕ). z < B * c) (sym a) (subst (λ (z : ℕ). n * K < z) (sym b) (mul-lt-mul_of_pos_right h k)))

  apart : (s : Bool) → round binary32 s (A - B) K ≡ round binary32 s (n - m) c
  apart s = round_same binary32 s (A - B) K (n - m) c k C (omega (arith, mul-sub c A B, mul_comm c A, mul_comm c B, mul_comm c (A - B), mul-sub K n m, mul_comm K n, mul_comm K m, mul_comm K (n - m)))

-- over the product of both denominators
cross_left : (P D E c n : ℕ) → P * c ≡ n * D → P * E * c ≡ n * (D * E)
cross_left P D E c n h = mul_right_comm P E c ∙ ap (λ (z : ℕ). z * E) h ∙ mul_assoc n D E

cross_right : (P D E c n : ℕ) → P * c ≡ n * E → P * D * c ≡ n * (D * E)
cross_right P D E c n h = mul_right_comm P D c ∙ ap (λ (z : ℕ). z * D) h ∙ mul_assoc n E D ∙ ap (λ (z : ℕ). n * z) (mul_comm E D)

pub value_less : (x y : Float) (n m c : ℕ) → 0 < c → HasValue x false n c → HasValue y false m c → m ≤ n → sub binary32 x y ≡ round binary32 false (n - m) c
unfolding sub
value_less nan y n m c C v w h = absurd v
value_less (inf s) y n m c C v w h = absurd v
value_less (fin true a e) y n m c C v w h = absurd (true≢false v.0)
value_less (fin false a e) nan n m c C v w h = absurd w
value_less (fin false a e) (inf t) n m c C v w h = absurd w
value_less (fin false a e) (fin true b d) n m c C v w h = absurd (true≢false w.0)
value_less (fin false a e) (fin false b d) n m c C v w h =
    let K = down e * down d in
    let A = a * up e * down d in
    let B = b * up d * down e in
    let k = mul-pos (down_pos e) (down_pos d) in
    let p = cross_left (a * up e) (down e) (down d) c n v.1 in
    let q = cross_right (b * up d) (down e) (down d) c m w.1 in
    opened A B K (keep_le B A K m n c k C q p h) ∙ apart A B K n m c k C p q false
  where
    opened : (A B K : ℕ) → B ≤ A → sum binary32 false A true B K ≡ round binary32 false (A - B) K
    opened A B K l = unfold sum in rw (le-ltb A B l) refl

-- a difference that is negative
pub value_minus : (x y : Float) (n m c : ℕ) → 0 < c → HasValue x false n c → HasValue y false m c → n < m → sub binary32 x y ≡ round binary32 true (m - n) c
unfolding sub
value_minus nan y n m c C v w h = absurd v
value_minus (inf s) y n m c C v w h = absurd v
value_minus (fin true a e) y n m c C v w h = absurd (true≢false v.0)
value_minus (fin false a e) nan n m c C v w h = absurd w
value_minus (fin false a e) (inf t) n m c C v w h = absurd w
value_minus (fin false a e) (fin true b d) n m c C v w h = absurd (true≢false w.0)
value_minus (fin false a e) (fin false b d) n m c C v w h =
    let K = down e * down d in
    let A = a * up e * down d in
    let B = b * up d * down e in
    let k = mul-pos (down_pos e) (down_pos d) in
    let p = cross_left (a * up e) (down e) (down d) c n v.1 in
    let q = cross_right (b * up d) (down e) (down d) c m w.1 in
    opened A B K (keep_lt A B K n m c k C p q h) ∙ apart B A K m n c k C q p true
  where
    opened : (A B K : ℕ) → A < B → sum binary32 false A true B K ≡ round binary32 true (B - A) K
    opened A B K l = unfold sum in rw (lt-ltb A B l) refl

pub value_apart : (x y : Float) (n m c : ℕ) → 0 < c → HasValue x false n c → HasValue y false m c → abs_of (sub binary32 x y) ≡ round binary32 false (n - m + (m - n)) c
value_apart x y n m c C v w = go (below_or_not n m)
  where
    same : (a b : ℕ) → b ≤ a → a - b ≡ a - b + (b - a)
    same a b h = omega arith

    other : (a b : ℕ) → a < b → b - a ≡ a - b + (b - a)
    other a b h = omega arith

    go : (n < m) ⊎ (m ≤ n) → abs_of (sub binary32 x y) ≡ round binary32 false (n - m + (m - n)) c
    go (inl h) = ap abs_of (value_minus x y n m c C v w h) ∙ abs_round true (m - n) c ∙ ap (λ (z : ℕ). round binary32 false z c) (other n m h)
    go (inr h) = ap abs_of (value_less x y n m c C v w h) ∙ abs_round false (n - m) c ∙ ap (λ (z : ℕ). round binary32 false z c) (same n m h)

-- -A and B, where B isn't smaller
none_left : (A B : ℕ) → A ≤ B → B ≤ A → A - B ≡ B - A
none_left A B p q = omega arith

plus_side : (A B K : ℕ) → A ≤ B → sum binary32 true A false B K ≡ round binary32 false (B - A) K
plus_side A B K l = unfold sum in go (below_or_not A B)
  where
    go : (A < B) ⊎ (B ≤ A) → cond (ltb A B) (round binary32 false (B - A) K) (round binary32 (true && ltb B A) (A - B) K) ≡ round binary32 false (B - A) K
    go (inl g) = rw (lt-ltb A B g) refl
    go (inr g) = rw (le-ltb A B g, le-ltb B A l) (ap (λ (z : ℕ). round binary32 false z K) (none_left A B l g))

-- both turned
pub value_turned : (x y : Float) (n m c : ℕ) → 0 < c → HasValue x true n c → HasValue y true m c → n ≤ m → sub binary32 x y ≡ round binary32 false (m - n) c
unfolding sub
value_turned nan y n m c C v w h = absurd v
value_turned (inf s) y n m c C v w h = absurd v
value_turned (fin false a e) y n m c C v w h = absurd (false≢true v.0)
value_turned (fin true a e) nan n m c C v w h = absurd w
value_turned (fin true a e) (inf t) n m c C v w h = absurd w
value_turned (fin true a e) (fin false b d) n m c C v w h = absurd (false≢true w.0)
value_turned (fin true a e) (fin true b d) n m c C v w h =
    let K = down e * down d in
    let A = a * up e * down d in
    let B = b * up d * down e in
    let k = mul-pos (down_pos e) (down_pos d) in
    let p = cross_left (a * up e) (down e) (down d) c n v.1 in
    let q = cross_right (b * up d) (down e) (down d) c m w.1 in
    plus_side A B K (keep_le A B K n m c k C p q h) ∙ apart B A K m n c k C q p false

-- -n and m, over one denominator
pub value_mixed : (x y : Float) (n m c : ℕ) → 0 < c → HasValue x true n c → HasValue y false m c
    → (n ≤ m → add binary32 x y ≡ round binary32 false (m - n) c) × (m < n → add binary32 x y ≡ round binary32 true (n - m) c)
unfolding add
value_mixed nan y n m c C v w = absurd v
value_mixed (inf s) y n m c C v w = absurd v
value_mixed (fin false a e) y n m c C v w = absurd (false≢true v.0)
value_mixed (fin true a e) nan n m c C v w = absurd w
value_mixed (fin true a e) (inf t) n m c C v w = absurd w
value_mixed (fin true a e) (fin true b d) n m c C v w = absurd (true≢false w.0)
value_mixed (fin true a e) (fin false b d) n m c C v w =
    let K = down e * down d in
    let A = a * up e * down d in
    let B = b * up d * down e in
    let k = mul-pos (down_pos e) (down_pos d) in
    let p = cross_left (a * up e) (down e) (down d) c n v.1 in
    let q = cross_right (b * up d) (down e) (down d) c m w.1 in (
      λ h. plus_side A B K (keep_le A B K n m c k C p q h) ∙ apart B A K m n c k C q p false,
      λ h. minus_side A B K (keep_lt B A K m n c k C q p h) ∙ apart A B K n m c k C p q true,
    )
  where
    minus_side : (A B K : ℕ) → B < A → sum binary32 true A false B K ≡ round binary32 true (A - B) K
    minus_side A B K l = unfold sum in rw (le-ltb A B (le_of_lt l), lt-ltb B A l) refl

-- ---- the order
pub value_lt : (x y : Float) (n m c : ℕ) → 0 < c → HasValue x false n c → HasValue y false m c → lt x y ≡ ltb n m
unfolding lt
value_lt nan y n m c C v w = absurd v
value_lt (inf s) y n m c C v w = absurd v
value_lt (fin true a e) y n m c C v w = absurd (true≢false v.0)
value_lt (fin false a e) nan n m c C v w = absurd w
value_lt (fin false a e) (inf t) n m c C v w = absurd w
value_lt (fin false a e) (fin true b d) n m c C v w = absurd (true≢false w.0)
value_lt (fin false a e) (fin false b d) n m c C v w = go (below_or_not n m)
  where
    K : ℕ
    K = down e * down d

    k : 0 < K
    k = mul-pos (down_pos e) (down_pos d)

    p : a * up e * down d * c ≡ n * K
    p = cross_left (a * up e) (down e) (down d) c n v.1

    q : b * up d * down e * c ≡ m * K
    q = cross_right (b * up d) (down e) (down d) c m w.1

    go : (n < m) ⊎ (m ≤ n) → ltb (a * up e * down d) (b * up d * down e) ≡ ltb n m
    go (inl h) = lt-ltb (a * up e * down d) (b * up d * down e) (keep_lt (a * up e * down d) (b * up d * down e) K n m c k C p q h) ∙ sym (lt-ltb n m h)
    go (inr h) = le-ltb (a * up e * down d) (b * up d * down e) (keep_le (b * up d * down e) (a * up e * down d) K m n c k C q p h) ∙ sym (le-ltb n m h)

-- ---- floors and ceilings
up_reach : (A D : ℕ) → 0 < D → A ≤ up_div A D * D
up_reach A D p = omega (arith, div-add-mod' (A + (D - 1)) D, mod-lt (A + (D - 1)) p)

up_under : (A D a c : ℕ) → 0 < D → 0 < c → A * c ≡ a * D → up_div A D ≤ up_div a c
up_under A D a c p q e =
    up_most A D (up_div a c) p
    (le_of_mul-le-mul_right (le_trans (le_of_eq e) (le_trans (mul-le-mul_right D (up_reach a c q)) (le_of_eq (mul_right_comm (up_div a c) c D)))) q)

pub up_same_value : (A D a c : ℕ) → 0 < D → 0 < c → A * c ≡ a * D → up_div A D ≡ up_div a c
up_same_value A D a c p q e = le_antisymm (up_under A D a c p q e) (up_under a c A D q p (sym e))

pub floor_at : (x : Float) (n c : ℕ) → 0 < c → HasValue x false n c → floor_of x ≡ whole false (n / c)
unfolding floor_of
floor_at nan n c C v = absurd v
floor_at (inf s) n c C v = absurd v
floor_at (fin true a e) n c C v = absurd (true≢false v.0)
floor_at (fin false a e) n c C v = ap (whole false) (div_same (a * up e) (down e) n c (down_pos e) C v.1)

pub floor_turned : (x : Float) (n c : ℕ) → 0 < c → HasValue x true n c → floor_of x ≡ whole true (up_div n c)
unfolding floor_of
floor_turned nan n c C v = absurd v
floor_turned (inf s) n c C v = absurd v
floor_turned (fin false a e) n c C v = absurd (false≢true v.0)
floor_turned (fin true a e) n c C v = ap (whole true) (up_same_value (a * up e) (down e) n c (down_pos e) C v.1)

pub ceil_at : (x : Float) (n c : ℕ) → 0 < c → HasValue x false n c → ceil_of x ≡ whole false (up_div n c)
unfolding ceil_of
ceil_at nan n c C v = absurd v
ceil_at (inf s) n c C v = absurd v
ceil_at (fin true a e) n c C v = absurd (true≢false v.0)
ceil_at (fin false a e) n c C v = ap (whole false) (up_same_value (a * up e) (down e) n c (down_pos e) C v.1)

-- a whole number, in parts of 1 / c
pub value_scale : (x : Float) (s : Bool) (n c : ℕ) → HasValue x s n 1 → HasValue x s (n * c) c
value_scale nan s n c v = v
value_scale (inf t) s n c v = v
value_scale (fin t m e) s n c v = (v.0, ap (λ (z : ℕ). z * c) (sym (mul-one (m * up e)) ∙ v.1) ∙ mul_right_comm n (down e) c)

-- ---- times 1 or -1
fits_sign : (s t : Bool) (m : ℕ) (e : ℤ) → T (fits binary32 (fin s m e)) → T (fits binary32 (fin t m e))
unfolding fits
fits_sign s t zero e h = h
fits_sign s t (suc m) e h = h

pub times_unit : (t : Bool) (x : Float) (n c : ℕ) → T (fits binary32 x) → HasValue x false n c → HasValue (mul binary32 x (unit t)) t n c
unfolding mul
times_unit t nan n c h v = absurd v
times_unit t (inf s) n c h v = absurd v
times_unit t (fin true m e) n c h v = absurd (true≢false v.0)
times_unit t (fin false m e) n c h v =
    subst (λ (y : Float). HasValue y t n c) (sym (own t)) (refl, v.1)
  where
    plain : (t : Bool) → unlike false t ≡ t
    plain true = refl
    plain false = refl

    own : (t : Bool) → round binary32 (unlike false t) (m * up e * (1 * 1)) (down e * 1) ≡ fin t m e
    own t =
        ap (λ (s : Bool). round binary32 s (m * up e * (1 * 1)) (down e * 1)) (plain t)
        ∙ round_same binary32 t (m * up e * (1 * 1)) (down e * 1) (m * up e) (down e) (subst (λ (z : ℕ). 0 < z) (sym (mul-one (down e))) (down_pos e)) (down_pos e) (omega arith)
        ∙ round_own t m e (fits_sign false t m e h)

-- ---- spans
one_u32 : to_unsigned 32 one ≡ 1
unfolding to_unsigned of_bits
one_u32 = refl

least_one : (d : Float) (k : ℕ) → IsWhole d (pos k) → k ≤ 2 ^ 24 → to_unsigned 32 (cond (lt d one) one d) - 1 ≡ k - 1
least_one d zero w b = rw (lt_whole d one (pos 0) (pos 1) w one_whole) (ap (λ (z : ℕ). z - 1) one_u32)
least_one d (suc k) w b = rw (lt_whole d one (pos (suc k)) (pos 1) w one_whole ∙ le-ltb (suc k) 1 (omega arith)) (ap (λ (z : ℕ). z - 1) (pos_cast d k w (omega arith)).1)

apart_whole : (hi lo : Float) (u q : ℕ) → ceil_of hi ≡ whole false u → floor_of lo ≡ whole false q → q ≤ u → u ≤ 2 ^ 24 → IsWhole (sub binary32 (ceil_of hi) (floor_of lo)) (pos (u - q))
apart_whole hi lo u q p r h b =
    rw (p, r)
    (subst (λ (j : ℤ). IsWhole (sub binary32 (whole false u) (whole false q)) j) (less_plus u q h)
    (sub_whole (whole false u) (whole false q) (pos u) (pos q) (value_whole (whole false u) false u (whole_value false u b)) (value_whole (whole false q) false q (whole_value false q (omega arith)))
    (omega (arith, ap nat_abs (less_plus u q h)))))

-- of the smaller end n and the larger m
pub span_at_lem : (a b : Float) (n m : ℕ) → Near a → Near b → HasValue a false n 8388608 → HasValue b false m 8388608 → n ≤ coord_tiles * 8388608 → m ≤ coord_tiles * 8388608
    → (n ≤ m → span_of a b - 1 ≡ up_div m 8388608 - n / 8388608 - 1) × (m ≤ n → span_of a b - 1 ≡ up_div n 8388608 - m / 8388608 - 1)
span_at_lem a b n m h k v w n_in m_in =
    let f = (span_cast a b h k).1 in
    let t = far.tiles in (
      λ l. ap (λ (z : ℕ). z - 1) (sym f) ∙ least_one (span_at a b) (up_div m 8388608 - n / 8388608) (rising l) (omega arith),
      λ l. ap (λ (z : ℕ). z - 1) (sym f) ∙ least_one (span_at a b) (up_div n 8388608 - m / 8388608) (falling l) (omega arith),
    )
  where
    C : 0 < 8388608
    C = lit< tt

    rising : n ≤ m → IsWhole (span_at a b) (pos (up_div m 8388608 - n / 8388608))
    rising l = go (below_or_not n m)
      where
        go : (n < m) ⊎ (m ≤ n) → IsWhole (span_at a b) (pos (up_div m 8388608 - n / 8388608))
        go (inl g) =
            rw (value_lt a b n m 8388608 C v w ∙ lt-ltb n m g, value_lt b a m n 8388608 C w v ∙ le-ltb m n l)
            (apart_whole b a (up_div m 8388608) (n / 8388608) (ceil_at b m 8388608 C w) (floor_at a n 8388608 C v) (omega arith) (omega (arith, far.tiles)))
        go (inr g) =
            let e : n ≡ m = le_antisymm l g in
            rw (value_lt a b n m 8388608 C v w ∙ le-ltb n m g, value_lt b a m n 8388608 C w v ∙ le-ltb m n l)
            (apart_whole a a (up_div m 8388608) (n / 8388608) (ceil_at a n 8388608 C v ∙ ap (λ (z : ℕ). whole false (up_div z 8388608)) e) (floor_at a n 8388608 C v) (omega arith)
            (omega (arith, far.tiles)))

    falling : m ≤ n → IsWhole (span_at a b) (pos (up_div n 8388608 - m / 8388608))
    falling l = go (below_or_not m n)
      where
        go : (m < n) ⊎ (n ≤ m) → IsWhole (span_at a b) (pos (up_div n 8388608 - m / 8388608))
        go (inl g) =
            rw (value_lt a b n m 8388608 C v w ∙ le-ltb n m l, value_lt b a m n 8388608 C w v ∙ lt-ltb m n g)
            (apart_whole a b (up_div n 8388608) (m / 8388608) (ceil_at a n 8388608 C v) (floor_at b m 8388608 C w) (omega arith) (omega (arith, far.tiles)))
        go (inr g) =
            let e : n ≡ m = le_antisymm g l in
            rw (value_lt a b n m 8388608 C v w ∙ le-ltb n m l, value_lt b a m n 8388608 C w v ∙ le-ltb m n g)
            (apart_whole a a (up_div n 8388608) (m / 8388608) (ceil_at a n 8388608 C v) (floor_at a n 8388608 C v ∙ ap (λ (z : ℕ). whole false (z / 8388608)) e) (omega arith)
            (omega (arith, far.tiles)))
