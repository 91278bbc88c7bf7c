-- Where a segment's share of a pixel is no NaN: its ends in the row, taken from the pixel's left side, are finite and not huge, and the right one isn't far to the
-- left. There 1e-6 taken from x_min isn't lost, so what is divided by isn't 0. Assumes nothing.
--     big_round, big_add, big_mul   sizes up to powers of two
--     half_unit      the error of rounding, half a unit of the last place, up to 32
--     strict         less epsilon is less, from -31.5 to 1
--     share_number   the share is no NaN
use mathlib.Core.Path.{◌≡◌, refl, sym, ap, ◌∙◌, subst}
use mathlib.Core.Bool.{Bool, true, false, not, true≢false}
use mathlib.Core.Logic.{⊎_elim}
use Prim.Native.Nat.{ℕ, suc, zero, ◌+◌, ◌-◌, ◌*◌, ◌/◌, ◌^◌, ◌≤◌, ◌<◌}
use native.Mathlib.Nat.{le_trans, le_of_eq, mul-pos, mul-one, one-mul, zero-mul, mul-le-mul_right, mul-le-mul, le_of_mul-le-mul_right, mul-div_cancel, mul-mul-mul_comm, pow-suc}
use native.Mathlib.Omega.{arith}
use lib.Dec.{T, ltb, eqb-suc-zero, lit<, lit≤}
use lib.IntN.{ℤ, negsuc}
use lib.Pow.{pow-add, pow_pos, pow_mono, pow-lt}
use lib.Ieee.{Float, nan, inf, fin, binary32, up, down, unlike, size, round, add, sub, mul, div, neg, lt, eq, le, fits, is_nan, of_bits}
use lib.Ieee.Bits.{is_true}
use lib.Ieee.Digits.{size-le}
use lib.Ieee.Exact.{HasValue, round_exact}
use lib.Ieee.Fits.{down_pos, sub-fits}
use lib.Ieee.Order.{round_mono, kept, drop}
use lib.Ieee.Scale.{finite, grid}
use borrow.Author.Tests.{lt-ltb}
use Rattle.float32.specs.Meaning.{abs_of, min_of, max_of}
use Rattle.float32.proofs.Order.{not_lt_of_le, le_of_not_lt}
use Rattle.float32.proofs.Whole.{round_no_nan}
use Rattle.float32.proofs.Tests.{below_or_not}
use Rattle.float32.proofs.MinMax.{min_picks, max_picks, min_right, max_right}
use Rattle.exact.specs.Whole.{Small}
use Rattle.exact.proofs.Bounds.{small_finite, finite_number, small_more}
use Rattle.errors.specs.Sizes.{parts, Is}
use Rattle.errors.proofs.Relative.{closest_half}
use Rattle.errors.proofs.Sizes.{sub_small, round_below}
use Rattle.errors.proofs.Parts.{parts_pos, round_parts}
use Rattle.util.specs.Constants as Number
use Rattle.rounded.specs.Share.{low_of, held_of, share_of}
use Rattle.rounded.proofs.Rises.{Rd, rd_order}
use Rattle.rounded.proofs.Numbers.{zero_number, one_number}
use Rattle.sum_theorems.proofs.Signed.{At, Place, own_at, own_rd, sub_rd, rd_abs, rd_size, rd_number, at_order, at_plus, at_minus}
use Rattle.sum_theorems.proofs.Tame.{of_most, sum_size, mul_small, half_small}
use Rattle.sum_theorems.proofs.Shares.{Eps, eps_of, eps_place, parts_same, parts_many, wide, taken_bound, zero_at, one_at, zero_fits, one_fits, at_finite, at_number, low_fits, low_under}
use Rattle.sum_theorems.proofs.Rows.{unit_small}

-- ---- sizes up to powers of two
pow_exact : (j : ℕ) → j ≤ 126 → HasValue (round binary32 false (2 ^ j) 1) false (2 ^ j) 1
pow_exact j h =
    let o : j + 149 < 277 = omega (arith, h) in
    let q : 2 ^ (j + 149) < 2 ^ 277 = pow-lt o in
    round_exact binary32 false (2 ^ j) 1 1 (j + 149) (lit< tt) (lit< tt) (subst (λ (z : ℕ). z < 2 ^ 277) (sym (one-mul (2 ^ (j + 149)))) q)
    (sym (mul-one (1 * 2 ^ (j + 149)) ∙ one-mul (2 ^ (j + 149)) ∙ pow-add 2 j 149))

pub big_round : (s : Bool) (a c j : ℕ) → 0 < c → j ≤ 126 → a ≤ 2 ^ j * c → Small (round binary32 s a c) (2 ^ j)
big_round s a c j C b h = of_most (round binary32 s a c) (2 ^ j) (round_below s a c (2 ^ j) 1 C (lit< tt) (pow_exact j b) (le_trans (le_of_eq (mul-one a)) h))

pub big_add : (x y : Float) (j : ℕ) → j ≤ 125 → Small x (2 ^ j) → Small y (2 ^ j) → Small (add binary32 x y) (2 ^ suc j)
unfolding add
big_add nan y j b h k = absurd h
big_add (inf s) y j b h k = absurd h
big_add (fin s m e) nan j b h k = absurd k
big_add (fin s m e) (inf t) j b h k = absurd k
big_add (fin s m e) (fin t n d) j b h k =
    let w = sum_size s (m * up e * down d) t (n * up d * down e) (down e * down d) in
    subst (λ (y : Float). Small y (2 ^ suc j)) (sym w.2)
    (big_round w.0 w.1 (down e * down d) (suc j) (mul-pos (down_pos e) (down_pos d)) (omega (arith, b))
    (over (m * up e) (down e) (n * up d) (down d) (2 ^ j) (2 ^ suc j) w.1 (pow-suc 2 j) h k w.3))
  where
    over : (A D B E N M k : ℕ) → M ≡ N * 2 → A ≤ N * D → B ≤ N * E → k ≤ A * E + B * D → k ≤ M * (D * E)
    over A D B E N M k z h l o =
        let u : A * E ≤ N * D * E = mul-le-mul_right E h in
        let v : B * D ≤ N * E * D = mul-le-mul_right D l in
        let q : M * (D * E) ≡ N * 2 * (D * E) = ap (λ (x : ℕ). x * (D * E)) z in
        omega (arith, u, v, q, o)

small_neg : (x : Float) (N : ℕ) → Small x N → Small (neg x) N
unfolding neg
small_neg nan N h = h
small_neg (inf s) N h = h
small_neg (fin s m e) N h = h

pub big_sub : (x y : Float) (j : ℕ) → j ≤ 125 → Small x (2 ^ j) → Small y (2 ^ j) → Small (sub binary32 x y) (2 ^ suc j)
unfolding sub
big_sub x y j b h k = big_add x (neg y) j b h (small_neg y (2 ^ j) k)

pub big_mul : (x y : Float) (i j : ℕ) → i + j ≤ 126 → Small x (2 ^ i) → Small y (2 ^ j) → Small (mul binary32 x y) (2 ^ (i + j))
unfolding mul
big_mul nan y i j b h k = absurd h
big_mul (inf s) y i j b h k = absurd h
big_mul (fin s m e) nan i j b h k = absurd k
big_mul (fin s m e) (inf t) i j b h k = absurd k
big_mul (fin s m e) (fin t n d) i j b h k =
    big_round (unlike s t) (m * up e * (n * up d)) (down e * down d) (i + j) (mul-pos (down_pos e) (down_pos d)) b
    (le_trans (mul-le-mul h k) (le_of_eq (mul-mul-mul_comm (2 ^ i) (down e) (2 ^ j) (down d) ∙ ap (λ (z : ℕ). z * (down e * down d)) (sym (pow-add 2 i j)))))

pub big_more : (x : Float) (i j : ℕ) → i ≤ j → Small x (2 ^ i) → Small x (2 ^ j)
big_more x i j h k = small_more x (2 ^ i) (2 ^ j) (pow_mono h) k

-- ---- half a unit of the last place, up to 32
pub record Half (x : Float) (n : ℕ) : Type 0 where
  pub g : ℕ
  pub is : Is x g
  pub unit : ℕ
  pub few : unit * 524288 ≤ parts
  pub low : n * 2 ≤ g * 2 + unit

half_unit : (n : ℕ) → n < 32 * parts → T (finite (round binary32 false n parts)) → Half (round binary32 false n parts) n
unfolding parts
half_unit n h f =
    let k = drop 24 (n * 2 ^ 149) (2 ^ 149) in
    record {
      g = grid binary32 n (2 ^ 149);
      is = round_parts n (2 ^ 149) f;
      unit = 2 ^ k;
      few = mul-le-mul_right 524288 (pow_mono {i = k} {j = 130} (digits n h));
      low = cancel n (kept 24 (n * 2 ^ 149) (2 ^ 149)) (2 ^ k) (2 ^ 149) (pow_pos 149) (closest_half (n * 2 ^ 149) (2 ^ 149 * 2 ^ k) (mul-pos (pow_pos 149) (pow_pos k))).1;
    }
  where
    cancel : (n C K P : ℕ) → 0 < P → n * P * 2 ≤ C * (P * K) * 2 + P * K → n * 2 ≤ C * K * 2 + K
    cancel n C K P p h = le_of_mul-le-mul_right (omega (arith, h)) p

    less : (z : ℕ) → z ≤ 154 → z - 24 ≤ 130
    less z h = omega arith

    digits : (n : ℕ) → n < 2 ^ 154 → size (n * 2 ^ 149 / 2 ^ 149) - 24 ≤ 130
    digits n h = less (size (n * 2 ^ 149 / 2 ^ 149)) (subst (λ (z : ℕ). size z ≤ 154) (sym (mul-div_cancel n (pow_pos 149))) (size-le n 154 h))

-- ---- less epsilon is less
module _ (m : Float) (pm nm e : ℕ) (hm : At m pm nm) (he : Eps e) (few : pm ≤ nm + parts) (left : nm * 2 ≤ pm * 2 + 63 * parts)
    (px nx : ℕ) (hx : At (sub binary32 m Number.epsilon) px nx) where
  abbrev taken : Float
  taken = sub binary32 m Number.epsilon

  taken_rd : Rd taken (pm + 0) (nm + e) parts
  taken_rd = sub_rd m Number.epsilon pm nm e 0 hm he.at

  -- m is epsilon at least
  far : nm + e ≤ pm → px + nm < pm + nx
  far above =
      let z = at_plus m pm nm hm (omega (arith, above)) in
      let bound = taken_bound m pm nm e px nx hm he hx above few in
      let w = wide (px + nx) (pm + 0 - (nm + e)) pm e parts (pm - (px + nx)) (omega (arith, z, above)) bound (omega (arith, few, z)) he.many parts_many (omega arith) in
      omega (arith, some pm (px + nx) parts parts_pos w, z)
    where
      some : (a g P : ℕ) → 0 < P → P ≤ (a - g) * 2097152 → g < a
      some a g P p h = omega arith

  -- or below it
  close : pm < nm + e → px + nm < pm + nx
  close below =
      let n = pm + 0 - (nm + e) + (nm + e - (pm + 0)) in
      let minus : px + 0 ≤ 0 + nx = at_order taken Number.zero px nx 0 0 hx zero_at
      (rd_order taken (pm + 0) (nm + e) parts Number.zero 0 0 parts parts_pos parts_pos taken_rd (own_rd Number.zero 0 0 zero_fits zero_at) (omega (arith, mul-le-mul_right parts below))) in
      let z = at_minus taken px nx hx (omega (arith, minus)) in
      let sized = rd_size taken (pm + 0) (nm + e) parts taken_rd in
      let fin' : T (finite (round binary32 false n parts)) = subst (λ (y : Float). T (finite y)) sized (abs_finite taken px nx hx) in
      let half = half_unit n (small pm nm e parts few left he.under) fin' in
      let same = parts_same taken px nx half.g hx (subst (λ (y : Float). Is y half.g) (sym sized) half.is) in
      last pm nm e half.g half.unit parts px nx parts_pos below half.low half.few he.more same z
    where
      abs_finite : (x : Float) (p n : ℕ) → At x p n → T (finite (abs_of x))
      abs_finite nan p n h = absurd h
      abs_finite (inf s) p n h = absurd h
      abs_finite (fin s m e) p n h = unfold abs_of in tt

      small : (p n e P : ℕ) → p ≤ n + P → n * 2 ≤ p * 2 + 63 * P → e * 4 < P → p + 0 - (n + e) + (n + e - (p + 0)) < 32 * P
      small p n e P a b c = omega arith

      last : (p n e g u P px nx : ℕ) → 0 < P → p < n + e → (p + 0 - (n + e) + (n + e - (p + 0))) * 2 ≤ g * 2 + u → u * 524288 ≤ P → P * 33 ≤ e * 33554432 → px + nx ≡ g → px ≡ 0 → px + n < p + nx
      last p n e g u P px nx o a b c d s z = omega arith

  pub strict : px + nm < pm + nx
  strict = ⊎_elim close far (below_or_not pm (nm + e))

-- ---- the quotient

-- the least number above 0
abbrev tiny : Float
tiny = fin false 1 (negsuc 148)

tiny_is : round binary32 false 1 parts ≡ tiny
unfolding parts round
tiny_is = refl

div_number : (u w : Float) → T (finite u) → T (not (is_nan w)) → lt (abs_of w) tiny ≡ false → div binary32 u w ≡ nan → ⊥
unfolding lt abs_of is_nan
div_number nan w f n h e = f
div_number (inf s) w f n h e = f
div_number (fin s m e) nan f n h q = n
div_number (fin s m e) (inf t) f n h q = some (div binary32 (fin s m e) (inf t)) (unfold div in tt) q
  where
    some : (x : Float) → T (finite x) → x ≡ nan → ⊥
    some x t e = subst (λ (y : Float). T (finite y)) e t
div_number (fin s m e) (fin t zero d) f n h q = none (0 * up d * 2 ^ 149) (1 * down d) (ap (λ (z : ℕ). z * 2 ^ 149) (zero-mul (up d)) ∙ zero-mul (2 ^ 149)) (omega (arith, down_pos d)) h
  where
    none : (a b : ℕ) → a ≡ 0 → 0 < b → ltb a b ≡ false → ⊥
    none a b z p h = true≢false (sym (lt-ltb a b (omega (arith, z, p))) ∙ h)
div_number (fin s m e) (fin t (suc k) d) f n h q =
    some (div binary32 (fin s m e) (fin t (suc k) d)) (number s m e t k d) q
  where
    some : (x : Float) → T (not (is_nan x)) → x ≡ nan → ⊥
    some x t e = subst (λ (y : Float). T (not (is_nan y))) e t

    number : (s : Bool) (m : ℕ) (e : ℤ) (t : Bool) (k : ℕ) (d : ℤ) → T (not (is_nan (div binary32 (fin s m e) (fin t (suc k) d))))
    number s m e t k d = unfold div in rw (eqb-suc-zero k) (round_no_nan (unlike s t) (m * up e * down d) (suc k * up d * down e))

-- x less than r
gap_number : (u x r : Float) (px nx pr nr : ℕ) → T (finite u) → At x px nx → At r pr nr → px + nr < pr + nx → div binary32 u (sub binary32 r x) ≡ nan → ⊥
gap_number u x r px nx pr nr f hx hr o =
    let w = sub_rd r x pr nr px nx hr hx in
    let k = pr + nx - (nr + px) in
    let one' : 1 ≤ k = omega (arith, o) in
    div_number u (sub binary32 r x) f (rd_number (sub binary32 r x) (pr + nx) (nr + px) parts w)
    (rw (rd_abs (sub binary32 r x) (pr + nx) (nr + px) parts w (omega (arith, o)))
    (ap (lt (round binary32 false k parts)) (sym tiny_is)
    ∙ not_lt_of_le (round binary32 false 1 parts) (round binary32 false k parts)
    (is_true (le (round binary32 false 1 parts) (round binary32 false k parts)) (round_mono binary32 1 parts k parts parts_pos parts_pos (mul-le-mul_right parts one')))))

-- ---- the share
eps_small : Small Number.epsilon 1
unfolding of_bits
eps_small = omega arith

one_small : Small Number.one 1
unfolding of_bits
one_small = omega arith

pub zero_one : le Number.zero Number.one ≡ true
unfolding le lt eq of_bits
zero_one = refl

module _ (l r : Float) (fl : T (fits binary32 l)) (fr : T (fits binary32 r)) (hl : Small l (2 ^ 113)) (hr : Small r (2 ^ 113)) (order : lt r l ≡ false)
    (pr nr : ℕ) (ar : At r pr nr) (right : nr * 2 ≤ pr * 2 + 63 * parts) where
  abbrev m : Float
  m = min_of l Number.one

  abbrev x : Float
  x = low_of l

  number : T (not (is_nan l))
  number = finite_number l (small_finite l (2 ^ 113) hl)

  one_big : (j : ℕ) → Small Number.one (2 ^ j)
  one_big j = small_more Number.one 1 (2 ^ j) (pow_pos j) one_small

  m_small : Small m (2 ^ 113)
  m_small = ⊎_elim (λ e. subst (λ (y : Float). Small y (2 ^ 113)) (sym e) hl) (λ e. subst (λ (y : Float). Small y (2 ^ 113)) (sym e) (one_big 113)) (min_picks l Number.one)

  x_small : Small x (2 ^ 114)
  x_small = big_sub m Number.epsilon 113 (lit≤ tt) m_small (small_more Number.epsilon 1 (2 ^ 113) (pow_pos 113) eps_small)

  vm : Place m
  vm = own_at m (low_fits l r fl fr number order) (small_finite m (2 ^ 113) m_small)

  vx : Place x
  vx = own_at x (sub-fits binary32 m Number.epsilon) (small_finite x (2 ^ 114) x_small)

  under : vm.p + nr ≤ pr + vm.n
  under = at_order m r vm.p vm.n pr nr vm.at ar (low_under l r fl fr number order (at_finite r pr nr ar))

  most : vm.p + 0 ≤ parts + vm.n
  most = at_order m Number.one vm.p vm.n parts 0 vm.at one_at (not_lt_of_le m Number.one (min_right l Number.one one_number))

  -- x isn't above m
  down_x : lt m x ≡ false
  down_x =
      let e = eps_of eps_place in
      rd_order x (vm.p + 0) (vm.n + eps_place.p) parts m vm.p vm.n parts parts_pos parts_pos (sub_rd m Number.epsilon vm.p vm.n eps_place.p 0 vm.at e.at)
      (own_rd m vm.p vm.n (low_fits l r fl fr number order) vm.at) (omega arith)

  x_under : vx.p + vm.n ≤ vm.p + vx.n
  x_under = at_order x m vx.p vx.n vm.p vm.n vx.at vm.at down_x

  x_less : vx.p + nr < pr + vx.n
  x_less = ⊎_elim (λ o. omega (arith, o, x_under)) same (below_or_not (vm.p + nr) (pr + vm.n))
    where
      same : pr + vm.n ≤ vm.p + nr → vx.p + nr < pr + vx.n
      same o =
          let e = eps_of eps_place in
          let t : vx.p + vm.n < vm.p + vx.n = strict m vm.p vm.n eps_place.p vm.at e (omega (arith, most)) (omega (arith, o, right)) vx.p vx.n vx.at in
          omega (arith, t, under)

  -- what is divided is finite
  x_one : lt Number.one x ≡ false
  x_one =
      rd_order x vx.p vx.n parts Number.one parts 0 parts parts_pos parts_pos (own_rd x vx.p vx.n (sub-fits binary32 m Number.epsilon) vx.at)
      (own_rd Number.one parts 0 one_fits one_at)
      (omega (arith, mul-le-mul_right parts (less vx.p vx.n vm.p vm.n parts x_under most)))
    where
      less : (a b c d P : ℕ) → a + d ≤ c + b → c + 0 ≤ P + d → a ≤ P + b
      less a b c d P h k = omega arith

  abbrev b : Float
  b = min_of r Number.one

  c_small : Small (max_of b Number.zero) 1
  c_small =
      unit_small (max_of b Number.zero) (max_right b Number.zero zero_number)
      (⊎_elim (λ e. ap (λ (y : Float). le y Number.one) e ∙ min_right r Number.one one_number) (λ e. ap (λ (y : Float). le y Number.one) e ∙ zero_one) (max_picks b Number.zero))

  d_small : Small (max_of x Number.zero) 1
  d_small =
      unit_small (max_of x Number.zero) (max_right x Number.zero zero_number)
      (⊎_elim (λ e. ap (λ (y : Float). le y Number.one) e ∙ le_of_not_lt x Number.one (at_number x vx.p vx.n vx.at) one_number x_one)
      (λ e. ap (λ (y : Float). le y Number.one) e ∙ zero_one) (max_picks x Number.zero))

  b_small : Small b (2 ^ 113)
  b_small = ⊎_elim (λ e. subst (λ (y : Float). Small y (2 ^ 113)) (sym e) hr) (λ e. subst (λ (y : Float). Small y (2 ^ 113)) (sym e) (one_big 113)) (min_picks r Number.one)

  over_small : Small (sub binary32 (held_of x r) x) (2 ^ 115)
  over_small =
      let c = max_of b Number.zero in
      let d = max_of x Number.zero in
      let t = sub binary32 (mul binary32 d d) (mul binary32 c c) in
      let ht : Small t 2 = sub_small (mul binary32 d d) (mul binary32 c c) 1 1 (lit≤ tt) (mul_small d d 1 1 (lit≤ tt) d_small d_small) (mul_small c c 1 1 (lit≤ tt) c_small c_small) in
      let hh : Small (mul binary32 Number.half t) (2 ^ 113) = small_more (mul binary32 Number.half t) 1 (2 ^ 113) (pow_pos 113) (half_small t 1 (lit≤ tt) ht) in
      big_sub (held_of x r) x 114 (lit≤ tt) (big_add b (mul binary32 Number.half t) 113 (lit≤ tt) b_small hh) x_small

  pub share_number : share_of l r ≡ nan → ⊥
  share_number =
      gap_number (sub binary32 (held_of x r) x) x r vx.p vx.n pr nr (small_finite (sub binary32 (held_of x r) x) (2 ^ 115) over_small) vx.at ar x_less
