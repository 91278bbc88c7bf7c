-- The correction of a, and z of a step, in parts. Assumes nothing.
--     corrected     a after its correction: 2 ^ -21 away at most
--     z_over, z-below   z, for an a that isn't negative and for one that is
use mathlib.Core.Path.{◌≡◌, refl, sym, ap, ◌∙◌, subst}
use mathlib.Core.Bool.{Bool, true, false, cond, true≢false, false≢true}
use mathlib.Core.Logic.{◌⊎◌, inl, inr}
use Prim.Native.Nat.{ℕ, ◌+◌, ◌-◌, ◌*◌, ◌/◌, ◌^◌, ◌≤◌, ◌<◌}
use native.Mathlib.Nat.{
  le_trans,
  le_of_eq,
  le_of_lt,
  mul-one,
  mul_assoc,
  mul_comm,
  mul_right_comm,
  add-mul,
  mul-pos,
  mul-le-mul,
  mul-le-mul_right,
  le_of_mul-le-mul_right,
  div-mul-le_self,
  lt-div-mul-add,
}
use native.Mathlib.Omega.{arith}
use lib.Dec.{T, lit≤}
use lib.IntN.{pos, negsuc}
use lib.Ieee.{Float, nan, inf, fin, binary32, up, down, unlike, round, add, sub, mul, neg}
use lib.Ieee.Fits.{down_pos}
use lib.Ieee.Exact.{HasValue}
use lib.Ieee.Nearest.{div_same}
use lib.Ieee.Scale.{round_same, finite}
use Rattle.float32.specs.Meaning.{up_div, signed}
use Rattle.float32.proofs.Tests.{below_or_not}
use Rattle.float32.proofs.Laws.{up_most}
use Rattle.exact.specs.Whole.{floor_z}
use Rattle.exact.proofs.Exact.{round_signed}
use Rattle.exact.proofs.Signs.{plus_of, minus_of, neg_plus, neg_minus}
use Rattle.errors.specs.Sizes.{parts, Is}
use Rattle.errors.proofs.Parts.{parts_pos, add_is}
use Rattle.errors.proofs.Rounds.{round_error}
use Rattle.margin.proofs.Ends.{value_less, value_minus, value_mixed}
use Rattle.margin.proofs.Shares.{big}
use Rattle.margin.proofs.Stays.{sum_high, sum_low, Held, held, held_low, held_below}

-- ---- a number of parts, rounded
pub record Rounding (x : Float) (s : Bool) (n : ℕ) : Type 0 where
  pub g : ℕ
  pub is : HasValue x s g parts
  pub high : g * 16777216 ≤ n * 16777217 + 16777216
  pub low : n * 16777216 ≤ g * 16777218 + 16777216

sign_value : (s : Bool) (y : Float) (g c : ℕ) → HasValue y false g c → HasValue (signed s y) s g c
unfolding signed
sign_value s nan g c v = v
sign_value s (inf t) g c v = v
sign_value s (fin t m e) g c v = (refl, v.1)

cancel : (x y c L : ℕ) → 0 < L → x * L ≤ y * L + c * L → x ≤ y + c
cancel x y c L l h = le_of_mul-le-mul_right (le_trans h (le_of_eq (sym (add-mul y c L)))) l

pub rounding : (s : Bool) (n : ℕ) → n ≤ 65536 * parts → Rounding (round binary32 s n parts) s n
rounding s n b =
    let e = round_error n parts 65536 parts_pos (lit≤ tt) b in
    let g = e.g in
    record {
      g = g;
      is = subst (λ (y : Float). HasValue y s g parts) (sym (round_signed s n parts)) (sign_value s (round binary32 false n parts) g parts e.is);
      high = cancel (g * 16777216) (n * 16777217) 16777216 parts parts_pos (tidy_high g n parts e.high);
      low = cancel (n * 16777216) (g * 16777218) 16777216 parts parts_pos (tidy_low g n parts e.low);
    }
  where
    tidy_high : (g n L : ℕ) → g * L * 16777216 ≤ n * L * 16777217 + L * 16777216 → g * 16777216 * L ≤ n * 16777217 * L + 16777216 * L
    tidy_high g n L h = omega (arith, mul_right_comm g L 16777216, mul_right_comm n L 16777217, mul_comm L 16777216)

    tidy_low : (g n L : ℕ) → n * L * 16777216 ≤ g * L * 16777218 + L * 16777216 → n * 16777216 * L ≤ g * 16777218 * L + 16777216 * L
    tidy_low g n L h = omega (arith, mul_right_comm g L 16777218, mul_right_comm n L 16777216, mul_comm L 16777216)

small_big : 1099511627776 ≤ parts
small_big = le_trans (lit≤ tt) big

-- ---- the correction
pub record Over (a : Float) (A : ℕ) : Type 0 where
  pub K : ℕ
  pub is : Is a K
  pub high : K * 2097152 ≤ A * 2097152 + parts
  pub low : A * 2097152 ≤ K * 2097152 + parts

pub record Under (a : Float) (A : ℕ) : Type 0 where
  pub K : ℕ
  pub is : HasValue a true K parts
  pub few : A * 4194304 ≤ parts
  pub most : K * 4194304 ≤ parts

epsilon_is : HasValue (fin false 14073749 (negsuc 45)) false (14073749 * 2 ^ 103) parts
unfolding parts
epsilon_is = (refl, refl)

epsilon_few : 14073749 * 2 ^ 103 * 4900000 ≤ parts
unfolding parts
epsilon_few = lit≤ tt

own : (A L : ℕ) → (A * 2097152 ≤ A * 2097152 + L) × (A * 2097152 ≤ A * 2097152 + L)
own A L = (omega arith, omega arith)

more : (A E K L : ℕ) → E * 4194304 ≤ L → A ≤ 2 * L → 1099511627776 ≤ L → K * 16777216 ≤ (A + E) * 16777217 + 16777216 → (A + E) * 16777216 ≤ K * 16777218 + 16777216
    → (K * 2097152 ≤ A * 2097152 + L) × (A * 2097152 ≤ K * 2097152 + L)
more A E K L e a l h g = (omega arith, omega arith)

less : (A E K L : ℕ) → E * 4194304 ≤ L → A * 1048576 ≤ 1048577 * L → E ≤ A → 1099511627776 ≤ L → K * 16777216 ≤ (A - E) * 16777217 + 16777216 → (A - E) * 16777216 ≤ K * 16777218 + 16777216
    → (K * 2097152 ≤ A * 2097152 + L) × (A * 2097152 ≤ K * 2097152 + L)
less A E K L e a d l h g = (omega arith, omega arith)

turned : (A E K L : ℕ) → E * 4900000 ≤ L → A < E → 1237940039285380274899124224 ≤ L → K * 16777216 ≤ (E - A) * 16777217 + 16777216 → (A * 4194304 ≤ L) × (K * 4194304 ≤ L)
turned A E K L e a l h = (omega arith, omega arith)

weak_e : (E L : ℕ) → E * 4900000 ≤ L → E * 4194304 ≤ L
weak_e E L h = omega arith

weak_a : (A L : ℕ) → A * 16777216 ≤ 16777232 * L → A ≤ 2 * L
weak_a A L h = omega arith

weak_b : (A L : ℕ) → A * 16777216 ≤ 16777232 * L → A * 1048576 ≤ 1048577 * L
weak_b A L h = omega arith

twice : (A E L : ℕ) → E * 4900000 ≤ L → A * 16777216 ≤ 16777232 * L → A + E ≤ 65536 * L
twice A E L e a = omega arith

abbrev pub Moved : Float → ℕ → Type 0
Moved a A = Over a A ⊎ Under a A

pub corrected : (x : Float) (A : ℕ) → Is x A → A * 16777216 ≤ 16777232 * parts → (t s : Bool) → Moved (cond t (sub binary32 x (fin s 14073749 (negsuc 45))) x) A
corrected x A v b false s = let o = own A parts in inl (record { K = A; is = v; high = o.0; low = o.1 })
corrected x A v b true s = by s (14073749 * 2 ^ 103) epsilon_is epsilon_few
  where
    plain : sub binary32 x (fin true 14073749 (negsuc 45)) ≡ add binary32 x (fin false 14073749 (negsuc 45))
    plain = unfold sub neg in refl

    down_by : (E : ℕ) → HasValue (fin false 14073749 (negsuc 45)) false E parts → E * 4900000 ≤ parts → (A < E) ⊎ (E ≤ A) → Moved (sub binary32 x (fin false 14073749 (negsuc 45))) A
    down_by E e f (inl h) =
        let r = rounding true (E - A) (omega (arith, twice A E parts f b)) in
        let o = turned A E r.g parts f h big r.high in
        let i : HasValue (sub binary32 x (fin false 14073749 (negsuc 45))) true r.g parts =
        subst (λ (y : Float). HasValue y true r.g parts) (sym (value_minus x (fin false 14073749 (negsuc 45)) A E parts parts_pos v e h)) r.is in
        inr (record { K = r.g; is = i; few = o.0; most = o.1 })
    down_by E e f (inr h) =
        let r = rounding false (A - E) (omega (arith, twice A E parts f b)) in
        let o = less A E r.g parts (weak_e E parts f) (weak_b A parts b) h small_big r.high r.low in
        inl (record { K = r.g; is = subst (λ (y : Float). Is y r.g) (sym (value_less x (fin false 14073749 (negsuc 45)) A E parts parts_pos v e h)) r.is; high = o.0; low = o.1 })

    by : (s : Bool) (E : ℕ) → HasValue (fin false 14073749 (negsuc 45)) false E parts → E * 4900000 ≤ parts → Moved (sub binary32 x (fin s 14073749 (negsuc 45))) A
    by false E e f = down_by E e f (below_or_not A E)
    by true E e f =
        let r = rounding false (A + E) (twice A E parts f b) in
        let o = more A E r.g parts (weak_e E parts f) (weak_a A parts b) small_big r.high r.low in
        inl (record { K = r.g; is = subst (λ (y : Float). Is y r.g) (sym (plain ∙ add_is x (fin false 14073749 (negsuc 45)) A E v e)) r.is; high = o.0; low = o.1 })

-- ---- a times i: i as a float is i * parts
product_at : (s : Bool) (x y : Float) (K i : ℕ) → HasValue x s K parts → HasValue y false i 1 → mul binary32 x y ≡ round binary32 s (K * i) parts
unfolding mul
product_at s nan y K i v w = absurd v
product_at s (inf t) y K i v w = absurd v
product_at s (fin t a e) nan K i v w = absurd w
product_at s (fin t a e) (inf u) K i v w = absurd w
product_at s (fin t a e) (fin true b d) K i v w = absurd (true≢false w.0)
product_at s (fin t a e) (fin false b d) K i v w =
    ap (λ (u : Bool). round binary32 u (a * up e * (b * up d)) (down e * down d)) (plain t ∙ v.0)
    ∙ round_same binary32 s (a * up e * (b * up d)) (down e * down d) (K * i) parts (mul-pos (down_pos e) (down_pos d)) parts_pos
    (mul_right_comm (a * up e) (b * up d) parts ∙ ap (λ (z : ℕ). z * (b * up d)) v.1 ∙ ap (λ (z : ℕ). K * down e * z) (sym (mul-one (b * up d)) ∙ w.1)
    ∙ native.Mathlib.Nat.mul-mul-mul_comm K (down e) i (down d))
  where
    plain : (t : Bool) → unlike t false ≡ t
    plain true = refl
    plain false = refl

-- ---- floors
floor_over : (v : Float) (W : ℕ) → Is v W → floor_z v ≡ pos (W / parts)
unfolding floor_z
floor_over nan W h = absurd h
floor_over (inf s) W h = absurd h
floor_over (fin true m e) W h = absurd (true≢false h.0)
floor_over (fin false m e) W h = ap pos (div_same (m * up e) (down e) W parts (down_pos e) parts_pos h.1)

floor_under : (v : Float) (g : ℕ) → HasValue v true g parts → g ≤ parts → (plus_of (floor_z v) ≤ 0) × (minus_of (floor_z v) ≤ 1)
unfolding floor_z
floor_under nan g h b = absurd h
floor_under (inf s) g h b = absurd h
floor_under (fin false m e) g h b = absurd (false≢true h.0)
floor_under (fin true m e) g h b =
    let u = up_div (m * up e) (down e) in
    let l : m * up e ≤ 1 * down e =
    le_of_mul-le-mul_right
    (le_trans (le_of_eq h.1) (le_trans (mul-le-mul_right (down e) b) (le_of_eq (mul_comm parts (down e) ∙ ap (λ (z : ℕ). z * parts) (sym (native.Mathlib.Nat.one-mul (down e))))))) parts_pos in
    let m1 = up_most (m * up e) (down e) 1 (down_pos e) l in
    (omega (arith, neg_plus (pos u)), omega (arith, neg_minus (pos u)))

-- ---- z
-- v is finite, and its floor stays within one column and one row
pub record Kept (v : Float) (i cx cy : ℕ) : Type 0 where
  pub real : T (finite v)
  pub least : minus_of (floor_z v) ≤ 1
  pub cols : plus_of (floor_z v) ≤ cx + 1
  pub up : plus_of (floor_z v) ≤ i + 1
  pub down : i + minus_of (floor_z v) ≤ plus_of (floor_z v) + cy

value_finite : (v : Float) (s : Bool) (g c : ℕ) → HasValue v s g c → T (finite v)
value_finite nan s g c h = h
value_finite (inf t) s g c h = h
value_finite (fin t m e) s g c h = tt

from_held : (v : Float) (k i cx cy : ℕ) → T (finite v) → floor_z v ≡ pos k → Held k i cx cy → Kept v i cx cy
from_held v k i cx cy f e h =
    let p : plus_of (floor_z v) ≡ k = ap plus_of e in
    let m : minus_of (floor_z v) ≡ 0 = ap minus_of e in
    record { real = f; least = omega arith; cols = omega (arith, h.cols); up = omega (arith, h.up); down = omega (arith, h.down) }

module _ (a b f : Float) (A B n cx cy i : ℕ) (wb : Is b B) (wf : HasValue f false i 1) (b_in : B ≤ parts) (a_in : A * 16777216 ≤ 16777232 * parts) (few : n ≤ 16384) (i_in : i ≤ n)
    (count : n + 1 ≡ cx + cy) where
  abbrev v : Float
  v = add binary32 (mul binary32 a f) b

  -- the numbers of whole parts
  at : (W : ℕ) → Is v W → Held (W / parts) i cx cy → Kept v i cx cy
  at W w h = from_held v (W / parts) i cx cy (value_finite v false W parts w) (floor_over v W w) h

  pub z_over : (o : Over a A) → (o.K * n + B) * 8 ≤ (cx * parts + parts) * 8 + parts → cx * parts * 8 ≤ (o.K * n + B) * 8 + parts → Kept v i cx cy
  z_over o hi lo =
      let K = o.K in
      let k2 : K * 2097152 ≤ 2097160 * parts = top K A parts o.high a_in in
      let ki : K * i ≤ 32768 * parts = wide K i parts k2 (le_trans i_in few) in
      let p = rounding false (K * i) (le_trans ki (mul-le-mul_right parts (lit≤ tt))) in
      let ip : Is (mul binary32 a f) p.g = subst (λ (y : Float). Is y p.g) (sym (product_at false a f K i o.is wf)) p.is in
      let pm : p.g ≤ 32772 * parts = most (K * i) p.g parts p.high ki small_big in
      let w = rounding false (p.g + B) (sum_few p.g B parts pm b_in) in
      let iw : Is v w.g = subst (λ (y : Float). Is y w.g) (sym (add_is (mul binary32 a f) b p.g B ip wb)) w.is in
      let W = w.g in
      let h = sum_high (K * i) p.g B W parts p.high w.high ki b_in small_big in
      let l = sum_low (K * i) p.g B W parts p.low w.low (end (K * i) B W parts h ki b_in) pm small_big in
      at W iw (held parts n cx cy i (W / parts) W parts_pos few i_in count (div-mul-le_self W parts) (lt-div-mul-add parts_pos) K B k2 b_in hi lo h l)
    where
      top : (K A L : ℕ) → K * 2097152 ≤ A * 2097152 + L → A * 16777216 ≤ 16777232 * L → K * 2097152 ≤ 2097160 * L
      top K A L h g = omega arith

      wide : (K i L : ℕ) → K * 2097152 ≤ 2097160 * L → i ≤ 16384 → K * i ≤ 32768 * L
      wide K i L h g =
          let d : K ≤ 2 * L = omega arith in
          le_trans (mul-le-mul d g) (le_of_eq (mul_right_comm 2 L 16384))

      most : (KI P L : ℕ) → P * 16777216 ≤ KI * 16777217 + 16777216 → KI ≤ 32768 * L → 1099511627776 ≤ L → P ≤ 32772 * L
      most KI P L h g l = omega arith

      sum_few : (P B L : ℕ) → P ≤ 32772 * L → B ≤ L → P + B ≤ 65536 * L
      sum_few P B L h g = omega arith

      end : (KI B W L : ℕ) → W * 64 ≤ (KI + B) * 64 + L → KI ≤ 32768 * L → B ≤ L → W ≤ 32772 * L
      end KI B W L h k b = omega arith

  pub z_under : (o : Under a A) → (cx * parts + o.K * n) * 8 ≤ B * 8 + parts → Kept v i cx cy
  z_under o lo = go (below_or_not B p.g)
    where
      K : ℕ
      K = o.K

      tiny : (K i L : ℕ) → K * 4194304 ≤ L → i ≤ 16384 → K * i ≤ L
      tiny K i L h g =
          let e : K * i ≤ K * 4194304 = native.Mathlib.Nat.mul-le-mul_left K (le_trans g (lit≤ tt)) in
          le_trans e h

      ki : K * i ≤ parts
      ki = tiny K i parts o.most (le_trans i_in few)

      p : Rounding (round binary32 true (K * i) parts) true (K * i)
      p = rounding true (K * i) (le_trans ki (le_trans (le_of_eq (sym (native.Mathlib.Nat.one-mul parts))) (mul-le-mul_right parts (lit≤ tt))))

      ip : HasValue (mul binary32 a f) true p.g parts
      ip = subst (λ (y : Float). HasValue y true p.g parts) (sym (product_at true a f K i o.is wf)) p.is

      mixed : (p.g ≤ B → add binary32 (mul binary32 a f) b ≡ round binary32 false (B - p.g) parts) × (B < p.g → add binary32 (mul binary32 a f) b ≡ round binary32 true (p.g - B) parts)
      mixed = value_mixed (mul binary32 a f) b p.g B parts parts_pos ip wb

      from_below : T (finite v) → (plus_of (floor_z v) ≤ 0) × (minus_of (floor_z v) ≤ 1) → i + 1 ≤ cy → Kept v i cx cy
      from_below f h c = record { real = f; least = h.1; cols = omega (arith, h.0); up = omega (arith, h.0); down = omega (arith, h.1) }

      go : (B < p.g) ⊎ (p.g ≤ B) → Kept v i cx cy
      go (inr h) =
          let w = rounding false (B - p.g) (room B p.g parts b_in) in
          let iw : Is v w.g = subst (λ (y : Float). Is y w.g) (sym (mixed.0 h)) w.is in
          let W = w.g in
          at W iw
          (held_low parts n cx cy i (W / parts) W parts_pos few i_in count (div-mul-le_self W parts) (lt-div-mul-add parts_pos) K B p.g o.most b_in h lo p.high w.high w.low small_big)
        where
          room : (B P L : ℕ) → B ≤ L → B - P ≤ 65536 * L
          room B P L h = omega arith
      go (inl h) =
          let w = rounding true (p.g - B) (room (K * i) B p.g parts p.high ki small_big) in
          let iw : HasValue v true w.g parts = subst (λ (y : Float). HasValue y true w.g parts) (sym (mixed.1 h)) w.is in
          let small : K * i * 256 ≤ parts = tight K i parts o.most (le_trans i_in few) in
          from_below (value_finite v true w.g parts iw) (floor_under v w.g iw (little (K * i) B p.g w.g parts p.high w.high small small_big))
          (held_below parts n cx cy i 0 0 parts_pos few i_in count (le_of_eq (native.Mathlib.Nat.zero-mul parts)) (some parts parts_pos) K B p.g o.most (le_of_lt h) lo p.high small_big)
        where
          some : (L : ℕ) → 0 < L → 0 < 0 * L + L
          some L h = omega (arith, native.Mathlib.Nat.zero-mul L)

          room : (KI B P L : ℕ) → P * 16777216 ≤ KI * 16777217 + 16777216 → KI ≤ L → 1099511627776 ≤ L → P - B ≤ 65536 * L
          room KI B P L h g l = omega arith

          tight : (K i L : ℕ) → K * 4194304 ≤ L → i ≤ 16384 → K * i * 256 ≤ L
          tight K i L h g =
              let e : K * i ≤ K * 16384 = native.Mathlib.Nat.mul-le-mul_left K g in
              omega arith

          little : (KI B P W L : ℕ) → P * 16777216 ≤ KI * 16777217 + 16777216 → W * 16777216 ≤ (P - B) * 16777217 + 16777216 → KI * 256 ≤ L → 1099511627776 ≤ L → W ≤ L
          little KI B P W L h g k l = omega arith
