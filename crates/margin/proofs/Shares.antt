-- The walk's a (before its correction) and b beside the exact ones, of a line whose ends are whole numbers of 2 ^ -23. Assumes nothing.
--     set_up    a and b, in parts, near the exact numbers
use mathlib.Core.Path.{◌≡◌, refl, sym, ap, ◌∙◌, subst}
use mathlib.Core.Bool.{true, false, not}
use mathlib.Core.Logic.{◌⊎◌, inl, inr}
use Prim.Native.Nat.{ℕ, zero, suc, ◌+◌, ◌*◌, ◌^◌, ◌≤◌, ◌<◌}
use native.Mathlib.Nat.{
  le_refl,
  le_trans,
  le_of_eq,
  mul-one,
  one-mul,
  zero-mul,
  mul_assoc,
  mul_comm,
  mul_left_comm,
  mul_right_comm,
  add-mul,
  mul-pos,
  mul-le-mul,
  mul-le-mul_left,
  mul-le-mul_right,
  le_of_mul-le-mul_right,
}
use native.Mathlib.Omega.{arith}
use lib.Dec.{T, lit<, lit≤}
use lib.Ieee.{Float, nan, inf, fin, binary32, up, down, round, add, mul, div, le, is_nan, of_bits}
use lib.Ieee.Exact.{HasValue}
use Rattle.float32.specs.Meaning.{min_of}
use Rattle.float32.proofs.MinMax.{min_picks, min_left}
use Rattle.util.specs.Constants.{one, one_minus_ulp}
use Rattle.errors.specs.Sizes.{parts, Is}
use Rattle.errors.proofs.Near.{Near, near_as}
use Rattle.errors.proofs.Parts.{parts_pos, le_parts}
use Rattle.errors.proofs.Rounds.{Clear, Close, round_near, add_near, mul_near, over_near}
use Rattle.margin.proofs.Chain.{rise_near, start_near}

-- 2 ^ 90 at most
pub big : 1237940039285380274899124224 ≤ parts
unfolding parts
big = lit≤ tt

-- ---- where D is near X / H
some_parts : (D XL L : ℕ) → XL * 16777216 ≤ D * 8388608 * 16777218 → L ≤ XL → 1237940039285380274899124224 ≤ L → 18446744073709551616 ≤ D
some_parts D XL L a b c = omega arith

few_parts : (D XL L : ℕ) → D * 8388608 * 16777216 ≤ XL * 16777218 → XL ≤ 34359738368 * L → D ≤ 8192 * L
few_parts D XL L a b = omega arith

no_parts : (D : ℕ) → D * 8388608 * 16777216 ≤ 0 → D ≡ 0
no_parts D a = omega arith

-- an exact number of 2 ^ -23ths, rounded: X is 4,096 at most
pub record Side (x : Float) (X : ℕ) : Type 0 where
  pub D : ℕ
  pub is : Is x D
  pub near : Near 2 (D * 8388608) (X * parts)
  pub few : D ≤ 8192 * parts
  pub clear : Clear 18446744073709551616 D
  pub some : 1 ≤ X → 18446744073709551616 ≤ D

pub side_of : (x : Float) (X : ℕ) → x ≡ round binary32 false X 8388608 → X ≤ 4096 * 8388608 → Side x X
side_of x X e b =
    let c = round_near X 8388608 4096 (lit< tt) (lit≤ tt) b (wide X) in
    let n = c.near in
    record {
      D = c.g;
      is = subst (λ (y : Float). Is y c.g) (sym e) c.is;
      near = n;
      few = few_parts c.g (X * parts) parts n.high (mul-le-mul_right parts b);
      clear = clear X c.g n;
      some = λ h. some_parts c.g (X * parts) parts n.low (least X h) big;
    }
  where
    least : (X : ℕ) → 1 ≤ X → parts ≤ X * parts
    least X h = le_trans (le_of_eq (sym (one-mul parts))) (mul-le-mul_right parts h)

    wide : (X : ℕ) → Clear (8388608 * 8388608) (X * parts)
    wide zero = inl (zero-mul parts)
    wide (suc X) = inr (le_trans (le_trans (lit≤ tt) big) (least (suc X) (omega arith)))

    clear : (X g : ℕ) → Near 2 (g * 8388608) (X * parts) → Clear 18446744073709551616 g
    clear zero g n = inl (no_parts g (le_trans n.high (le_of_eq (ap (λ (z : ℕ). z * 16777218) (zero-mul parts) ∙ zero-mul 16777218))))
    clear (suc X) g n = inr (some_parts g (suc X * parts) parts n.low (least (suc X) (omega arith)) big)

-- an exact number of 2 ^ -23ths, 1 at most, as it is
pub record Part (x : Float) (C : ℕ) : Type 0 where
  pub E : ℕ
  pub is : Is x E
  pub same : E * 8388608 ≡ C * parts
  pub most : E ≤ parts
  pub clear : (E ≡ 0) ⊎ (parts ≤ E * 8388608)

split : parts ≡ 8388608 * 2 ^ 126
unfolding parts
split = refl

pub part_of : (x : Float) (C : ℕ) → HasValue x false C 8388608 → C ≤ 8388608 → Part x C
part_of x C v b =
    let e : C * 2 ^ 126 * 8388608 ≡ C * parts = mul_assoc C (2 ^ 126) 8388608 ∙ ap (λ (z : ℕ). C * z) (mul_comm (2 ^ 126) 8388608 ∙ sym split) in
    record {
      E = C * 2 ^ 126;
      is = scale x v;
      same = e;
      most = le_of_mul-le-mul_right {k = 8388608} (le_trans (le_of_eq e) (le_trans (mul-le-mul_right parts b) (le_of_eq (mul_comm 8388608 parts)))) (lit< tt);
      clear = clear C (C * 2 ^ 126) e;
    }
  where
    scale : (x : Float) → HasValue x false C 8388608 → Is x (C * 2 ^ 126)
    scale nan v = v
    scale (inf t) v = v
    scale (fin t m e) v = (v.0, ap (λ (z : ℕ). m * up e * z) split ∙ sym (mul_assoc (m * up e) 8388608 (2 ^ 126)) ∙ ap (λ (z : ℕ). z * 2 ^ 126) v.1 ∙ mul_right_comm C (down e) (2 ^ 126))

    clear : (C E : ℕ) → E * 8388608 ≡ C * parts → (E ≡ 0) ⊎ (parts ≤ E * 8388608)
    clear zero E e = inl (none E (e ∙ zero-mul parts))
      where
        none : (E : ℕ) → E * 8388608 ≡ 0 → E ≡ 0
        none E h = omega arith
    clear (suc C) E e = inr (le_trans (le_trans (le_of_eq (sym (one-mul parts))) (mul-le-mul_right parts (first C))) (le_of_eq (sym e)))
      where
        first : (C : ℕ) → 1 ≤ suc C
        first C = omega arith

-- ---- a product of a side and a part
pub record Product (x : Float) (D E : ℕ) : Type 0 where
  pub P : ℕ
  pub is : Is x P
  pub near : Near 2 (P * parts) (D * E)
  pub most : P ≤ 2 * D
  pub clear : Clear 1099511627776 P

product_of : (x y : Float) (X C : ℕ) (s : Side x X) (p : Part y C) → Product (mul binary32 x y) s.D p.E
product_of x y X C s p =
    let D = s.D in
    let E = p.E in
    let b : D * E ≤ D * parts = mul-le-mul_left D p.most in
    let k = large s.clear p.clear in
    let m =
    mul_near x y D E s.is p.is (le_trans b (le_trans (mul-le-mul_right parts s.few) (le_trans (le_of_eq (mul_assoc 8192 parts parts)) (mul-le-mul_right (parts * parts) (lit≤ tt)))))
    (weaker k) in
    record {
      P = m.g;
      is = m.is;
      near = m.near;
      most = le_of_mul-le-mul_right (le_trans (twice (m.g * parts) (D * E) (D * parts) m.near.high b) (le_of_eq (sym (mul_assoc 2 D parts)))) parts_pos;
      clear = last m.g m.near k;
    }
  where
    twice : (x y z : ℕ) → x * 16777216 ≤ y * 16777218 → y ≤ z → x ≤ 2 * z
    twice x y z a b = omega arith

    large : Clear 18446744073709551616 s.D → (p.E ≡ 0) ⊎ (parts ≤ p.E * 8388608) → Clear (2199023255552 * parts) (s.D * p.E)
    large (inl e) q = inl (ap (λ (z : ℕ). z * p.E) e ∙ zero-mul p.E)
    large (inr l) (inl e) = inl (ap (λ (z : ℕ). s.D * z) e ∙ native.Mathlib.Nat.mul-zero s.D)
    large (inr l) (inr g) = inr (both p.E (s.D * p.E) parts (mul-le-mul_right p.E l) g)
      where
        both : (E DE L : ℕ) → 18446744073709551616 * E ≤ DE → L ≤ E * 8388608 → 2199023255552 * L ≤ DE
        both E DE L a b = omega arith

    weaker : Clear (2199023255552 * parts) (s.D * p.E) → Clear (8388608 * parts) (s.D * p.E)
    weaker (inl e) = inl e
    weaker (inr l) = inr (le_trans (mul-le-mul_right parts (lit≤ tt)) l)

    last : (g : ℕ) → Near 2 (g * parts) (s.D * p.E) → Clear (2199023255552 * parts) (s.D * p.E) → Clear 1099511627776 g
    last g n (inl e) = inl (none g (le_trans n.high (le_of_eq (ap (λ (z : ℕ). z * 16777218) e ∙ zero-mul 16777218))))
      where
        none : (g : ℕ) → g * parts * 16777216 ≤ 0 → g ≡ 0
        none zero h = refl
        none (suc g) h = absurd (no (suc g * parts) (mul-pos (native.Mathlib.Nat.zero-lt-suc g) parts_pos) h)
          where
            no : (x : ℕ) → 0 < x → x * 16777216 ≤ 0 → ⊥
            no x p h = omega arith
    last g n (inr l) = inr (le_of_mul-le-mul_right (half (g * parts) (s.D * p.E) parts n.low l) parts_pos)
      where
        half : (x y L : ℕ) → y * 16777216 ≤ x * 16777218 → 2199023255552 * L ≤ y → 1099511627776 * L ≤ x
        half x y L a b = omega arith

-- ---- dx + dy, and 1 over it
pub record Recip (x y : Float) (D1 D2 : ℕ) : Type 0 where
  pub R : ℕ
  pub Q : ℕ
  pub is : Is (div binary32 one (add binary32 x y)) Q
  pub sum_near : Near 2 R (D1 + D2)
  pub near : Near 2 (Q * R) (parts * parts)
  pub sum_most : D1 + D2 ≤ 2 * R
  pub most : Q * R ≤ 2 * (parts * parts)
  pub least : parts ≤ 65536 * Q

recip_of : (x y : Float) (X Y : ℕ) (s : Side x X) (t : Side y Y) → 1 ≤ X + Y → Recip x y s.D t.D
recip_of x y X Y s t h =
    let D1 = s.D in
    let D2 = t.D in
    let c = add_near x y D1 D2 s.is t.is (total D1 D2 parts s.few t.few) (inr (one_of X Y h s.some t.some)) in
    let R = c.g in
    let n : Near 2 R (D1 + D2) = near_as 2 (R * 1) (D1 + D2) R (D1 + D2) (mul-one R) refl c.near in
    let l : parts ≤ 16777216 * R = least_sum (X * parts) (Y * parts) parts D1 D2 R s.near.low t.near.low n.low (one_side X Y h) in
    let m : R ≤ 32768 * parts = most_sum D1 D2 R parts s.few t.few n.high in
    let q =
    over_near (add binary32 x y) R c.is (above R parts parts_pos l) l
    (le_trans (mul-le-mul_left 8388608 m) (le_trans (le_of_eq (sym (mul_assoc 8388608 32768 parts))) (mul-le-mul_right parts (le_trans (lit≤ tt) big)))) in
    record {
      R = R;
      Q = q.g;
      is = q.is;
      sum_near = n;
      near = q.near;
      sum_most = double (D1 + D2) R n.low;
      most = double (q.g * R) (parts * parts) q.near.high;
      least =
          le_of_mul-le-mul_right
          (le_trans (least_recip (parts * parts) (q.g * R) (q.g * parts) q.near.low (le_trans (mul-le-mul_left q.g m) (le_of_eq (mul_left_comm q.g 32768 parts))))
          (le_of_eq (sym (mul_assoc 65536 q.g parts))))
          parts_pos;
    }
  where
    total : (a b L : ℕ) → a ≤ 8192 * L → b ≤ 8192 * L → a + b ≤ 16777216 * L
    total a b L p q = omega arith

    one_of : (X Y : ℕ) → 1 ≤ X + Y → (1 ≤ X → 18446744073709551616 ≤ s.D) → (1 ≤ Y → 18446744073709551616 ≤ t.D) → 8388608 ≤ s.D + t.D
    one_of zero Y h f g = let k = g (omega arith) in omega arith
    one_of (suc X) Y h f g = let k = f (omega arith) in omega arith

    one_side : (X Y : ℕ) → 1 ≤ X + Y → parts ≤ X * parts + Y * parts
    one_side X Y h = le_trans (le_of_eq (sym (one-mul parts))) (le_trans (mul-le-mul_right parts h) (le_of_eq (add-mul X Y parts)))

    least_sum : (XL YL L D1 D2 R : ℕ) → XL * 16777216 ≤ D1 * 8388608 * 16777218 → YL * 16777216 ≤ D2 * 8388608 * 16777218 → (D1 + D2) * 16777216 ≤ R * 16777218 → L ≤ XL + YL → L ≤ 16777216 * R
    least_sum XL YL L D1 D2 R a b c d = omega arith

    most_sum : (D1 D2 R L : ℕ) → D1 ≤ 8192 * L → D2 ≤ 8192 * L → R * 16777216 ≤ (D1 + D2) * 16777218 → R ≤ 32768 * L
    most_sum D1 D2 R L a b c = omega arith

    above : (R L : ℕ) → 0 < L → L ≤ 16777216 * R → 0 < R
    above R L p h = omega arith

    double : (x y : ℕ) → x * 16777216 ≤ y * 16777218 → x ≤ 2 * y
    double x y h = omega arith

    least_recip : (LL QR QL : ℕ) → LL * 16777216 ≤ QR * 16777218 → QR ≤ 32768 * QL → LL ≤ 65536 * QL
    least_recip LL QR QL a b = omega arith

-- ---- times 1 over it: S is 8 times R at most, and 0 or not tiny
module _ (x y : Float) (D1 D2 : ℕ) (r : Recip x y D1 D2) where
  pub record Share (v : Float) (S : ℕ) : Type 0 where
    pub J : ℕ
    pub is : Is v J
    pub near : Near 2 (J * parts) (S * r.Q)

  share_of : (s : Float) (S : ℕ) → Is s S → S ≤ 8 * r.R → Clear 549755813888 S → Share (mul binary32 s (div binary32 one (add binary32 x y))) S
  share_of s S v b k =
      let m =
      mul_near s (div binary32 one (add binary32 x y)) S r.Q v r.is
      (le_trans (mul-le-mul_right r.Q b) (most (r.R * r.Q) (r.Q * r.R) (8 * r.R * r.Q) (parts * parts) (mul_comm r.R r.Q) (mul_assoc 8 r.R r.Q) r.most)) (wide k) in
      record { J = m.g; is = m.is; near = m.near }
    where
      most : (RQ QR E LL : ℕ) → RQ ≡ QR → E ≡ 8 * RQ → QR ≤ 2 * LL → E ≤ 16777216 * LL
      most RQ QR E LL a b c = omega arith

      wide : Clear 549755813888 S → Clear (8388608 * parts) (S * r.Q)
      wide (inl e) = inl (ap (λ (z : ℕ). z * r.Q) e ∙ zero-mul r.Q)
      wide (inr l) = inr (both r.Q (S * r.Q) parts (mul-le-mul_right r.Q l) r.least)
        where
          both : (Q SQ L : ℕ) → 549755813888 * Q ≤ SQ → L ≤ 65536 * Q → 8388608 * L ≤ SQ
          both Q SQ L a b = omega arith

-- ---- b is the smaller of it and the largest number below 1
ulp_is : Is one_minus_ulp (16777215 * 2 ^ 125)
unfolding of_bits parts
ulp_is = (refl, refl)

ulp_parts : 16777215 * 2 ^ 125 * 16777216 ≡ 16777215 * parts
unfolding parts
ulp_parts = refl

number : (v : Float) (J : ℕ) → Is v J → T (not (is_nan v))
unfolding is_nan
number nan J h = absurd h
number (inf s) J h = absurd h
number (fin s m e) J h = tt

cut_low : (BW ZL LW : ℕ) → BW * 16777216 ≡ 16777215 * LW → ZL ≤ LW → ZL * 16777216 ≤ BW * 16777236
cut_low BW ZL LW e h = omega arith

pub record Cut (b : Float) (W ZL : ℕ) : Type 0 where
  pub B : ℕ
  pub is : Is b B
  pub near : Near 20 (B * W) ZL

min_near : (v : Float) (J W Z : ℕ) → Is v J → Near 20 (J * W) (Z * parts) → Z ≤ W → Cut (min_of v one_minus_ulp) W (Z * parts)
min_near v J W Z i n z = go (min_picks v one_minus_ulp)
  where
    U : ℕ
    U = 16777215 * 2 ^ 125

    small : (U : ℕ) → U * 16777216 ≡ 16777215 * parts → U ≤ J → Near 20 (U * W) (Z * parts)
    small U e h = record {
      high = le_trans (mul-le-mul_right 16777216 (mul-le-mul_right W h)) n.high;
      low =
          cut_low (U * W) (Z * parts) (parts * W) (mul_right_comm U W 16777216 ∙ ap (λ (y : ℕ). y * W) e ∙ mul_assoc 16777215 parts W)
          (le_trans (mul-le-mul_right parts z) (le_of_eq (mul_comm W parts)));
    }

    go : (min_of v one_minus_ulp ≡ v) ⊎ (min_of v one_minus_ulp ≡ one_minus_ulp) → Cut (min_of v one_minus_ulp) W (Z * parts)
    go (inl e) = record { B = J; is = subst (λ (y : Float). Is y J) (sym e) i; near = n }
    go (inr e) =
        let l : le one_minus_ulp v ≡ true = subst (λ (y : Float). le y v ≡ true) e (min_left v one_minus_ulp (number v J i)) in
        record { B = U; is = subst (λ (y : Float). Is y U) (sym e) ulp_is; near = small U ulp_parts (le_parts one_minus_ulp v U J ulp_is i l) }

-- ---- all of it
pub record SetUp (a b : Float) (X Y C T : ℕ) : Type 0 where
  pub A : ℕ
  pub B : ℕ
  pub is_a : Is a A
  pub is_b : Is b B
  pub a_near : Near 14 (A * (X + Y)) (X * parts)
  pub b_near : Near 20 (B * (8388608 * (X + Y))) ((Y * C + X * T) * parts)

module _ (dx dy c t : Float) (X Y C T : ℕ) (sx : Side dx X) (sy : Side dy Y) (pc : Part c C) (pt : Part t T) (some : 1 ≤ X + Y) (start_in : Y * C + X * T ≤ 8388608 * (X + Y)) where
  abbrev q : Float
  q = div binary32 one (add binary32 dx dy)

  r : Recip dx dy sx.D sy.D
  r = recip_of dx dy X Y sx sy some

  first : (a b c : ℕ) → a + b ≤ 2 * c → a ≤ 8 * c
  first a b c h = omega arith

  weak : Clear 18446744073709551616 sx.D → Clear 549755813888 sx.D
  weak (inl e) = inl e
  weak (inr l) = inr (le_trans (lit≤ tt) l)

  a_share : Share dx dy sx.D sy.D r (mul binary32 dx q) sx.D
  a_share = share_of dx dy sx.D sy.D r dx sx.D sx.is (first sx.D sy.D r.R r.sum_most) (weak sx.clear)

  p1 : Product (mul binary32 dy c) sy.D pc.E
  p1 = product_of dy c Y C sy pc

  p2 : Product (mul binary32 dx t) sx.D pt.E
  p2 = product_of dx t X T sx pt

  sums : Clear 1099511627776 p1.P → Clear 1099511627776 p2.P → Clear 1099511627776 (p1.P + p2.P)
  sums (inl e) (inl f) = inl (omega arith)
  sums (inl e) (inr g) = inr (omega arith)
  sums (inr h) k = inr (omega arith)

  weaker : Clear 1099511627776 (p1.P + p2.P) → Clear 8388608 (p1.P + p2.P)
  weaker (inl e) = inl e
  weaker (inr l) = inr (le_trans (lit≤ tt) l)

  few : (P1 P2 D1 D2 L : ℕ) → P1 ≤ 2 * D2 → P2 ≤ 2 * D1 → D1 ≤ 8192 * L → D2 ≤ 8192 * L → P1 + P2 ≤ 16777216 * L
  few P1 P2 D1 D2 L a b c d = omega arith

  s_close : Close (add binary32 (mul binary32 dy c) (mul binary32 dx t)) 1 (p1.P + p2.P)
  s_close =
      add_near (mul binary32 dy c) (mul binary32 dx t) p1.P p2.P p1.is p2.is (few p1.P p2.P sx.D sy.D parts p1.most p2.most sx.few sy.few)
      (weaker (sums p1.clear p2.clear))

  s_near : Near 2 s_close.g (p1.P + p2.P)
  s_near = near_as 2 (s_close.g * 1) (p1.P + p2.P) s_close.g (p1.P + p2.P) (mul-one s_close.g) refl s_close.near

  s_most : (S P1 P2 D1 D2 R : ℕ) → S * 16777216 ≤ (P1 + P2) * 16777218 → P1 ≤ 2 * D2 → P2 ≤ 2 * D1 → D1 + D2 ≤ 2 * R → S ≤ 8 * R
  s_most S P1 P2 D1 D2 R a b c d = omega arith

  s_clear : (S P : ℕ) → Near 2 S P → Clear 1099511627776 P → Clear 549755813888 S
  s_clear S P n (inl e) = inl (none S P n.high e)
    where
      none : (S P : ℕ) → S * 16777216 ≤ P * 16777218 → P ≡ 0 → S ≡ 0
      none S P h e = omega arith
  s_clear S P n (inr l) = inr (half S P n.low l)
    where
      half : (S P : ℕ) → P * 16777216 ≤ S * 16777218 → 1099511627776 ≤ P → 549755813888 ≤ S
      half S P h l = omega arith

  b_share : Share dx dy sx.D sy.D r (mul binary32 (add binary32 (mul binary32 dy c) (mul binary32 dx t)) q) s_close.g
  b_share =
      share_of dx dy sx.D sy.D r (add binary32 (mul binary32 dy c) (mul binary32 dx t)) s_close.g s_close.is
      (s_most s_close.g p1.P p2.P sx.D sy.D r.R s_near.high p1.most p2.most r.sum_most) (s_clear s_close.g (p1.P + p2.P) s_near (sums p1.clear p2.clear))

  cut : Cut (min_of (mul binary32 (add binary32 (mul binary32 dy c) (mul binary32 dx t)) q) one_minus_ulp) (8388608 * (X + Y)) ((Y * C + X * T) * parts)
  cut =
      min_near (mul binary32 (add binary32 (mul binary32 dy c) (mul binary32 dx t)) q) b_share.J (8388608 * (X + Y)) (Y * C + X * T) b_share.is
      (start_near parts 8388608 parts_pos X Y sx.D sy.D r.R r.Q sx.near sy.near r.sum_near r.near C T pc.E pt.E p1.P p2.P s_close.g b_share.J pc.same
      pt.same p1.near p2.near s_near b_share.near)
      start_in

  pub set_up : SetUp (mul binary32 dx q) (min_of (mul binary32 (add binary32 (mul binary32 dy c) (mul binary32 dx t)) q) one_minus_ulp) X Y C T
  set_up = record {
    A = a_share.J;
    B = cut.B;
    is_a = a_share.is;
    is_b = cut.is;
    a_near = rise_near parts 8388608 parts_pos X Y sx.D sy.D r.R r.Q sx.near sy.near r.sum_near r.near a_share.J a_share.near;
    b_near = cut.near;
  }
