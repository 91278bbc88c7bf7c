-- How far along a segment its row begins: t0 of fine.rs lies from 0 to 33 / 32 in a row that the segment goes through, if its reciprocal is finite. Assumes nothing.
--     toward       from y to the row's nearer side isn't farther than the segment's other end
--     along        so t0 lies from 0 to 33 / 32
use mathlib.Core.Path.{◌≡◌, refl, sym, ap, ◌∙◌, subst}
use mathlib.Core.Bool.{Bool, true, false, not, beq, ◌&&◌, ◌||◌, true≢false}
use mathlib.Core.Logic.{◌⊎◌, inl, inr, ⊎_elim}
use Prim.Native.Nat.{ℕ, suc, zero, ◌+◌, ◌*◌, ◌^◌, ◌≤◌, ◌<◌}
use native.Mathlib.Nat.{le_trans, le_of_eq, mul-pos, zero-mul, mul-le-mul_right}
use native.Mathlib.Omega.{arith}
use lib.Dec.{T, eqb, eqb-suc-zero, lit≤}
use lib.IntN.{ℤ, negsuc}
use lib.Ieee.{Float, nan, inf, fin, binary32, up, down, unlike, round, add, sub, mul, div, neg, lt, eq, ne, fits, of_bits}
use lib.Ieee.Fits.{down_pos, add-fits, sub-fits, mul-fits, neg-fits}
use lib.Ieee.Scale.{finite, grid}
use Rattle.float32.specs.Meaning.{signed, clamp_of}
use Rattle.float32.proofs.Order.{not_lt_of_le}
use Rattle.float32.proofs.Tests.{below_or_not}
use Rattle.float32.proofs.MinMax.{le_of_lt}
use Rattle.exact.proofs.Exact.{round_signed}
use Rattle.errors.specs.Sizes.{parts, Is, Zero}
use Rattle.errors.proofs.Signs.{round_none}
use Rattle.errors.proofs.Relative.{grid_high}
use Rattle.errors.proofs.Parts.{parts_pos, round_parts, one_over}
use Rattle.util.specs.Constants as Number
use Rattle.rounded.proofs.Rises.{Rd, Gap, rd_order, nought}
use Rattle.rounded.proofs.Numbers.{neg_finite}
use Rattle.sum_theorems.proofs.Signed.{At, Place, Between, own_at, own_rd, add_rd, sub_rd, mul_rd, neg_at, at_order, at_plus, at_minus, squeeze}
use Rattle.sum_theorems.proofs.Shares.{zero_at, one_at, zero_fits, one_fits, plus_at, minus_at, at_finite}
use Rattle.sum_theorems.proofs.Clear.{zero_one}

-- ---- equal numbers have no difference
zero_ne : (x : Float) → Zero x → ne x Number.zero ≡ false
unfolding ne eq of_bits
zero_ne nan h = absurd h
zero_ne (inf s) h = absurd h
zero_ne (fin s m e) h = flat s (m * up e * 1) (0 * down e) (omega (arith, ap (λ (z : ℕ). z * up e) h, zero-mul (up e))) (zero-mul (down e))
  where
    each : (s : Bool) → not (eqb 0 0 && (beq s false || eqb 0 0)) ≡ false
    each true = refl
    each false = refl

    flat : (s : Bool) (A B : ℕ) → A ≡ 0 → B ≡ 0 → not (eqb A B && (beq s false || eqb A 0)) ≡ false
    flat s A B a b = rw (a, b) (each s)

level : (a b : Float) (p n q m : ℕ) → At a p n → At b q m → p + m ≡ q + n → ne (sub binary32 a b) Number.zero ≡ false
level a b p n q m h k e =
    let r = sub_rd a b p n q m h k in
    zero_ne (sub binary32 a b) (subst Zero (sym r.is) (round_none r.s r.k parts parts_pos (none r.s r.k r.gap)))
  where
    none : (s : Bool) (k : ℕ) → Gap s k (p + m) (n + q) → k ≡ 0
    none false k g = omega (arith, g, e)
    none true k g = omega (arith, g, e)

-- ---- clamped
clamp_low : (x : Float) → lt x Number.zero ≡ true → clamp_of x Number.zero Number.one ≡ Number.zero
unfolding clamp_of
clamp_low x h = rw (zero_one, h)

clamp_high : (x : Float) → lt x Number.zero ≡ false → lt Number.one x ≡ true → clamp_of x Number.zero Number.one ≡ Number.one
unfolding clamp_of
clamp_high x h k = rw (zero_one, h, k)

clamp_mid : (x : Float) → lt x Number.zero ≡ false → lt Number.one x ≡ false → clamp_of x Number.zero Number.one ≡ x
unfolding clamp_of
clamp_mid x h k = rw (zero_one, h, k)

module _ (e : Float) (fe : T (fits binary32 e)) (pe ne' : ℕ) (he : At e pe ne') where
  -- from the row's side to an end that isn't past it there is nothing
  low_end : lt Number.zero e ≡ false → ne (sub binary32 Number.zero (clamp_of e Number.zero Number.one)) Number.zero ≡ false
  low_end h = go (lt e Number.zero) refl
    where
      a : pe + 0 ≤ 0 + ne'
      a = at_order e Number.zero pe ne' 0 0 he zero_at h

      mid : lt Number.one e ≡ false
      mid = rd_order e pe ne' parts Number.one parts 0 parts parts_pos parts_pos (own_rd e pe ne' fe he) (own_rd Number.one parts 0 one_fits one_at) (omega (arith, mul-le-mul_right parts a))

      go : (t : Bool) → lt e Number.zero ≡ t → ne (sub binary32 Number.zero (clamp_of e Number.zero Number.one)) Number.zero ≡ false
      go true k = rw (clamp_low e k) (level Number.zero Number.zero 0 0 0 0 zero_at zero_at refl)
      go false k =
          let b : 0 + ne' ≤ pe + 0 = at_order Number.zero e 0 0 pe ne' zero_at he k in
          rw (clamp_mid e k mid) (level Number.zero e 0 0 pe ne' zero_at he (omega (arith, a, b)))

  high_end : lt e Number.one ≡ false → ne (sub binary32 Number.one (clamp_of e Number.zero Number.one)) Number.zero ≡ false
  high_end h = go (lt Number.one e) refl
    where
      a : parts + ne' ≤ pe + 0
      a = at_order Number.one e parts 0 pe ne' one_at he h

      mid : lt e Number.zero ≡ false
      mid = rd_order Number.zero 0 0 parts e pe ne' parts parts_pos parts_pos (own_rd Number.zero 0 0 zero_fits zero_at) (own_rd e pe ne' fe he) (omega (arith, mul-le-mul_right parts a))

      go : (t : Bool) → lt Number.one e ≡ t → ne (sub binary32 Number.one (clamp_of e Number.zero Number.one)) Number.zero ≡ false
      go true k = rw (clamp_high e mid k) (level Number.one Number.one parts 0 parts 0 one_at one_at refl)
      go false k =
          let b : pe + 0 ≤ parts + ne' = at_order e Number.one pe ne' parts 0 he one_at k in
          rw (clamp_mid e mid k) (level Number.one e parts 0 pe ne' one_at he (omega (arith, a, b)))

-- ---- from y to the row
abbrev pub Toward : Float → ℕ → ℕ → Type 0
Toward u p n = Between u 0 0 p n ⊎ Between u p n 0 0

module _ (y dy : Float) (fy : T (fits binary32 y)) (fd : T (fits binary32 dy)) (py ny pd nd pe ne' : ℕ) (hy : At y py ny) (hd : At dy pd nd) (he : At (add binary32 y dy) pe ne')
    (through : ne (sub binary32 (clamp_of y Number.zero Number.one) (clamp_of (add binary32 y dy) Number.zero Number.one)) Number.zero ≡ true) where
  abbrev e : Float
  e = add binary32 y dy

  e_rd : Rd e (py + pd) (ny + nd) parts
  e_rd = add_rd y dy py ny pd nd hy hd

  from_below : lt y Number.zero ≡ true → Toward (sub binary32 (clamp_of y Number.zero Number.one) y) pd nd
  from_below h = rw (clamp_low y h) (inl there)
    where
      past : lt Number.zero e ≡ true
      past = go (lt Number.zero e) refl
        where
          go : (t : Bool) → lt Number.zero e ≡ t → lt Number.zero e ≡ true
          go true k = k
          go false k =
              absurd (true≢false (sym through ∙ ap (λ (z : Float). ne (sub binary32 z (clamp_of e Number.zero Number.one)) Number.zero) (clamp_low y h)
              ∙ low_end e (add-fits binary32 y dy) pe ne' he k))

      less : ny + nd < py + pd
      less = ⊎_elim (λ o. o) (λ o. absurd (true≢false (sym past ∙ rd_order e (py + pd) (ny + nd) parts Number.zero 0 0 parts parts_pos parts_pos e_rd (own_rd Number.zero 0 0 zero_fits zero_at)
          (omega (arith, mul-le-mul_right parts o))))) (below_or_not (ny + nd) (py + pd))

      minus : py + 0 ≤ 0 + ny
      minus = at_order y Number.zero py ny 0 0 hy zero_at (not_lt_of_le y Number.zero (le_of_lt y Number.zero h))

      there : Between (sub binary32 Number.zero y) 0 0 pd nd
      there =
          squeeze (sub binary32 Number.zero y) (0 + ny) (0 + py) parts Number.zero 0 0 dy pd nd parts_pos (sub-fits binary32 Number.zero y) zero_fits fd zero_at hd
          (sub_rd Number.zero y 0 0 py ny zero_at hy) (omega (arith, mul-le-mul_right parts minus)) (omega (arith, mul-le-mul_right parts less))

  from_above : lt y Number.zero ≡ false → lt Number.one y ≡ true → Toward (sub binary32 (clamp_of y Number.zero Number.one) y) pd nd
  from_above h k = rw (clamp_high y h k) (inr there)
    where
      past : lt e Number.one ≡ true
      past = go (lt e Number.one) refl
        where
          go : (t : Bool) → lt e Number.one ≡ t → lt e Number.one ≡ true
          go true q = q
          go false q =
              absurd (true≢false (sym through ∙ ap (λ (z : Float). ne (sub binary32 z (clamp_of e Number.zero Number.one)) Number.zero) (clamp_high y h k)
              ∙ high_end e (add-fits binary32 y dy) pe ne' he q))

      less : py + pd < parts + (ny + nd)
      less = ⊎_elim (λ o. o) (λ o. absurd (true≢false (sym past ∙ rd_order Number.one parts 0 parts e (py + pd) (ny + nd) parts parts_pos parts_pos (own_rd Number.one parts 0 one_fits one_at) e_rd
          (omega (arith, mul-le-mul_right parts o))))) (below_or_not (py + pd) (parts + (ny + nd)))

      plus : parts + ny ≤ py + 0
      plus = at_order Number.one y parts 0 py ny one_at hy (not_lt_of_le Number.one y (le_of_lt Number.one y k))

      there : Between (sub binary32 Number.one y) pd nd 0 0
      there =
          squeeze (sub binary32 Number.one y) (parts + ny) (0 + py) parts dy pd nd Number.zero 0 0 parts_pos (sub-fits binary32 Number.one y) fd zero_fits hd zero_at
          (sub_rd Number.one y parts 0 py ny one_at hy) (omega (arith, mul-le-mul_right parts less)) (omega (arith, mul-le-mul_right parts plus))

  from_within : lt y Number.zero ≡ false → lt Number.one y ≡ false → Toward (sub binary32 (clamp_of y Number.zero Number.one) y) pd nd
  from_within h k =
      let s = squeeze (sub binary32 y y) (py + ny) (ny + py) parts Number.zero 0 0 Number.zero 0 0 parts_pos (sub-fits binary32 y y) zero_fits zero_fits zero_at zero_at
      (sub_rd y y py ny py ny hy hy) (omega arith) (omega arith) in
      rw (clamp_mid y h k)
      (⊎_elim (λ o. inr (record { p = s.p; n = s.n; at = s.at; low = omega (arith, s.low, o); high = s.high }))
      (λ o. inl (record { p = s.p; n = s.n; at = s.at; low = s.low; high = omega (arith, s.high, o) })) (below_or_not pd nd))

  pub toward : Toward (sub binary32 (clamp_of y Number.zero Number.one) y) pd nd
  toward = go (lt y Number.zero) refl (lt Number.one y) refl
    where
      go : (s : Bool) → lt y Number.zero ≡ s → (t : Bool) → lt Number.one y ≡ t → Toward (sub binary32 (clamp_of y Number.zero Number.one) y) pd nd
      go true h t k = from_below h
      go false h true k = from_above h k
      go false h false k = from_within h k

-- ---- times the reciprocal

-- 33 / 32
abbrev pub bit_over : Float
bit_over = fin false 33 (negsuc 4)

pub over_fits : T (fits binary32 bit_over)
unfolding fits
over_fits = tt

pub over_place : Place bit_over
over_place = own_at bit_over over_fits tt

is_plus : (x : Float) (m : ℕ) → At x m 0 → 0 < m → Is x m
is_plus nan m h p = absurd h
is_plus (inf s) m h p = absurd h
is_plus (fin false a e) m h p = (refl, h.0)
is_plus (fin true a e) m h p = absurd (omega (arith, h.1, p))

plus_is : (x : Float) (g : ℕ) → Is x g → At x g 0
plus_is nan g h = absurd h
plus_is (inf s) g h = absurd h
plus_is (fin false a e) g h = (h.1, refl)
plus_is (fin true a e) g h = absurd (true≢false h.0)

recip_high : (m : ℕ) → 0 < m → m ≤ 32 * parts → grid binary32 parts m * m * 16777216 ≤ parts * parts * 16777217
unfolding parts
recip_high m p h = grid_high (2 ^ 149) m p (le_trans (few m (2 ^ 149) h) (mul-le-mul_right (2 ^ 149) (lit≤ {m = 268435456} {n = 2 ^ 149} tt)))
  where
    few : (m P : ℕ) → m ≤ 32 * P → 2 ^ 23 * m ≤ 268435456 * P
    few m P h = omega arith

forward : (u dy : Float) (k m : ℕ) → T (fits binary32 u) → At u k 0 → At dy m 0 → k ≤ m → 0 < m → m ≤ 32 * parts → T (finite (div binary32 Number.one dy))
    → Between (mul binary32 u (div binary32 Number.one dy)) 0 0 over_place.p over_place.n
forward u dy k m fu hu hd le' some few f =
    let v = one_over dy m (is_plus dy m hd some) some in
    let r = div binary32 Number.one dy in
    let g = grid binary32 parts m in
    let hr : At r g 0 = plus_is r g (subst (λ (z : Float). Is z g) (sym v) (round_parts parts m (subst (λ (z : Float). T (finite z)) v f))) in
    let a : k * g ≤ m * g = mul-le-mul_right g le' in
    let b = recip_high m some few in
    let c : 33 * 1 * parts * parts ≡ over_place.p * 32 * parts = ap (λ (z : ℕ). z * parts) over_place.at.0 in
    let d : k * g ≤ over_place.p * parts = last k g m parts over_place.p a b c in
    let none : over_place.n * (parts * parts) ≡ 0 = ap (λ (z : ℕ). z * (parts * parts)) over_place.at.1 ∙ zero-mul (parts * parts) in
    squeeze (mul binary32 u r) (k * g + 0 * 0) (k * 0 + 0 * g) (parts * parts) Number.zero 0 0 bit_over over_place.p over_place.n (mul-pos parts_pos parts_pos)
    (mul-fits binary32 u r) zero_fits over_fits zero_at over_place.at (mul_rd u r k 0 g 0 hu hr) (omega arith) (omega (arith, none, mul-le-mul_right parts d))
  where
    last : (k g m P q : ℕ) → k * g ≤ m * g → g * m * 16777216 ≤ P * P * 16777217 → 33 * 1 * P * P ≡ q * 32 * P → k * g ≤ q * P
    last k g m P q a b c = omega arith

-- both turned round
over_turned : (t : Bool) (n : ℕ) (d : ℤ) → div binary32 Number.one (fin (not t) (suc n) d) ≡ neg (div binary32 Number.one (fin t (suc n) d))
unfolding div of_bits
over_turned t n d = rw (eqb-suc-zero n) (flip t (1 * 1 * down d) (suc n * up d * 1))
  where
    neg_signed : (s : Bool) (y : Float) → signed (not s) y ≡ neg (signed s y)
    neg_signed s nan = unfold signed neg in refl
    neg_signed s (inf t) = unfold signed neg in refl
    neg_signed s (fin t m e) = unfold signed neg in refl

    turned : (s : Bool) (a c : ℕ) → round binary32 (not s) a c ≡ neg (round binary32 s a c)
    turned s a c = round_signed (not s) a c ∙ neg_signed s (round binary32 false a c) ∙ ap neg (sym (round_signed s a c))

    flip : (t : Bool) (a c : ℕ) → round binary32 (unlike false (not t)) a c ≡ neg (round binary32 (unlike false t) a c)
    flip true a c = turned true a c
    flip false a c = turned false a c

mul_turned : (x y : Float) → T (finite x) → T (finite y) → mul binary32 (neg x) (neg y) ≡ mul binary32 x y
unfolding mul neg
mul_turned nan y f g = absurd f
mul_turned (inf s) y f g = absurd f
mul_turned (fin s m e) nan f g = absurd g
mul_turned (fin s m e) (inf t) f g = absurd g
mul_turned (fin true m e) (fin true n d) f g = refl
mul_turned (fin true m e) (fin false n d) f g = refl
mul_turned (fin false m e) (fin true n d) f g = refl
mul_turned (fin false m e) (fin false n d) f g = refl

over_neg : (y : Float) (p n : ℕ) → At y p n → 0 < p + n → div binary32 Number.one (neg y) ≡ neg (div binary32 Number.one y)
over_neg nan p n h o = absurd h
over_neg (inf s) p n h o = absurd h
over_neg (fin s (suc m) e) p n h o = unfold neg in over_turned s m e
over_neg (fin s zero e) p n h o = absurd (some s p n h o)
  where
    left : (q : ℕ) → 0 * up e * parts ≡ q * down e → q ≡ 0
    left q h = nought q (down e) (down_pos e) (le_of_eq (sym h ∙ ap (λ (z : ℕ). z * parts) (zero-mul (up e)) ∙ zero-mul parts))

    some : (s : Bool) (p n : ℕ) → At (fin s zero e) p n → 0 < p + n → ⊥
    some false p n h o = omega (arith, h.1, o, left p h.0)
    some true p n h o = omega (arith, h.1, o, left n h.0)

pub along : (u dy : Float) (p n : ℕ) → T (fits binary32 u) → At dy p n → 0 < p + n → p + n ≤ 32 * parts → T (finite (div binary32 Number.one dy)) → Toward u p n
    → Between (mul binary32 u (div binary32 Number.one dy)) 0 0 over_place.p over_place.n
along u dy p n fu hd some few f (inl b) =
    let z = at_plus dy p n hd (omega (arith, b.low, b.high)) in
    let hu : At u b.p 0 = plus_at u b.p b.n b.at (omega (arith, b.low)) in
    forward u dy b.p p fu hu (plus_at dy p n hd (omega (arith, z))) (omega (arith, b.high, at_plus u b.p b.n b.at (omega (arith, b.low))))
    (omega (arith, some, z)) (omega (arith, few)) f
along u dy p n fu hd some few f (inr b) =
    let z = at_minus dy p n hd (omega (arith, b.low, b.high)) in
    let w = at_minus u b.p b.n b.at (omega (arith, b.high)) in
    let hu : At (neg u) b.n 0 = neg_at u 0 b.n (minus_at u b.p b.n b.at (omega (arith, b.high))) in
    let hn : At (neg dy) n 0 = neg_at dy 0 n (minus_at dy p n hd (omega (arith, z))) in
    let r = div binary32 Number.one dy in
    let e : div binary32 Number.one (neg dy) ≡ neg r = over_neg dy p n hd some in
    subst (λ (t : Float). Between t 0 0 over_place.p over_place.n) (ap (mul binary32 (neg u)) e ∙ mul_turned u r (at_finite u b.p b.n b.at) f)
    (forward (neg u) (neg dy) b.n n (neg-fits binary32 u fu) hu hn (omega (arith, b.low, w, z)) (omega (arith, some, z)) (omega (arith, few))
    (subst (λ (t : Float). T (finite t)) (sym e) (neg_finite r f)))
