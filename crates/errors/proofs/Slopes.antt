-- The walk's a and b, of a checked line: b lies from 0 to 1, and a, where it is finite, from -2 ^ -22 to 1 + 2 ^ -22. Assumes nothing.
--     rise_most     dx / (dx + dy), as it is computed, is 1 at most where it is finite
--     rise_lean     the same of a after its correction
--     start_in      b isn't negative, and 1 at most
use mathlib.Core.Path.{◌≡◌, refl, sym, ap, ◌∙◌, subst}
use mathlib.Core.Bool.{Bool, true, false, not, cond, true≢false, false≢true}
use mathlib.Core.Logic.{◌⊎◌, inl, inr}
use Prim.Native.Nat.{ℕ, zero, suc, ◌+◌, ◌-◌, ◌*◌, ◌≤◌, ◌<◌}
use native.Mathlib.Nat.{le_trans, le_of_eq, le_of_mul-le-mul_right, mul_assoc, mul_comm, mul_right_comm, mul-one, one-mul, zero-mul, mul-pos, mul-le-mul_right, zero-lt-suc}
use native.Mathlib.Omega.{arith}
use lib.Dec.{T, ltb, eqb, lit<, lit≤}
use lib.IntN.{ℤ, pos, negsuc, ◌+ℤ◌}
use lib.Ieee.{Float, nan, inf, fin, binary32, up, down, unlike, round, sum, add, sub, mul, div, le, lt, eq, ne, fits, is_nan, of_bits}
use lib.Ieee.Bits.{is_true}
use lib.Ieee.Fits.{down_pos, sub-fits, mul-fits}
use lib.Ieee.Exact.{HasValue}
use lib.Ieee.Order.{round_mono}
use lib.Ieee.Scale.{grid, finite}
use borrow.Author.Tests.{ltb-false}
use Rattle.float32.specs.Meaning.{floor_of, ceil_of, abs_of, sign_of, signed, copysign_of, unit, min_of}
use Rattle.float32.proofs.Order.{not_lt_of_le}
use Rattle.float32.proofs.Laws.{abs_fits, whole_finite, ceil_whole, floor_whole}
use Rattle.float32.proofs.MinMax.{min_picks, min_right}
use Rattle.util.specs.Constants.{zero as zero_f, one, one_minus_ulp, robust_epsilon}
use Rattle.util.specs.declared.Vec2.{Vec2}
use Rattle.exact.specs.Whole.{IsWhole, floor_z, Small}
use Rattle.exact.specs.Reach.{coord_tiles}
use Rattle.exact.proofs.Limits.{far}
use Rattle.exact.proofs.Exact.{add_whole, floor_whole as floor_is}
use Rattle.exact.proofs.Bounds.{small_finite, small_sign, small_more, floor_small, near_finite, sign_unit}
use Rattle.exact.proofs.Signs.{abs_sum}
use Rattle.exact.proofs.Spans.{one_whole}
use Rattle.walk.specs.Num.{float}
use Rattle.walk.specs.Setup.{Scaled, slope_of, b_of, a_of}
use Rattle.walk.specs.declared.kinds.Slope.{Slope}
use Rattle.walk.specs.declared.kinds.Counts.{Counts}
use Rattle.errors.specs.Sizes.{parts, Is, AtMost, Plus}
use Rattle.errors.proofs.Relative.{grid_high}
use Rattle.errors.proofs.Sizes.{abs_round, most_of_le, round_most, add_small, sub_small, abs_small}
use Rattle.errors.proofs.Signs.{round_plus, add_plus, mul_plus, sub_plus}
use Rattle.errors.proofs.Parts.{parts_pos, own_parts, round_parts, round_above, add_is, add_none, mul_is, one_over, over_none}
use Rattle.errors.proofs.Floors.{floor_not_above, ceil_not_below, next_not_below}

abs_plus : (x : Float) → sign_of (abs_of x) ≡ false
unfolding sign_of abs_of
abs_plus nan = refl
abs_plus (inf s) = refl
abs_plus (fin s m e) = refl

-- ---- dx + dy, of a dx with the sign plus and a dy that isn't negative
-- x has n parts, r has R parts, no fewer, and few
pub record Total (x r : Float) : Type 0 where
  pub n : ℕ
  pub R : ℕ
  pub is_x : Is x n
  pub is_r : Is r R
  pub over : n ≤ R
  pub few : R ≤ 4194304 * parts

parts_most : (x : Float) (n N : ℕ) → Is x n → Small x N → n ≤ N * parts
parts_most nan n N v h = absurd v
parts_most (inf s) n N v h = absurd v
parts_most (fin s m e) n N v h =
    le_of_mul-le-mul_right (le_trans (le_of_eq (sym v.1)) (le_trans (mul-le-mul_right parts h) (le_of_eq (mul_right_comm N (down e) parts)))) (down_pos e)

no_more : (a b : ℕ) → a ≤ a + b
no_more a b = omega arith

total_by : (x r : Float) (n t : ℕ) → T (fits binary32 x) → Is x n → n ≤ t → r ≡ round binary32 false t parts → Small r 4194304 → Total x r
total_by x r n t h v l e s =
    let f : T (finite (round binary32 false t parts)) = subst (λ (y : Float). T (finite y)) e (small_finite r 4194304 s) in
    let w : Is r (grid binary32 t parts) = subst (λ (y : Float). Is y (grid binary32 t parts)) (sym e) (round_parts t parts f) in
    record {
      n = n;
      R = grid binary32 t parts;
      is_x = v;
      is_r = w;
      over = round_above x n t parts h v parts_pos (mul-le-mul_right parts l) f;
      few = parts_most r (grid binary32 t parts) 4194304 w s;
    }

total_of : (x y : Float) → T (fits binary32 x) → T (fits binary32 y) → T (finite x) → T (finite y) → sign_of x ≡ false → Plus y → Small (add binary32 x y) 4194304 → Total x (add binary32 x y)
total_of x y h k f g s p b = go p (own_parts x h f s)
  where
    go : Plus y → (n : ℕ) × Is x n → Total x (add binary32 x y)
    go (inl q) v =
        let w = own_parts y k g q in
        total_by x (add binary32 x y) v.0 (v.0 + w.0) h v.1 (no_more v.0 w.0) (add_is x y v.0 w.0 v.1 w.1) b
    go (inr z) v = total_by x (add binary32 x y) v.0 v.0 h v.1 (native.Mathlib.Nat.le_refl v.0) (add_none x y v.0 v.1 z) b

-- ---- 1 over it has the sign plus
recip_plus : (r : Float) (R : ℕ) → Is r R → sign_of (div binary32 one r) ≡ false
recip_plus r zero v = ap sign_of (over_none r v) ∙ unfold sign_of in refl
recip_plus r (suc R) v = ap sign_of (one_over r (suc R) v (zero-lt-suc R)) ∙ round_plus parts (suc R)

-- ---- a before its correction
no : (b u : Bool) → T (finite (cond b nan (inf u))) → ⊥
no true u f = f
no false u f = f

mul_finite : (x y : Float) → T (finite (mul binary32 x y)) → T (finite y)
unfolding mul
mul_finite nan y f = absurd f
mul_finite (inf s) nan f = absurd f
mul_finite (inf s) (inf t) f = absurd f
mul_finite (inf s) (fin t n d) f = tt
mul_finite (fin s m e) nan f = absurd f
mul_finite (fin s m e) (inf t) f = no (eqb m 0) (unlike s t) f
mul_finite (fin s m e) (fin t n d) f = tt

-- a part in 2 ^ 24 over 1 rounds to 1: a tie, to the even one
just_over : HasValue (round binary32 false 16777217 16777216) false 1 1
unfolding round
just_over = (refl, refl)

normal : (R P L : ℕ) → R ≤ 4194304 * P → 4194304 * 8388608 ≤ L → 8388608 * R ≤ P * L
normal R P L h l =
    let k = mul-le-mul_right P l in
    omega (arith, mul_comm P L)

product_most : (n R Q P : ℕ) → n ≤ R → Q * R * 16777216 ≤ P * 16777217 → n * Q * 16777216 ≤ 16777217 * P
product_most n R Q P h k = let l = mul-le-mul_right Q h in omega (arith, mul_comm R Q)

-- what is finite among dx * (1 / r) is 1 at most
pub rise_most : (x r : Float) → Total x r → T (finite (mul binary32 x (div binary32 one r))) → (sign_of (mul binary32 x (div binary32 one r)) ≡ false) × AtMost
    (mul binary32 x (div binary32 one r)) 1 1
rise_most x r t f = go t.R t.is_r t.over t.few
  where
    q : Float
    q = div binary32 one r

    go : (R : ℕ) → Is r R → t.n ≤ R → R ≤ 4194304 * parts → (sign_of (mul binary32 x q) ≡ false) × AtMost (mul binary32 x q) 1 1
    go zero v l s = absurd (subst (λ (y : Float). T (finite y)) (over_none r v) (mul_finite x q f))
    go (suc R) v l s =
        let e : q ≡ round binary32 false parts (suc R) = one_over r (suc R) v (zero-lt-suc R) in
        let Q = grid binary32 parts (suc R) in
        let w : Is q Q = subst (λ (y : Float). Is y Q) (sym e) (round_parts parts (suc R) (subst (λ (y : Float). T (finite y)) e (mul_finite x q f))) in
        let i : mul binary32 x q ≡ round binary32 false (t.n * Q) (parts * parts) = mul_is x q t.n Q t.is_x w in
        let h : Q * suc R * 16777216 ≤ parts * parts * 16777217 = high (suc R) (zero-lt-suc R) s in
        let b : t.n * Q * 16777216 ≤ 16777217 * (parts * parts) = product_most t.n (suc R) Q (parts * parts) l h in
        let u = round binary32 false 16777217 16777216 in
        let m : le (round binary32 false (t.n * Q) (parts * parts)) u ≡ true =
        is_true (le (round binary32 false (t.n * Q) (parts * parts)) u) (round_mono binary32 (t.n * Q) (parts * parts) 16777217 16777216 (mul-pos parts_pos parts_pos) (lit< tt) b) in (
          ap sign_of i ∙ round_plus (t.n * Q) (parts * parts),
          subst (λ (y : Float). AtMost y 1 1) (sym i)
              (most_of_le (round binary32 false (t.n * Q) (parts * parts)) u 1 1 just_over (subst (λ (y : Float). le y u ≡ true) (sym (abs_round false (t.n * Q) (parts * parts))) m)),
        )
      where
        high : (R : ℕ) → 0 < R → R ≤ 4194304 * parts → grid binary32 parts R * R * 16777216 ≤ parts * parts * 16777217
        high R p s = unfold parts in grid_high parts R p (normal R parts parts s (lit≤ tt))

-- ---- a after it
-- from -2 ^ -22 to 1 + 2 ^ -22
pub record Lean (a : Float) : Type 0 where
  pub most : AtMost a 4194305 4194304
  pub low : (sign_of a ≡ false) ⊎ AtMost a 1 4194304

epsilon_is : (s : Bool) → signed s robust_epsilon ≡ fin s 14073749 (negsuc 45)
unfolding signed of_bits
epsilon_is s = refl

sub_finite : (x : Float) (t : Bool) (m : ℕ) (e : ℤ) → T (finite (sub binary32 x (fin t m e))) → T (finite x)
unfolding sub
sub_finite nan t m e f = f
sub_finite (inf s) t m e f = f
sub_finite (fin s n d) t m e f = tt

-- A / D is 1 at most; c is D * 2 ^ 46, and B is 14073749 * D
sum_lean : (A B D : ℕ) → 0 < D → A ≤ D * 70368744177664 → B ≡ 14073749 * D → (t : Bool) → Lean (sum binary32 false A t B (D * 70368744177664))
unfolding sum
sum_lean A B D p h k false = record {
  most = round_most false (A + B) (D * 70368744177664) 4194305 21 (omega arith) (lit< tt) (lit≤ tt) (omega arith);
  low = inl (round_plus (A + B) (D * 70368744177664));
}
sum_lean A B D p h k true = go (ltb A B)
  where
    c : ℕ
    c = D * 70368744177664

    go : (t : Bool) → Lean (cond t (round binary32 true (B - A) c) (round binary32 false (A - B) c))
    go true = record {
      most = round_most true (B - A) c 4194305 21 (omega arith) (lit< tt) (lit≤ tt) (omega arith);
      low = inr (round_most true (B - A) c 1 21 (omega arith) (lit< tt) (lit≤ tt) (omega arith));
    }
    go false = record { most = round_most false (A - B) c 4194305 21 (omega arith) (lit< tt) (lit≤ tt) (omega arith); low = inl (round_plus (A - B) c) }

sub_lean : (s : Bool) (x : Float) → sign_of x ≡ false → AtMost x 1 1 → Lean (sub binary32 x (fin s 14073749 (negsuc 45)))
unfolding sub sign_of
sub_lean s nan q h = absurd h
sub_lean s (inf t) q h = absurd h
sub_lean s (fin true m e) q h = absurd (true≢false q)
sub_lean s (fin false m e) q h =
    sum_lean (m * up e * 70368744177664) (14073749 * 1 * down e) (down e) (down_pos e) (wide (m * up e) (down e) h) refl (not s)
  where
    wide : (A D : ℕ) → A * 1 ≤ 1 * D → A * 70368744177664 ≤ D * 70368744177664
    wide A D h = omega arith

own_lean : (x : Float) → sign_of x ≡ false → AtMost x 1 1 → Lean x
own_lean nan q h = absurd h
own_lean (inf t) q h = absurd h
own_lean (fin s m e) q h = record { most = omega arith; low = inl q }

-- ---- b
ulp_number : T (not (is_nan one_minus_ulp))
unfolding is_nan of_bits
ulp_number = tt

ulp_plus : Plus one_minus_ulp
unfolding sign_of of_bits
ulp_plus = inl refl

plus_small : (x : Float) → Plus x → le x one_minus_ulp ≡ true → Small x 1
unfolding sign_of of_bits lt
plus_small nan p h = absurd (unfold le in false≢true h)
plus_small (inf true) (inl p) h = absurd (true≢false p)
plus_small (inf true) (inr p) h = absurd p
plus_small (inf false) p h = absurd (unfold le in false≢true h)
plus_small (fin true m e) (inl p) h = absurd (true≢false p)
plus_small (fin true m e) (inr p) h = omega (arith, ap (λ (z : ℕ). z * up e) p, zero-mul (up e))
plus_small (fin false m e) p h =
    let l : m * up e * 16777216 ≤ 16777215 * 1 * down e = ltb-false (16777215 * 1 * down e) (m * up e * 16777216) (not_lt_of_le (fin false m e) (fin false 16777215 (negsuc 23)) h) in
    omega arith

pub record Start (b : Float) : Type 0 where
  pub plus : Plus b
  pub most : Small b 1

min_start : (v : Float) → Plus v → Start (min_of v one_minus_ulp)
min_start v p =
    let q : Plus (min_of v one_minus_ulp) = go (min_picks v one_minus_ulp) in
    record { plus = q; most = plus_small (min_of v one_minus_ulp) q (min_right v one_minus_ulp ulp_number) }
  where
    go : (min_of v one_minus_ulp ≡ v) ⊎ (min_of v one_minus_ulp ≡ one_minus_ulp) → Plus (min_of v one_minus_ulp)
    go (inl e) = subst Plus (sym e) p
    go (inr e) = subst Plus (sym e) ulp_plus

-- ---- of a checked line's ends
whole_fin : (x : Float) (n : ℤ) → IsWhole x n → T (finite x)
whole_fin nan n h = h
whole_fin (inf s) n h = h
whole_fin (fin s m e) n h = tt

module _ (s0 s1 : Vec2) (h : Scaled s0) (k : Scaled s1) (ordered : lt s1.y s0.y ≡ false) where
  abbrev m : Slope
  m = slope_of s0 s1

  dx_small : Small m.dx (coord_tiles + coord_tiles)
  unfolding slope_of
  dx_small = abs_small (sub binary32 s1.x s0.x) (coord_tiles + coord_tiles) (sub_small s1.x s0.x coord_tiles coord_tiles (omega (arith, far.tiles)) k.in_x.few h.in_x.few)

  dy_small : Small m.dy (coord_tiles + coord_tiles)
  unfolding slope_of
  dy_small = sub_small s1.y s0.y coord_tiles coord_tiles (omega (arith, far.tiles)) k.in_y.few h.in_y.few

  dy_plus : Plus m.dy
  unfolding slope_of
  dy_plus = sub_plus s1.y s0.y (near_finite s1.y k.in_y) (near_finite s0.y h.in_y) ordered

  dx_plus : sign_of m.dx ≡ false
  unfolding slope_of
  dx_plus = abs_plus (sub binary32 s1.x s0.x)

  total_small : Small (add binary32 m.dx m.dy) 4194304
  total_small =
      small_more (add binary32 m.dx m.dy) (coord_tiles + coord_tiles + (coord_tiles + coord_tiles)) 4194304 (omega (arith, far.tiles))
      (add_small m.dx m.dy (coord_tiles + coord_tiles) (coord_tiles + coord_tiles) (omega (arith, far.tiles)) dx_small dy_small)

  total : Total m.dx (add binary32 m.dx m.dy)
  unfolding slope_of
  total =
      total_of m.dx m.dy (abs_fits (sub binary32 s1.x s0.x) (sub-fits binary32 s1.x s0.x)) (sub-fits binary32 s1.y s0.y)
      (small_finite m.dx (coord_tiles + coord_tiles) dx_small) (small_finite m.dy (coord_tiles + coord_tiles) dy_small) dx_plus dy_plus total_small

  over_plus : Plus m.idxdy
  unfolding slope_of
  over_plus = inl (recip_plus (add binary32 m.dx m.dy) total.R total.is_r)

  -- c
  c_plus : Plus m.c
  unfolding slope_of
  c_plus =
      let v = mul binary32 s0.x m.sign in
      let f : T (finite v) = subst (λ (u : Float). T (finite (mul binary32 s0.x u))) (sym (sign_unit (le s0.x s1.x)))
      (small_finite (mul binary32 s0.x (unit (not (le s0.x s1.x)))) coord_tiles (small_sign (not (le s0.x s1.x)) s0.x coord_tiles (omega (arith, far.tiles)) h.in_x.few)) in
      sub_plus v (floor_of v) f (whole_finite (floor_of v) (floor_whole v (mul-fits binary32 s0.x m.sign) f)) (floor_not_above v (mul-fits binary32 s0.x m.sign) f)

  -- ytop - s0.y
  next_whole : IsWhole (add binary32 (floor_of s0.y) one) (floor_z s0.y +ℤ pos 1)
  next_whole =
      add_whole (floor_of s0.y) one (floor_z s0.y) (pos 1) (floor_is s0.y h.in_y.fit (near_finite s0.y h.in_y)) one_whole
      (omega (arith, abs_sum (floor_z s0.y) (pos 1), floor_small s0.y coord_tiles h.in_y.few, far.tiles))

  t_plus : Plus (sub binary32 m.ytop s0.y)
  unfolding slope_of
  t_plus = go (eq s0.y s1.y)
    where
      f : T (finite s0.y)
      f = near_finite s0.y h.in_y

      go : (b : Bool) → Plus (sub binary32 (cond b (ceil_of s0.y) (add binary32 (floor_of s0.y) one)) s0.y)
      go true = sub_plus (ceil_of s0.y) s0.y (whole_finite (ceil_of s0.y) (ceil_whole s0.y h.in_y.fit f)) f (ceil_not_below s0.y h.in_y.fit f)
      go false =
          sub_plus (add binary32 (floor_of s0.y) one) s0.y (whole_fin (add binary32 (floor_of s0.y) one) (floor_z s0.y +ℤ pos 1) next_whole) f
          (next_not_below s0.y (add binary32 (floor_of s0.y) one) f next_whole)

  pub start_in : Start (b_of m s0)
  unfolding b_of
  start_in =
      let t = sub binary32 m.ytop s0.y in
      let v = add binary32 (mul binary32 m.dy m.c) (mul binary32 m.dx t) in
      min_start (mul binary32 v m.idxdy)
      (mul_plus v m.idxdy (add_plus (mul binary32 m.dy m.c) (mul binary32 m.dx t) (mul_plus m.dy m.c dy_plus c_plus) (mul_plus m.dx t (inl dx_plus) t_plus)) over_plus)

  -- a
  a0_most : T (finite (mul binary32 m.dx m.idxdy)) → (sign_of (mul binary32 m.dx m.idxdy) ≡ false) × AtMost (mul binary32 m.dx m.idxdy) 1 1
  unfolding slope_of
  a0_most f = rise_most m.dx (add binary32 m.dx m.dy) total f

  pub rise_lean : (n : Counts) (b : Float) → T (finite (a_of m n b)) → Lean (a_of m n b)
  unfolding a_of
  rise_lean n b f = go (ne err zero_f) f
    where
      a0 : Float
      a0 = mul binary32 m.dx m.idxdy

      err : Float
      err = sub binary32 (floor_of (add binary32 (mul binary32 a0 (sub binary32 (float n.count) one)) b)) (float n.count_x)

      go : (t : Bool) → T (finite (cond t (sub binary32 a0 (copysign_of robust_epsilon err)) a0)) → Lean (cond t (sub binary32 a0 (copysign_of robust_epsilon err)) a0)
      go false g = let c = a0_most g in own_lean a0 c.0 c.1
      go true g =
          let s = sign_of err in
          let g' : T (finite (sub binary32 a0 (fin s 14073749 (negsuc 45)))) = subst (λ (y : Float). T (finite (sub binary32 a0 y))) (epsilon_is s) g in
          let c = a0_most (sub_finite a0 s 14073749 (negsuc 45) g') in
          subst (λ (y : Float). Lean (sub binary32 a0 y)) (sym (epsilon_is s)) (sub_lean s a0 c.0 c.1)
