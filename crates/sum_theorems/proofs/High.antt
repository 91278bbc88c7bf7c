-- A segment that a fill takes and that is at least 2 ^ -100 high adds no NaN to any pixel of a tile at 0, 0. Assumes nothing.
--     first_right   its first end in the row isn't farther left than -16.5
--     ends-small    both ends in the row are finite
--     high_number   what it adds to a pixel is no NaN
use mathlib.Core.Path.{◌≡◌, refl, sym, ap, ◌∙◌, subst}
use mathlib.Core.Bool.{Bool, true, false, not, true≢false}
use mathlib.Core.Logic.{inl, inr, ⊎_elim}
use Prim.Native.Nat.{ℕ, suc, zero, ◌+◌, ◌*◌, ◌^◌, ◌≤◌, ◌<◌}
use native.Mathlib.Nat.{le_trans, le_of_eq, mul-pos, zero-mul, mul-le-mul_right, mul-le-mul, le_of_mul-le-mul_right, mul_right_comm}
use native.Mathlib.Omega.{arith}
use lib.Dec.{T, eqb-suc-zero, lit<, lit≤}
use lib.IntN.{pos, negsuc}
use lib.Ieee.{Float, nan, inf, fin, binary32, up, down, unlike, round, sum, add, sub, mul, div, neg, lt, le, ne, fits, is_nan, of_int, of_bits}
use lib.Ieee.Fits.{down_pos, up_pos, add-fits, sub-fits, mul-fits, of_int-fits}
use lib.Ieee.Scale.{finite}
use borrow.Author.Tests.{ltb-false}
use Rattle.float32.specs.Meaning.{abs_of, sign_of, min_of, max_of, clamp_of}
use Rattle.float32.proofs.Laws.{min_fits, max_fits}
use Rattle.float32.proofs.Order.{not_lt_of_le}
use Rattle.float32.proofs.MinMax.{min_picks, max_picks, max_left}
use Rattle.util.specs.Constants as Number
use Rattle.panel.specs.Segments.{Straight}
use Rattle.panel.specs.declared.segments.Segment.{Segment}
use Rattle.exact.specs.Whole.{Small}
use Rattle.exact.proofs.Bounds.{small_finite, finite_number, small_round, small_more}
use Rattle.errors.specs.Sizes.{parts, Plus}
use Rattle.errors.proofs.Sizes.{add_small, sub_small}
use Rattle.errors.proofs.Signs.{sub_plus}
use Rattle.errors.proofs.Parts.{parts_pos}
use Rattle.sides.specs.Tile.{tile_width, tile_height}
use Rattle.one_row.specs.Row.{way_of, row_of, reach_of, added_of}
use Rattle.sum_theorems.specs.Sums.{Tame, least_height, High}
use Rattle.rounded.specs.Share.{share_of}
use Rattle.rounded.proofs.Rises.{Gap, sum_rd, rd_order, nought}
use Rattle.sum_theorems.proofs.Signed.{At, Place, Between, own_at, own_rd, add_rd, sub_rd, mul_rd, at_order, at_plus, squeeze}
use Rattle.sum_theorems.proofs.Tame.{sum_size, mul_small}
use Rattle.sum_theorems.proofs.Shares.{share_most, at_number}
use Rattle.sum_theorems.proofs.Rows.{in_small, clamp_small, small_number, small_int, no_size, zero_only, edge_small, dy_small, y_small, rise_small, ordered, moved, int_finite, share_moved}
use Rattle.sum_theorems.proofs.Clear.{big_round, big_add, big_sub, big_mul, big_more, share_number}
use Rattle.sum_theorems.proofs.Turns.{over_place, toward, along}

-- ---- sizes
-- a number that is N at most in size, in parts
small_at : (x : Float) (N p n : ℕ) → Small x N → At x p n → p + n ≤ N * parts
small_at nan N p n h k = absurd h
small_at (inf s) N p n h k = absurd h
small_at (fin false m e) N p n h k =
    let o : p ≤ N * parts = le_of_mul-le-mul_right (le_trans (le_of_eq (sym k.0)) (le_trans (mul-le-mul_right parts h) (le_of_eq (mul_right_comm N (down e) parts)))) (down_pos e) in
    omega (arith, o, k.1)
small_at (fin true m e) N p n h k =
    let o : n ≤ N * parts = le_of_mul-le-mul_right (le_trans (le_of_eq (sym k.0)) (le_trans (mul-le-mul_right parts h) (le_of_eq (mul_right_comm N (down e) parts)))) (down_pos e) in
    omega (arith, o, k.1)

plus_none : (x : Float) (p n : ℕ) → Plus x → At x p n → n ≡ 0
plus_none nan p n h k = absurd k
plus_none (inf s) p n h k = absurd k
plus_none (fin false m e) p n h k = k.1
plus_none (fin true m e) p n (inl h) k = absurd (unfold sign_of in true≢false h)
plus_none (fin true m e) p n (inr h) k =
    nought n (down e) (down_pos e) (le_of_eq (sym k.0 ∙ ap (λ (z : ℕ). z * up e * parts) h ∙ ap (λ (z : ℕ). z * parts) (zero-mul (up e)) ∙ zero-mul parts))

-- the difference of two numbers from 0 to N
diff_small : (x y : Float) (N : ℕ) → N ≤ 2 ^ 24 → le Number.zero x ≡ true → le Number.zero y ≡ true → Small x N → Small y N → Small (sub binary32 x y) N
unfolding sub add neg
diff_small nan y N b g h k l = absurd k
diff_small (inf s) y N b g h k l = absurd k
diff_small (fin s m e) nan N b g h k l = absurd l
diff_small (fin s m e) (inf t) N b g h k l = absurd l
diff_small (fin s m e) (fin t n d) N b g h k l = go s t g h
  where
    under : (a p q : ℕ) → a ≤ N * p → a * q ≤ N * (p * q)
    under a p q h = omega (arith, mul-le-mul_right q h)

    a_most : m * up e * down d ≤ N * (down e * down d)
    a_most = under (m * up e) (down e) (down d) k

    b_most : n * up d * down e ≤ N * (down e * down d)
    b_most = omega (arith, under (n * up d) (down d) (down e) l)

    by : (s : Bool) (k : ℕ) → k ≤ N * (down e * down d) → Small (round binary32 s k (down e * down d)) N
    by s k o = small_round s k (down e * down d) N (mul-pos (down_pos e) (down_pos d)) b o

    go : (s t : Bool) → le Number.zero (fin s m e) ≡ true → le Number.zero (fin t n d) ≡ true → Small (sum binary32 s (m * up e * down d) (not t) (n * up d * down e) (down e * down d)) N
    go false false g h =
        let r = sum_rd false (m * up e * down d) true (n * up d * down e) (down e * down d) in
        subst (λ (y : Float). Small y N) (sym r.is) (by r.s r.k (each r.s r.k r.gap))
      where
        each : (s : Bool) (k : ℕ) → Gap s k (m * up e * down d + 0) (0 + n * up d * down e) → k ≤ N * (down e * down d)
        each false k q = omega (arith, q, a_most)
        each true k q = omega (arith, q, b_most)
    go true t g h =
        let w = sum_size true (m * up e * down d) (not t) (n * up d * down e) (down e * down d) in
        subst (λ (y : Float). Small y N) (sym w.2) (by w.0 w.1 (omega (arith, w.3, ap (λ (z : ℕ). z * down d) (zero_only m e g), zero-mul (down d), b_most)))
    go false true g h =
        let w = sum_size false (m * up e * down d) false (n * up d * down e) (down e * down d) in
        subst (λ (y : Float). Small y N) (sym w.2) (by w.0 w.1 (omega (arith, w.3, ap (λ (z : ℕ). z * down e) (zero_only n d h), zero-mul (down e), a_most)))

-- ---- the reciprocal
recip_small : (y : Float) (N : ℕ) → Small y N → lt (abs_of y) least_height ≡ false → Small (div binary32 Number.one y) (2 ^ 100)
unfolding div of_bits lt abs_of
recip_small nan N s h = absurd s
recip_small (inf t) N s h = absurd s
recip_small (fin t zero d) N s h =
    let o : 1 * down d ≤ 0 * up d * 2 ^ 100 = ltb-false (0 * up d * 2 ^ 100) (1 * down d) h in
    absurd (omega (arith, o, zero-mul (up d), down_pos d))
recip_small (fin t (suc n) d) N s h =
    let o : 1 * down d ≤ suc n * up d * 2 ^ 100 = ltb-false (suc n * up d * 2 ^ 100) (1 * down d) h in
    rw (eqb-suc-zero n)
    (big_round (unlike false t) (1 * 1 * down d) (suc n * up d * 1) 100 (mul-pos (mul-pos (native.Mathlib.Nat.zero-lt-suc n) (up_pos d)) (lit< tt)) (lit≤ tt) (omega (arith, o)))

not_none : (y : Float) (p n : ℕ) → lt (abs_of y) least_height ≡ false → At y p n → 0 < p + n
unfolding lt abs_of
not_none nan p n h k = absurd k
not_none (inf s) p n h k = absurd k
not_none (fin false m e) p n h k =
    let o : 1 * down e ≤ m * up e * 2 ^ 100 = ltb-false (m * up e * 2 ^ 100) (1 * down e) h in
    some (m * up e) (down e) p n parts o (down_pos e) parts_pos k.0
  where
    some : (a d p n P : ℕ) → 1 * d ≤ a * 2 ^ 100 → 0 < d → 0 < P → a * P ≡ p * d → 0 < p + n
    some zero d p n P h o q e = absurd (omega (arith, h, o))
    some (suc a) d zero n P h o q e = absurd (omega (arith, mul-pos (native.Mathlib.Nat.zero-lt-suc a) q, e, zero-mul d))
    some (suc a) d (suc p) n P h o q e = omega arith
not_none (fin true m e) p n h k =
    let o : 1 * down e ≤ m * up e * 2 ^ 100 = ltb-false (m * up e * 2 ^ 100) (1 * down e) h in
    some (m * up e) (down e) n p parts o (down_pos e) parts_pos k.0
  where
    some : (a d n p P : ℕ) → 1 * d ≤ a * 2 ^ 100 → 0 < d → 0 < P → a * P ≡ n * d → 0 < p + n
    some zero d n p P h o q e = absurd (omega (arith, h, o))
    some (suc a) d zero p P h o q e = absurd (omega (arith, mul-pos (native.Mathlib.Nat.zero-lt-suc a) q, e, zero-mul d))
    some (suc a) d (suc n) p P h o q e = omega arith

-- ---- an end in the row
-- 16.5 and -16.5, 33, and -31.5
abbrev wide_right : Float
wide_right = fin false 33 (negsuc 0)

abbrev wide_left : Float
wide_left = fin true 33 (negsuc 0)

abbrev far_right : Float
far_right = fin false 33 (pos 0)

abbrev far_left : Float
far_left = fin true 63 (negsuc 0)

right_fits : T (fits binary32 wide_right)
unfolding fits
right_fits = tt

left_fits : T (fits binary32 wide_left)
unfolding fits
left_fits = tt

far_fits : T (fits binary32 far_right)
unfolding fits
far_fits = tt

end_fits : T (fits binary32 far_left)
unfolding fits
end_fits = tt

side : Place wide_right
side = own_at wide_right right_fits tt

corner : Place far_left
corner = own_at far_left end_fits tt

-- x and how far along t the segment goes, of its width d
first_right : (x t d : Float) (pw nw pd nd : ℕ) → T (fits binary32 x) → T (fits binary32 t) → T (fits binary32 d) → At x pw nw → nw ≡ 0 → pw ≤ 16 * parts → At d pd nd → pd + nd ≤ 16 * parts
    → Between t 0 0 over_place.p over_place.n → Between (add binary32 x (mul binary32 t d)) 0 side.p (33 * parts) 0
first_right x t d pw nw pd nd fx ft fd hx zx few hd wide b =
    let h = side.p in
    let o = over_place.p in
    let nt : b.n ≡ 0 = at_plus t b.p b.n b.at (omega (arith, b.low)) in
    let ht : At t b.p 0 = subst (λ (k : ℕ). At t b.p k) nt b.at in
    let pt : b.p ≤ o = omega (arith, b.high, nt, over_place.at.1) in
    let same : o * 16 ≡ h = omega (arith, over_place.at.0, side.at.0) in
    let u : b.p * nd ≤ h * parts = times b.p o nd h parts pt (omega (arith, wide)) same in
    let v : b.p * pd ≤ h * parts = times b.p o pd h parts pt (omega (arith, wide)) same in
    let hs : At wide_right h 0 = (side.at.0, refl) in
    let hl : At wide_left 0 h = (side.at.0, refl) in
    let q = squeeze (mul binary32 t d) (b.p * pd + 0 * nd) (b.p * nd + 0 * pd) (parts * parts) wide_left 0 h wide_right h 0 (mul-pos parts_pos parts_pos)
    (mul-fits binary32 t d) left_fits right_fits hl hs
    (mul_rd t d b.p 0 pd nd ht hd) (omega (arith, mul-le-mul_right parts u)) (omega (arith, mul-le-mul_right parts v)) in
    let i : nw + q.n ≤ pw + q.p + h = omega (arith, zx, q.low) in
    let j : pw + q.p ≤ 33 * parts + (nw + q.n) = omega (arith, few, q.high, side.at.0) in
    squeeze (add binary32 x (mul binary32 t d)) (pw + q.p) (nw + q.n) parts wide_left 0 h far_right (33 * parts) 0 parts_pos (add-fits binary32 x (mul binary32 t d)) left_fits far_fits hl
    (omega arith, refl) (add_rd x (mul binary32 t d) pw nw q.p q.n hx q.at) (omega (arith, mul-le-mul_right {m = nw + q.n} {n = pw + q.p + h} parts i)) (omega (arith, mul-le-mul_right {m = pw + q.p} {n = 33 * parts + (nw + q.n)} parts j))
  where
    times : (a o n h P : ℕ) → a ≤ o → n ≤ 16 * P → o * 16 ≡ h → a * n ≤ h * P
    times a o n h P x y e = let k : a * n ≤ o * (16 * P) = mul-le-mul x y in omega (arith, k, ap (λ (z : ℕ). z * P) e)

end_small : (x u r d : Float) → Small x 16 → Small u 33 → Small r (2 ^ 100) → Small d 16 → Small (add binary32 x (mul binary32 (mul binary32 u r) d)) (2 ^ 112)
end_small x u r d hx hu hr hd =
    let a : Small u (2 ^ 6) = small_more u 33 (2 ^ 6) (lit≤ tt) hu in
    let t : Small (mul binary32 u r) (2 ^ 106) = big_mul u r 6 100 (lit≤ tt) a hr in
    let q : Small (mul binary32 (mul binary32 u r) d) (2 ^ 110) = big_mul (mul binary32 u r) d 106 4 (lit≤ tt) t (small_more d 16 (2 ^ 4) (lit≤ tt) hd) in
    big_add x (mul binary32 (mul binary32 u r) d) 111 (lit≤ tt) (big_more x 4 111 (lit≤ tt) (small_more x 16 (2 ^ 4) (lit≤ tt) hx)) (big_more (mul binary32 (mul binary32 u r) d) 110 111 (lit≤ tt) q)

-- ---- the ends, taken from a pixel's left side
module _ (x y : Float) (fx : T (fits binary32 x)) (fy : T (fits binary32 y)) (hx : Small x (2 ^ 112)) (hy : Small y (2 ^ 112)) (b : Between x 0 side.p (33 * parts) 0)
    (i : ℕ) (col : i < tile_width) where
  abbrev c : Float
  c = of_int binary32 (pos i)

  c_big : Small c (2 ^ 112)
  c_big = big_more c 4 112 (lit≤ tt) (small_more c i (2 ^ 4) (omega (arith, col)) (small_int i (omega (arith, col))))

  r_small : Small (max_of x y) (2 ^ 112)
  r_small = ⊎_elim (λ e. subst (λ (z : Float). Small z (2 ^ 112)) (sym e) hx) (λ e. subst (λ (z : Float). Small z (2 ^ 112)) (sym e) hy) (max_picks x y)

  l_small : Small (min_of x y) (2 ^ 112)
  l_small = ⊎_elim (λ e. subst (λ (z : Float). Small z (2 ^ 112)) (sym e) hx) (λ e. subst (λ (z : Float). Small z (2 ^ 112)) (sym e) hy) (min_picks x y)

  moved_small : Small (sub binary32 (max_of x y) c) (2 ^ 113)
  moved_small = big_sub (max_of x y) c 112 (lit≤ tt) r_small c_big

  vr : Place (max_of x y)
  vr = own_at (max_of x y) (max_fits x y fx fy) (small_finite (max_of x y) (2 ^ 112) r_small)

  vc : Place c
  vc = own_at c (of_int-fits binary32 (pos i)) (small_finite c (2 ^ 112) c_big)

  vm : Place (sub binary32 (max_of x y) c)
  vm = own_at (sub binary32 (max_of x y) c) (sub-fits binary32 (max_of x y) c) (small_finite (sub binary32 (max_of x y) c) (2 ^ 113) moved_small)

  not_left : vm.n * 2 ≤ vm.p * 2 + 63 * parts
  not_left =
      let o : b.p + vr.n ≤ vr.p + b.n = at_order x (max_of x y) b.p b.n vr.p vr.n b.at vr.at (not_lt_of_le x (max_of x y) (max_left x y (at_number x b.p b.n b.at))) in
      let q : vc.p + vc.n ≤ 15 * parts = small_at c 15 vc.p vc.n (small_more c i 15 (omega (arith, col)) (small_int i (omega (arith, col)))) vc.at in
      let z : corner.n * 2 ≡ 63 * parts = omega (arith, corner.at.0) in
      let k : vr.n + vc.p ≤ vr.p + vc.n + corner.n = omega (arith, o, q, z, b.low, side.at.0) in
      let w : 0 + vm.n ≤ vm.p + corner.n = at_order far_left (sub binary32 (max_of x y) c) 0 corner.n vm.p vm.n (corner.at.0, refl) vm.at
      (rd_order far_left 0 corner.n parts (sub binary32 (max_of x y) c) (vr.p + vc.n) (vr.n + vc.p) parts parts_pos parts_pos (own_rd far_left 0 corner.n end_fits (corner.at.0, refl))
      (sub_rd (max_of x y) c vr.p vr.n vc.p vc.n vr.at vc.at) (omega (arith, mul-le-mul_right parts k))) in
      omega (arith, w, z)

  ends_number : share_of (sub binary32 (min_of x y) c) (sub binary32 (max_of x y) c) ≡ nan → ⊥
  ends_number =
      let f = small_finite (max_of x y) (2 ^ 112) r_small in
      let o = ordered x y (finite_number (max_of x y) f) in
      share_number (sub binary32 (min_of x y) c) (sub binary32 (max_of x y) c) (sub-fits binary32 (min_of x y) c) (sub-fits binary32 (max_of x y) c)
      (big_sub (min_of x y) c 112 (lit≤ tt) l_small c_big) moved_small
      (moved (min_of x y) (max_of x y) c (min_fits x y fx fy) (max_fits x y fx fy) (of_int-fits binary32 (pos i)) (small_finite c (2 ^ 112) c_big) f o.0 o.1)
      vm.p vm.n vm.at not_left

-- ---- a segment
number_of : (a edge dy : Float) → Tame a share_most → (a ≡ nan → ⊥) → Small edge 1 → Small dy 2 → add binary32 edge (mul binary32 a dy) ≡ nan → ⊥
number_of a edge dy (inl e) n he hd q = n e
number_of a edge dy (inr h) n he hd q =
    none (add binary32 edge (mul binary32 a dy)) (1 + share_most * 2) (add_small edge (mul binary32 a dy) 1 (share_most * 2) (lit≤ tt) he (mul_small a dy share_most 2 (lit≤ tt) h hd)) q
  where
    none : (x : Float) (N : ℕ) → Small x N → x ≡ nan → ⊥
    none x N h e = subst (λ (y : Float). Small y N) e h

zero_finite : T (finite Number.zero)
unfolding of_bits
zero_finite = tt

module _ (s : Segment) (taken : Straight s) (high : High s) (yi : ℕ) (low : yi < tile_height) (i : ℕ) (col : i < tile_width)
    (through : ne (row_of (way_of s Number.zero) Number.zero yi).dy Number.zero ≡ true) where
  abbrev y : Float
  y = sub binary32 s.p0.y (add binary32 Number.zero (of_int binary32 (pos yi)))

  abbrev rise : Float
  rise = sub binary32 s.p1.y s.p0.y

  abbrev x : Float
  x = sub binary32 s.p0.x Number.zero

  abbrev dx : Float
  dx = sub binary32 s.p1.x s.p0.x

  abbrev recip : Float
  recip = div binary32 Number.one rise

  abbrev y0 : Float
  y0 = clamp_of y Number.zero Number.one

  abbrev y1 : Float
  y1 = clamp_of (add binary32 y rise) Number.zero Number.one

  hy : Small y 32
  unfolding row_of way_of
  hy = y_small s Number.zero taken yi low

  hr : Small rise 32
  unfolding way_of
  hr = rise_small s Number.zero taken yi low

  he : Small (add binary32 y rise) 64
  he = add_small y rise 32 32 (lit≤ tt) hy hr

  p0_small : Small s.p0.x 16
  p0_small = in_small s.p0.x taken.from_end.left taken.from_end.right

  x_small : Small x 16
  x_small = sub_small s.p0.x Number.zero 16 0 (lit≤ tt) p0_small no_size

  dx_small : Small dx 16
  dx_small = diff_small s.p1.x s.p0.x 16 (lit≤ tt) taken.to_end.left taken.from_end.left (in_small s.p1.x taken.to_end.left taken.to_end.right) p0_small

  recip_big : Small recip (2 ^ 100)
  recip_big = recip_small rise 32 hr high

  vy : Place y
  vy = own_at y (sub-fits binary32 _ _) (small_finite y 32 hy)

  vd : Place rise
  vd = own_at rise (sub-fits binary32 _ _) (small_finite rise 32 hr)

  ve : Place (add binary32 y rise)
  ve = own_at (add binary32 y rise) (add-fits binary32 _ _) (small_finite (add binary32 y rise) 64 he)

  vx : Place x
  vx = own_at x (sub-fits binary32 _ _) (small_finite x 16 x_small)

  vdx : Place dx
  vdx = own_at dx (sub-fits binary32 _ _) (small_finite dx 16 dx_small)

  crossed : ne (sub binary32 y0 y1) Number.zero ≡ true
  unfolding row_of way_of
  crossed = through

  start : Between (mul binary32 (sub binary32 y0 y) recip) 0 0 over_place.p over_place.n
  start =
      along (sub binary32 y0 y) rise vd.p vd.n (sub-fits binary32 y0 y) vd.at (not_none rise vd.p vd.n high vd.at) (small_at rise 32 vd.p vd.n hr vd.at)
      (small_finite recip (2 ^ 100) recip_big)
      (toward y rise (sub-fits binary32 _ _) (sub-fits binary32 _ _) vy.p vy.n vd.p vd.n ve.p ve.n vy.at vd.at ve.at crossed)

  x_plus : vx.n ≡ 0
  x_plus = plus_none x vx.p vx.n (sub_plus s.p0.x Number.zero (small_finite s.p0.x 16 p0_small) zero_finite (not_lt_of_le Number.zero s.p0.x taken.from_end.left)) vx.at

  from : Between (add binary32 x (mul binary32 (mul binary32 (sub binary32 y0 y) recip) dx)) 0 side.p (33 * parts) 0
  from =
      first_right x (mul binary32 (sub binary32 y0 y) recip) dx vx.p vx.n vdx.p vdx.n (sub-fits binary32 _ _) (mul-fits binary32 _ _) (sub-fits binary32 _ _) vx.at x_plus
      (omega (arith, small_at x 16 vx.p vx.n x_small vx.at)) vdx.at (small_at dx 16 vdx.p vdx.n dx_small vdx.at) start

  reach_small : (z : Float) → T (not (is_nan z)) → Small (add binary32 x (mul binary32 (mul binary32 (sub binary32 (clamp_of z Number.zero Number.one) y) recip) dx)) (2 ^ 112)
  reach_small z n =
      end_small x (sub binary32 (clamp_of z Number.zero Number.one) y) recip dx x_small (sub_small (clamp_of z Number.zero Number.one) y 1 32 (lit≤ tt) (clamp_small z n) hy) recip_big dx_small

  pub high_number : added_of (reach_of (way_of s Number.zero) (row_of (way_of s Number.zero) Number.zero yi)) (row_of (way_of s Number.zero) Number.zero yi).edge
      (row_of (way_of s Number.zero) Number.zero yi).dy i ≡ nan → ⊥
  unfolding added_of reach_of row_of way_of
  high_number =
      let x0 = add binary32 x (mul binary32 (mul binary32 (sub binary32 y0 y) recip) dx) in
      let x1 = add binary32 x (mul binary32 (mul binary32 (sub binary32 y1 y) recip) dx) in
      let c = of_int binary32 (pos i) in
      number_of (share_of (sub binary32 (min_of x0 x1) c) (sub binary32 (max_of x0 x1) c)) _ _
      (share_moved x0 x1 c (add-fits binary32 _ _) (add-fits binary32 _ _) (of_int-fits binary32 (pos i)) (int_finite i col))
      (ends_number x0 x1 (add-fits binary32 _ _) (add-fits binary32 _ _) (reach_small y (small_number y 32 hy))
      (reach_small (add binary32 y rise) (small_number (add binary32 y rise) 64 he)) from i col)
      (edge_small s Number.zero taken yi low) (dy_small s Number.zero taken yi low)
