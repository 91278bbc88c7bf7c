-- What a segment that a fill takes does in one row of a tile at 0, 0. Assumes nothing.
--     edge_small, dy_small   what it adds along the left side is at most 1 in size, its height in the row at most 2
--     reach-order            its ends in the row, from left to right
--     added_tame             what it adds to a pixel is a NaN, or at most 2 ^ 24 in size
use mathlib.Core.Path.{◌≡◌, refl, sym, ap, subst, ◌∙◌}
use mathlib.Core.Bool.{Bool, true, false, not, beq, ◌||◌, true≢false, false≢true}
use mathlib.Core.Logic.{⊎_elim}
use Prim.Native.Nat.{ℕ, ◌+◌, ◌*◌, ◌^◌, ◌≤◌, ◌<◌}
use native.Mathlib.Nat.{mul-le-mul_right, mul-pos, zero-mul}
use native.Mathlib.Omega.{arith}
use lib.Dec.{T, eqb, lit<, lit≤}
use lib.IntN.{ℤ, pos}
use lib.Ieee.{Float, nan, inf, fin, binary32, up, down, unlike, round, add, sub, mul, neg, lt, eq, le, fits, is_nan, of_int, of_bits}
use lib.Ieee.Fits.{down_pos, add-fits, sub-fits, of_int-fits}
use lib.Ieee.Scale.{finite}
use borrow.Author.Tests.{eqb-true}
use Rattle.float32.proofs.Tests.{yes}
use Rattle.float32.specs.Meaning.{whole, unit, min_of, max_of, clamp_of, signum_of}
use Rattle.float32.proofs.Laws.{clamp_in, min_fits, max_fits}
use Rattle.float32.proofs.Order.{not_lt_of_le, lt_irreflexive}
use Rattle.float32.proofs.MinMax.{min_picks, min_of_nan, max_of_nan, min_with_nan, max_with_nan, max_left, max_right}
use Rattle.util.specs.Constants as Number
use Rattle.panel.specs.Segments.{Straight}
use Rattle.panel.proofs.BoolLaws.{both}
use Rattle.panel.specs.declared.segments.Segment.{Segment}
use Rattle.exact.specs.Whole.{Small}
use Rattle.exact.proofs.Bounds.{small_finite, finite_number, small_of_le, small_round, small_more}
use Rattle.errors.specs.Sizes.{parts}
use Rattle.errors.proofs.Sizes.{add_small, sub_small}
use Rattle.errors.proofs.Parts.{parts_pos}
use Rattle.sides.specs.Tile.{tile_width, tile_height}
use Rattle.one_row.specs.Row.{way_of, row_of, reach_of, added_of}
use Rattle.one_row.specs.declared.Way.{Way}
use Rattle.one_row.specs.declared.Row.{Row}
use Rattle.sum_theorems.specs.Sums.{Tame}
use Rattle.rounded.specs.Share.{low_of, held_of, share_of}
use Rattle.rounded.proofs.Numbers.{add-number, less_number}
use Rattle.rounded.proofs.Numbers as Numbers
use Rattle.rounded.proofs.Rises.{rd_order}
use Rattle.sum_theorems.proofs.Signed.{own_at, sub_rd, at_order}
use Rattle.sum_theorems.proofs.Tame.{div_wild, sub_wild_left, mul_tame, add_tame}
use Rattle.sum_theorems.proofs.Shares.{share_most, share_tame}

-- ---- sizes

-- a number from 0 up to N
pub zero_only : (m : ℕ) (e : ℤ) → le Number.zero (fin true m e) ≡ true → m * up e ≡ 0
unfolding le lt eq of_bits
zero_only m e g =
    let w = both (eqb (0 * up (pos 0) * down e) (m * up e * down (pos 0))) (beq false true || eqb (0 * up (pos 0) * down e) 0) g in
    let z : 0 * down e ≡ m * up e * 1 = eqb-true _ _ w.0 in
    omega (arith, z, zero-mul (down e))

between_small : (x : Float) (N : ℕ) → N ≤ 2 ^ 24 → le Number.zero x ≡ true → le x (whole false N) ≡ true → Small x N
between_small nan N b g h = absurd (unfold le in false≢true h)
between_small (inf true) N b g h = absurd (unfold le of_bits in false≢true g)
between_small (inf false) N b g h = small_of_le (inf false) N b (unfold Rattle.float32.specs.Meaning.abs_of in h)
between_small (fin false m e) N b g h = small_of_le (fin false m e) N b (unfold Rattle.float32.specs.Meaning.abs_of in h)
between_small (fin true m e) N b g h = let z = zero_only m e g in omega (arith, z)

side : Number.tile_side ≡ whole false 16
unfolding of_bits round
side = refl

one_is : Number.one ≡ whole false 1
unfolding of_bits round
one_is = refl

pub unit_small : (x : Float) → le Number.zero x ≡ true → le x Number.one ≡ true → Small x 1
unit_small x g h = between_small x 1 (omega arith) g (ap (le x) (sym one_is) ∙ h)

-- an end's coordinate
pub in_small : (x : Float) → le Number.zero x ≡ true → le x Number.tile_side ≡ true → Small x 16
in_small x g h = between_small x 16 (omega arith) g (ap (le x) (sym side) ∙ h)

-- what is clamped to 0..1
pub clamp_small : (x : Float) → T (not (is_nan x)) → Small (clamp_of x Number.zero Number.one) 1
clamp_small x n =
    let c = clamp_in x Number.zero Number.one n (unfold le of_bits in refl) in
    between_small (clamp_of x Number.zero Number.one) 1 (omega arith) c.0 (ap (le (clamp_of x Number.zero Number.one)) (sym one_is) ∙ c.1)

pub small_number : (x : Float) (N : ℕ) → Small x N → T (not (is_nan x))
small_number x N h = finite_number x (small_finite x N h)

pub small_int : (n : ℕ) → n ≤ 2 ^ 24 → Small (of_int binary32 (pos n)) n
unfolding of_int
small_int n b = small_round false n 1 n (lit< tt) b (omega arith)

pub no_size : Small Number.zero 0
unfolding of_bits
no_size = omega arith

pub one_size : Small Number.one 1
unfolding of_bits
one_size = omega arith

sign_unit : (x : Float) (N : ℕ) → Small x N → (t : Bool) × (signum_of x ≡ unit t)
unfolding signum_of
sign_unit nan N h = absurd h
sign_unit (inf s) N h = absurd h
sign_unit (fin s m e) N h = (s, refl)

sized : (t : Bool) (x : Float) → Small x 1 → Small (mul binary32 (unit t) x) 1
unfolding mul
sized t nan h = absurd h
sized t (inf s) h = absurd h
sized t (fin s m e) h = small_round (unlike t s) (1 * (m * up e)) (1 * down e) 1 (mul-pos (lit< tt) (down_pos e)) (omega arith) (omega (arith, h))

one_finite : T (finite Number.one)
unfolding of_bits
one_finite = tt

-- ---- a row of a tile at 0, 0
module _ (s : Segment) (xt : Float) (taken : Straight s) (yi : ℕ) (low : yi < tile_height) where
  abbrev top : Float
  top = add binary32 Number.zero (of_int binary32 (pos yi))

  top_small : Small top 16
  top_small = small_more top (0 + yi) 16 (omega (arith, low)) (add_small Number.zero (of_int binary32 (pos yi)) 0 yi (omega (arith, low)) no_size (small_int yi (omega (arith, low))))

  way_sign : (t : Bool) × ((way_of s xt).sign ≡ unit t)
  unfolding way_of
  way_sign =
      sign_unit (sub binary32 s.p1.x s.p0.x) 32
      (sub_small s.p1.x s.p0.x 16 16 (omega arith) (in_small s.p1.x taken.to_end.left taken.to_end.right) (in_small s.p0.x taken.from_end.left taken.from_end.right))

  -- what it adds along the tile's left side
  pub edge_small : Small (row_of (way_of s xt) Number.zero yi).edge 1
  unfolding row_of way_of
  edge_small =
      let height = add binary32 (sub binary32 top s.y_edge) Number.one in
      let k = clamp_small height (add-number (sub binary32 top s.y_edge) Number.one (less_number top s.y_edge (small_number top 16 top_small) (yes taken.edge)) one_finite) in
      let w = way_sign in
      subst (λ (x : Float). Small (mul binary32 x (clamp_of height Number.zero Number.one)) 1) (sym w.1) (sized w.0 (clamp_of height Number.zero Number.one) k)

  -- its first end's height in the row
  pub y_small : Small (row_of (way_of s xt) Number.zero yi).y 32
  unfolding row_of way_of
  y_small = sub_small s.p0.y top 16 16 (omega arith) (in_small s.p0.y taken.from_end.top taken.from_end.bottom) top_small

  pub rise_small : Small (way_of s xt).dy 32
  unfolding way_of
  rise_small =
      sub_small s.p1.y s.p0.y 16 16 (omega arith) (in_small s.p1.y taken.to_end.top taken.to_end.bottom)
      (in_small s.p0.y taken.from_end.top taken.from_end.bottom)

  -- and what of its height is in the row
  pub dy_small : Small (row_of (way_of s xt) Number.zero yi).dy 2
  unfolding row_of
  dy_small =
      let w = way_of s xt in
      let y = sub binary32 w.y top in
      let hy : Small y 32 = y_small in
      let e = add binary32 y w.dy in
      let he : Small e 64 = add_small y w.dy 32 32 (omega arith) hy rise_small in
      sub_small (clamp_of y Number.zero Number.one) (clamp_of e Number.zero Number.one) 1 1 (lit≤ tt) (clamp_small y (small_number y 32 hy)) (clamp_small e (small_number e 64 he))

-- ---- the ends in the row, from left to right
pub ordered : (x y : Float) → T (not (is_nan (max_of x y))) → T (not (is_nan (min_of x y))) × (lt (max_of x y) (min_of x y) ≡ false)
ordered x y n = go (is_nan x) refl (is_nan y) refl
  where
    same : (z : Float) → min_of x y ≡ z → max_of x y ≡ z → T (not (is_nan (min_of x y))) × (lt (max_of x y) (min_of x y) ≡ false)
    same z a b = (subst (λ (w : Float). T (not (is_nan w))) (b ∙ sym a) n, rw (a, b) (lt_irreflexive z))

    is : (z : Float) → is_nan z ≡ true → z ≡ nan
    is nan h = refl
    is (inf s) h = absurd (unfold is_nan in false≢true h)
    is (fin s m e) h = absurd (unfold is_nan in false≢true h)

    no : {b : Bool} → b ≡ false → T (not b)
    no e = subst (λ (t : Bool). T (not t)) (sym e) tt

    at : (z : Float) → T (not (is_nan z)) → le z (max_of x y) ≡ true → min_of x y ≡ z → T (not (is_nan (min_of x y))) × (lt (max_of x y) (min_of x y) ≡ false)
    at z k l e = (subst (λ (w : Float). T (not (is_nan w))) (sym e) k, ap (lt (max_of x y)) e ∙ not_lt_of_le z (max_of x y) l)

    go : (s : Bool) → is_nan x ≡ s → (t : Bool) → is_nan y ≡ t → T (not (is_nan (min_of x y))) × (lt (max_of x y) (min_of x y) ≡ false)
    go true a t b = same y (min_of_nan x y a) (max_of_nan x y a)
    go false a true b = same x (ap (min_of x) (is y b) ∙ min_with_nan x) (ap (max_of x) (is y b) ∙ max_with_nan x)
    go false a false b = ⊎_elim (at x (no a) (max_left x y (no a))) (at y (no b) (max_right x y (no b))) (min_picks x y)

-- both moved by a pixel's column
lt_bottom : (y : Float) → lt y (inf true) ≡ false
unfolding lt
lt_bottom nan = refl
lt_bottom (inf true) = refl
lt_bottom (inf false) = refl
lt_bottom (fin s m e) = refl

bottom : (s : Bool) (m : ℕ) (e : ℤ) → sub binary32 (inf true) (fin s m e) ≡ inf true
unfolding sub add neg
bottom s m e = refl

pub moved : (l r i : Float) → T (fits binary32 l) → T (fits binary32 r) → T (fits binary32 i) → T (finite i) → T (finite r) → T (not (is_nan l)) → lt r l ≡ false
    → lt (sub binary32 r i) (sub binary32 l i) ≡ false
moved nan r i fl fr fi gi gr n o = absurd (unfold is_nan in n)
moved (inf false) nan i fl fr fi gi gr n o = absurd gr
moved (inf false) (inf s) i fl fr fi gi gr n o = absurd gr
moved (inf false) (fin s m e) i fl fr fi gi gr n o = absurd (unfold lt in true≢false o)
moved (inf true) r nan fl fr fi gi gr n o = absurd gi
moved (inf true) r (inf s) fl fr fi gi gr n o = absurd gi
moved (inf true) r (fin s m e) fl fr fi gi gr n o = ap (lt (sub binary32 r (fin s m e))) (bottom s m e) ∙ lt_bottom (sub binary32 r (fin s m e))
moved (fin s m e) r i fl fr fi gi gr n o =
    let l = fin s m e in
    let vl = own_at l fl tt in
    let vr = own_at r fr gr in
    let vi = own_at i fi gi in
    let h : vl.p + vr.n ≤ vr.p + vl.n = at_order l r vl.p vl.n vr.p vr.n vl.at vr.at o in
    let k : vl.p + vi.n + (vr.n + vi.p) ≤ vr.p + vi.n + (vl.n + vi.p) = omega (arith, h) in
    rd_order (sub binary32 l i) (vl.p + vi.n) (vl.n + vi.p) parts (sub binary32 r i) (vr.p + vi.n) (vr.n + vi.p) parts parts_pos parts_pos
    (sub_rd l i vl.p vl.n vi.p vi.n vl.at vi.at) (sub_rd r i vr.p vr.n vi.p vi.n vr.at vi.at) (omega (arith, mul-le-mul_right parts k))

pub share_moved : (x y i : Float) → T (fits binary32 x) → T (fits binary32 y) → T (fits binary32 i) → finite i ≡ true
    → Tame (share_of (sub binary32 (min_of x y) i) (sub binary32 (max_of x y) i)) share_most
share_moved x y i fx fy fi gi = go (finite (sub binary32 (max_of x y) i)) refl
  where
    is : {b : Bool} → b ≡ true → T b
    is e = subst T (sym e) tt

    back : finite (sub binary32 (max_of x y) i) ≡ true → (t : Bool) → finite (max_of x y) ≡ t → T (finite (max_of x y))
    back h true e = is e
    back h false e = absurd (true≢false (sym h ∙ sub_wild_left (max_of x y) i e))

    go : (t : Bool) → finite (sub binary32 (max_of x y) i) ≡ t → Tame (share_of (sub binary32 (min_of x y) i) (sub binary32 (max_of x y) i)) share_most
    go false h =
        let L = sub binary32 (min_of x y) i in
        let R = sub binary32 (max_of x y) i in
        div_wild (sub binary32 (held_of (low_of L) R) (low_of L)) (sub binary32 R (low_of L)) share_most (sub_wild_left R (low_of L) h)
    go true h =
        let f = back h (finite (max_of x y)) refl in
        let o = ordered x y (finite_number (max_of x y) f) in
        share_tame (sub binary32 (min_of x y) i) (sub binary32 (max_of x y) i) (sub-fits binary32 (min_of x y) i) (sub-fits binary32 (max_of x y) i) (less_number (min_of x y) i o.0 (yes gi))
        (moved (min_of x y) (max_of x y) i (min_fits x y fx fy) (max_fits x y fx fy) fi (is gi) f o.0 o.1)

-- ---- what a segment adds to a pixel
abbrev pub added_most : ℕ
added_most = 1 + share_most * 2

pub int_finite : (i : ℕ) → i < tile_width → finite (of_int binary32 (pos i)) ≡ true
int_finite i h = lib.Ieee.Bits.is_true (finite (of_int binary32 (pos i))) (Numbers.int_finite i (omega (arith, h)))

pub added_tame : (w : Way) (r : Row) (edge dy : Float) (i : ℕ) → i < tile_width → Small edge 1 → Small dy 2 → Tame (added_of (reach_of w r) edge dy i) added_most
unfolding added_of reach_of
added_tame w r edge dy i h he hd =
    let x0 = add binary32 w.x (mul binary32 (mul binary32 (sub binary32 r.y0 r.y) w.recip) w.dx) in
    let x1 = add binary32 w.x (mul binary32 (mul binary32 (sub binary32 r.y1 r.y) w.recip) w.dx) in
    let c = of_int binary32 (pos i) in
    let a = share_of (sub binary32 (min_of x0 x1) c) (sub binary32 (max_of x0 x1) c) in
    let t : Tame a share_most = share_moved x0 x1 c (add-fits binary32 _ _) (add-fits binary32 _ _) (of_int-fits binary32 (pos i)) (int_finite i h) in
    add_tame edge (mul binary32 a dy) 1 (share_most * 2) (lit≤ tt) he (mul_tame a dy share_most 2 (lit≤ tt) t hd)
