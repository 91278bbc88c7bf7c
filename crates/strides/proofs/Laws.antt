-- A step's column, row and tile in whole numbers, by the bits of its z. Assumes nothing.
--     whole_floor            a whole number is its own floor
--     same_z                 the bits of two floors are equal just where the floors are
--     Grid, grid             what a line's numbers are, by where it starts
--     struck                 a step that passes the tests is on its tile
use Rattle.std.proofs.Common.{◌≡◌, ℕ, ◌+◌, ◌-◌, ◌*◌, ◌/◌, ◌%◌, ◌^◌, ◌<◌, ◌≤◌, Bool, true, false, cond, not, ◌&&◌, ◌||◌, T, eqb, ltb, leb, ◌⊎◌, ℤ, pos, ◌+ℤ◌, ◌-ℤ◌, neg_ℤ, nat_abs, sym, refl, ap, ◌∙◌, subst, inl, inr, true≢false, mul-div_cancel, arith, lit<, lit≤, le-ltb, lt-ltb, eq-eqb, ne_eqb, eqb-true, le-leb, leb-false}
use mathlib.Core.Bool.{false≢true}
use lib.Ieee.{Float, nan, inf, fin, binary32, add, sub, mul, lt, eq, fits, sum, round, to_unsigned, in_unsigned, of_bits, whole as is_whole}
use lib.Ieee.Fits.{add-fits}
use lib.Ieee.Scale.{finite}
use Rattle.float32.specs.Inner.{Within, limit}
use Rattle.float32.proofs.Tests.{below_or_not}
use Rattle.float32.specs.Meaning.{floor_of, unit}
use Rattle.util.specs.Constants.{zero, one}
use Rattle.panel.specs.Limits.{most_tiles}
use Rattle.panel.specs.Kinds.{tile_no_of}
use Rattle.panel.specs.Paths.{width_of, height_of, tile_of}
use Rattle.panel.specs.Widths.{step_range}
use Rattle.panel.specs.declared.kinds.Path.{Path}
use Rattle.panel.proofs.PathLaws.{cell_in}
use Rattle.panel.proofs.BoolLaws.{both}
use Rattle.exact.specs.Whole.{IsWhole, floor_z, turn}
use Rattle.exact.specs.Reach.{Starts}
use Rattle.exact.proofs.Signs.{plus_of, minus_of, one_part, abs_parts, neg_plus, neg_minus, sum_parts, same_parts, abs_sum, abs_neg, abs_turn}
use Rattle.exact.proofs.Exact.{floor_whole, nat_whole, whole_cast, add_whole, sub_whole}
use Rattle.exact.proofs.Spans.{one_whole, pos_cast}
use Rattle.exact.proofs.Compare.{eq_whole, whole_eq}
use Rattle.exact.proofs.Limits.{far}
use Rattle.whole.specs.Bits.{zero_bits, bits_of}
use Rattle.whole.proofs.Shifted.{shifted}
use Rattle.whole.proofs.Steps.{bits_parts, same_bits, whole_within}
use Rattle.walk.specs.Num.{float, cut_of, inside_of}
use Rattle.walk.specs.Step.{Boxed, z_at, tile_in, step_of, last_z_word}
use Rattle.walk.specs.declared.kinds.Pace.{Pace}
use Rattle.walk.specs.Stepped.{Tile}
use Rattle.walk.proofs.StepTiles.{col_of, row_at, z_fits, turned_whole}
use Rattle.walk.proofs.Walks.{last_z}
use Rattle.strides.specs.Strides.{sum_at, bits_at, low_of, strides_of, Before, Struck}
use Rattle.strides.specs.declared.Strides.{Strides}

-- ---- a subtraction that wraps
abbrev pub less : ℕ → ℕ → ℕ
less a b = (a + (2 ^ 32 - b)) % 2 ^ 32

pub less_back : (a b : ℕ) → a < 2 ^ 32 → b ≤ 2 ^ 32 → (less a b + b) % 2 ^ 32 ≡ a
less_back a b h k = omega arith

-- ---- floats below 2 ^ 22 in size
pub near_within : (x : Float) (r : Bool) → r ≡ (lt x (limit false) && lt (limit true) x) → r ≡ true → Within x
near_within x true e t = let b = both (lt x (limit false)) (lt (limit true) x) (sym e) in record { below = b.0; above = b.1 }
near_within x false e t = absurd (false≢true t)

pub within_finite : (x : Float) → Within x → T (finite x)
unfolding lt
within_finite nan h = absurd (false≢true h.below)
within_finite (inf true) h = absurd (false≢true h.above)
within_finite (inf false) h = absurd (false≢true h.below)
within_finite (fin s m e) h = tt

-- the floor's bits, by two natural numbers
module _ (x : Float) (h : Within x) where
  pub minus_few : minus_of (floor_z x) ≤ 12582912
  minus_few = let f = shifted x h.below h.above in omega (arith, f.floor, one_part (floor_z x))

  pub floor_bits : bits_of (floor_z x) + minus_of (floor_z x) ≡ zero_bits + plus_of (floor_z x)
  floor_bits = bits_parts (floor_z x) (omega (arith, minus_few))

  pub some_bits : 1 ≤ bits_of (floor_z x)
  some_bits = omega (arith, floor_bits, minus_few)

  pub whole_floor : (n : ℤ) → IsWhole x n → floor_z x ≡ n
  whole_floor n w =
      let f = shifted x h.below h.above in
      let v = f.whole_is n w in
      let d : f.S / f.D ≡ v.0 = ap (λ (s : ℕ). s / f.D) v.1 ∙ mul-div_cancel v.0 f.some in
      same_parts (floor_z x) n (omega (arith, f.floor, v.2))

  pub floor_is_whole : T (fits binary32 x) → IsWhole (floor_of x) (floor_z x)
  floor_is_whole f = floor_whole x f (within_finite x h)

pub same_z : (v w : Float) → T (fits binary32 v) → T (fits binary32 w) → Within v → Within w → eqb (bits_of (floor_z v)) (bits_of (floor_z w)) ≡ eq (floor_of w) (floor_of v)
same_z v w f g h k = go (eqb (bits_of (floor_z v)) (bits_of (floor_z w))) refl (eq (floor_of w) (floor_of v)) refl
  where
    a : IsWhole (floor_of v) (floor_z v)
    a = floor_is_whole v h f

    b : IsWhole (floor_of w) (floor_z w)
    b = floor_is_whole w k g

    go : (s : Bool) → eqb (bits_of (floor_z v)) (bits_of (floor_z w)) ≡ s → (t : Bool) → eq (floor_of w) (floor_of v) ≡ t → s ≡ t
    go true p true q = refl
    go false p false q = refl
    go true p false q =
        let e = same_bits (floor_z v) (floor_z w) (omega (arith, minus_few v h)) (omega (arith, minus_few w k)) (eqb-true _ _ p) in
        sym (whole_eq (floor_of w) (floor_of v) (floor_z w) (floor_z v) b a (sym e)) ∙ q
    go false p true q =
        let e = eq_whole (floor_of w) (floor_of v) (floor_z w) (floor_z v) b a q in
        sym p ∙ eq-eqb (bits_of (floor_z v)) (bits_of (floor_z w)) (ap bits_of (sym e))

-- ---- what a step's z is held against
-- at step 0
pub first_last : (p : Pace) (i last : ℕ) → i ≡ 0 → 1 ≤ bits_at p (float i) → last ≡ cond p.on_top (bits_at p (float i)) (bits_at p (float i) - 1) → Before p i last
first_last p i last e h g = record { same = λ w. ap (eqb (bits_at p (float i))) g ∙ go p.on_top (bits_at p (float i)) h ∙ sym (rw (eq-eqb i 0 e)) }
  where
    go : (t : Bool) (z : ℕ) → 1 ≤ z → eqb z (cond t z (z - 1)) ≡ t
    go true z h = eq-eqb z z refl
    go false z h = ne_eqb z (z - 1) (λ q. omega (arith, q))

-- at a later step
pub later_last : (p : Pace) (i last : ℕ) (f : Float) → (i ≡ 0 → ⊥) → last_z_word p i ≡ z_at p.a p.b f → Within (sum_at p f) → last ≡ bits_at p f → Before p i last
unfolding z_at
later_last p i last f n e h g =
    record {
      same =
          λ w.
          ap (eqb (bits_at p (float i))) g
          ∙ same_z (sum_at p (float i)) (sum_at p f) (add-fits binary32 (mul binary32 p.a (float i)) p.b) (add-fits binary32 (mul binary32 p.a f) p.b) w h
          ∙ ap (λ (y : Float). eq y (floor_of (sum_at p (float i)))) (sym e)
          ∙ sym (rw (ne_eqb i 0 n));
    }

-- ---- both tests of a step
pub in_both : (x w y h : ℕ) → (leb w x || leb h y) ≡ false → (x < w) × (y < h)
in_both x w y h e = go (leb w x) refl (leb h y) refl e
  where
    go : (a : Bool) → leb w x ≡ a → (c : Bool) → leb h y ≡ c → (a || c) ≡ false → (x < w) × (y < h)
    go true p c q r = absurd (true≢false r)
    go false p true q r = absurd (true≢false r)
    go false p false q r = (leb-false w x p, leb-false h y q)

-- ---- a tile's number, by that of the second row's first tile
back : (a c : ℕ) → c ≡ a + c - a
back a c = omega arith

own_rises : (first width left x rows : ℕ) → first + width + rows + 2 * x - (x + width) ≡ first + rows + (left + x - left)
own_rises first width left x rows = omega arith

own_falls : (first left right x rows : ℕ) → x < right - left → first + (right - left) + rows + 0 * x - (x + 1) ≡ first + rows + (right - 1 - x - left)
own_falls first left right x rows h = omega arith

-- ---- a line's numbers, by where it starts
lt_unit : (t : Bool) → lt zero (unit t) ≡ not t
unfolding lt of_bits
lt_unit true = refl
lt_unit false = refl

unit_twice : (t : Bool) → T (in_unsigned binary32 32 (add binary32 (unit t) one)) × (to_unsigned 32 (add binary32 (unit t) one) ≡ cond t 0 2)
unfolding add sum round of_bits to_unsigned in_unsigned is_whole
unit_twice true = (tt, refl)
unit_twice false = pos_cast (add binary32 (unit false) one) 1 (add_whole (unit false) one (pos 1) (pos 1) one_whole one_whole (lit≤ tt)) (lit< tt)

module _ (p : Pace) (b : Path) (k : Boxed b) (l : Starts p.sign p.x0 p.y0) where
  pub twice_can : T (in_unsigned binary32 32 (add binary32 p.sign one))
  twice_can = subst (λ (u : Float). T (in_unsigned binary32 32 (add binary32 u one))) (sym l.sign_is) (unit_twice l.turned).0

  abbrev X : ℤ
  X = l.x0n

  abbrev Y : ℤ
  Y = l.y0n

  pub col_few : plus_of X + minus_of X ≤ 2 ^ 20 + 1
  col_few = omega (arith, abs_parts X, l.x0_small, far.tiles)

  pub row_few : plus_of Y + minus_of Y ≤ 2 ^ 20
  row_few = omega (arith, abs_parts Y, l.y0_small, far.tiles)

  pub x0_near : Within p.x0
  x0_near = whole_within p.x0 X l.x0_whole (omega (arith, l.x0_small, far.tiles))

  pub y0_near : Within p.y0
  y0_near = whole_within p.y0 Y l.y0_whole (omega (arith, l.y0_small, far.tiles))

  pub col_is : bits_of (floor_z p.x0) + minus_of X ≡ zero_bits + plus_of X
  col_is = ap (λ (m : ℤ). bits_of m + minus_of X) (whole_floor p.x0 x0_near X l.x0_whole) ∙ bits_parts X (omega (arith, col_few))

  pub row_is : bits_of (floor_z p.y0) + minus_of Y ≡ zero_bits + plus_of Y
  row_is = ap (λ (m : ℤ). bits_of m + minus_of Y) (whole_floor p.y0 y0_near Y l.y0_whole) ∙ bits_parts Y (omega (arith, row_few))

  pub edges_few : (b.x1 ≤ 2 ^ 20) × (b.y1 ≤ 2 ^ 20)
  edges_few = (omega (arith, k.wide, far.edge), omega (arith, k.high, far.edge))

  -- what the numbers are
  pub record Grid (g : Strides) : Type 0 where
    pub twice_rises : l.turned ≡ false → g.twice ≡ 2
    pub twice_falls : l.turned ≡ true → g.twice ≡ 0
    pub back_rises : l.turned ≡ false → g.back ≡ width_of b
    pub back_falls : l.turned ≡ true → g.back ≡ 1
    pub low_rises : l.turned ≡ false → g.low + plus_of X ≡ zero_bits + b.x0 + minus_of X
    pub low_falls : l.turned ≡ true → g.low + b.x1 + minus_of X ≡ zero_bits + plus_of X + 1
    pub edge_rises : l.turned ≡ false → g.edge + 1 ≡ g.low + width_of b
    pub edge_falls : l.turned ≡ true → g.edge ≡ g.low
    pub top_is : g.top + b.y0 + minus_of Y ≡ zero_bits + plus_of Y
    pub base_is : g.base ≡ b.first + width_of b
    pub width_is : g.width ≡ width_of b
    pub height_is : g.height ≡ height_of b

  grid_of : Grid (strides_of p b)
  unfolding strides_of
  grid_of =
      let r : lt zero p.sign ≡ not l.turned = ap (lt zero) l.sign_is ∙ lt_unit l.turned in
      let col = bits_of (floor_z p.x0) in
      let up : l.turned ≡ false → lt zero p.sign ≡ true = λ t. r ∙ ap not t in
      let down : l.turned ≡ true → lt zero p.sign ≡ false = λ t. r ∙ ap not t in
      let lo : l.turned ≡ false → low_of (lt zero p.sign) col b ≡ zero_bits + zero_bits + b.x0 - col = λ t. ap (λ (q : Bool). low_of q col b) (up t) in
      let hi : l.turned ≡ true → low_of (lt zero p.sign) col b ≡ col + 1 - b.x1 = λ t. ap (λ (q : Bool). low_of q col b) (down t) in
      record {
        twice_rises = λ t. ap (λ (u : Float). to_unsigned 32 (add binary32 u one)) (l.sign_is ∙ ap unit t) ∙ (unit_twice false).1;
        twice_falls = λ t. ap (λ (u : Float). to_unsigned 32 (add binary32 u one)) (l.sign_is ∙ ap unit t) ∙ (unit_twice true).1;
        back_rises = λ t. ap (λ (q : Bool). cond q (width_of b) 1) (up t);
        back_falls = λ t. ap (λ (q : Bool). cond q (width_of b) 1) (down t);
        low_rises = λ t. omega (arith, lo t, col_is, col_few, edges_few.0, k.left);
        low_falls = λ t. omega (arith, hi t, col_is, col_few, edges_few.0);
        edge_rises =
            λ t.
            let e : cond (lt zero p.sign) (low_of (lt zero p.sign) col b + width_of b - 1) (low_of (lt zero p.sign) col b) ≡ low_of (lt zero p.sign) col b + width_of b - 1 =
            ap (λ (q : Bool). cond q (low_of (lt zero p.sign) col b + width_of b - 1) (low_of (lt zero p.sign) col b)) (up t) in
            omega (arith, e, lo t, col_is, col_few, edges_few.0, k.left);
        edge_falls = λ t. ap (λ (q : Bool). cond q (low_of (lt zero p.sign) col b + width_of b - 1) (low_of (lt zero p.sign) col b)) (down t);
        top_is = omega (arith, row_is, row_few, edges_few.1, k.top);
        base_is = refl;
        width_is = refl;
        height_is = refl;
      }

  pub grid : (g : Strides) → g ≡ strides_of p b → Grid g
  grid g e = subst Grid (sym e) grid_of

  -- ---- a step whose column and row pass the tests
  module _ (g : Strides) (q : Grid g) (i : ℕ) (h : i < step_range) (w : Within (sum_at p (float i)))
      (z x y : ℕ) (z_is : z ≡ bits_at p (float i)) (x_is : (x + g.low) % 2 ^ 32 ≡ z) (y_is : (y + z) % 2 ^ 32 ≡ g.top + i) (x_in : x < g.width) (y_in : y < g.height) where
    abbrev n : ℤ
    n = floor_z (sum_at p (float i))

    abbrev zf : Float
    zf = z_at p.a p.b (float i)

    -- its column and row, from the box's left edge and top on
    abbrev X' : Bool → ℕ
    X' t = cond t (b.x1 - 1 - x) (b.x0 + x)

    bits_is : z + minus_of n ≡ zero_bits + plus_of n
    bits_is = ap (λ (m : ℕ). m + minus_of n) z_is ∙ floor_bits (sum_at p (float i)) w

    low_few : (t : Bool) → l.turned ≡ t → (g.low ≤ zero_bits + 2 ^ 22) × (zero_bits ≤ g.low + 2 ^ 22)
    low_few false t = (omega (arith, q.low_rises t, col_few, edges_few.0, k.left), omega (arith, q.low_rises t, col_few))
    low_few true t = (omega (arith, q.low_falls t, col_few), omega (arith, q.low_falls t, col_few, edges_few.0))

    -- nothing wraps
    x_sum : x + g.low ≡ z
    x_sum = let f = low_few l.turned refl in omega (arith, x_is, x_in, q.width_is, edges_few.0, f.0)

    y_sum : y + z ≡ g.top + i
    y_sum =
        let f = low_few l.turned refl in
        omega (arith, y_is, y_in, q.height_is, edges_few.0, edges_few.1, f.0, x_sum, x_in, q.width_is)

    n_few : nat_abs n ≤ 2 ^ 23
    n_few =
        let f = low_few l.turned refl in
        omega (arith, abs_parts n, one_part n, bits_is, x_sum, x_in, q.width_is, edges_few.0, f.0, f.1)

    col_at : (t : Bool) → l.turned ≡ t → X +ℤ turn t n ≡ pos (X' t)
    col_at false t =
        same_parts (X +ℤ n) (pos (b.x0 + x)) (omega (arith, sum_parts X n, q.low_rises t, x_sum, bits_is))
    col_at true t =
        same_parts (X +ℤ neg_ℤ n) (pos (b.x1 - 1 - x)) (omega (arith, sum_parts X (neg_ℤ n), neg_plus n, neg_minus n, q.low_falls t, x_sum, bits_is, x_in, q.width_is, k.left))

    row_at_lem : Y +ℤ pos i -ℤ n ≡ pos (b.y0 + y)
    row_at_lem =
        same_parts (Y +ℤ pos i -ℤ n) (pos (b.y0 + y))
        (omega (arith, sum_parts (Y +ℤ pos i) (neg_ℤ n), sum_parts Y (pos i), neg_plus n, neg_minus n, q.top_is, y_sum, bits_is))

    col_in : (t : Bool) → (b.x0 ≤ X' t) × (X' t < b.x1)
    col_in false = (omega arith, omega (arith, x_in, q.width_is))
    col_in true = (omega (arith, x_in, q.width_is), omega (arith, x_in, q.width_is))

    z_whole_lem : IsWhole zf n
    unfolding z_at
    z_whole_lem = floor_is_whole (sum_at p (float i)) w (add-fits binary32 (mul binary32 p.a (float i)) p.b)

    -- the floats are exact
    col_exact : col_of p.x0 p.sign zf ≡ X +ℤ turn l.turned n
    col_exact =
        let f : nat_abs (X +ℤ turn l.turned n) ≤ 2 ^ 24 = omega (arith, abs_sum X (turn l.turned n), abs_turn l.turned n, n_few, l.x0_small, far.tiles) in
        whole_cast (add binary32 p.x0 (mul binary32 p.sign zf)) (X +ℤ turn l.turned n)
        (add_whole p.x0 (mul binary32 p.sign zf) X (turn l.turned n) l.x0_whole (turned_whole p.sign p.x0 p.y0 l zf n (z_fits p.a p.b (float i)) z_whole_lem) f)
        (omega arith)

    row_exact : row_at p.y0 i zf ≡ Y +ℤ pos i -ℤ n
    row_exact =
        let s : nat_abs (Y +ℤ pos i) ≤ 2 ^ 24 = omega (arith, abs_sum Y (pos i), l.y0_small, far.tiles, h, far.steps) in
        let f : nat_abs (Y +ℤ pos i -ℤ n) ≤ 2 ^ 24 = omega (arith, abs_sum (Y +ℤ pos i) (neg_ℤ n), abs_neg n, abs_sum Y (pos i), n_few, l.y0_small, far.tiles, h, far.steps) in
        whole_cast (sub binary32 (add binary32 p.y0 (float i)) zf) (Y +ℤ pos i -ℤ n)
        (sub_whole (add binary32 p.y0 (float i)) zf (Y +ℤ pos i) n (add_whole p.y0 (float i) Y (pos i) l.y0_whole (nat_whole i (omega (arith, h, far.steps))) s) z_whole_lem f)
        (omega arith)

    whole_finite : (v : Float) (m : ℤ) → IsWhole v m → finite v ≡ true
    whole_finite nan m e = absurd e
    whole_finite (inf s) m e = absurd e
    whole_finite (fin s a d) m e = refl

    inside_at : (c lo hi : ℕ) → lo ≤ c → c < hi → inside_of (pos c) lo hi ≡ true
    unfolding inside_of
    inside_at c lo hi u v = rw (le-leb lo c u, lt-ltb c hi v)

    falls_on : step_of p b i ≡ Tile (tile_no_of (tile_of b (X' l.turned) (b.y0 + y))) (X' l.turned) (b.y0 + y) zf
    unfolding step_of tile_in cut_of
    falls_on =
        let c = col_exact ∙ col_at l.turned refl in
        let d = row_exact ∙ row_at_lem in
        let u = col_in l.turned in
        rw (c, d, whole_finite zf n z_whole_lem, inside_at (X' l.turned) b.x0 b.x1 u.0 u.1, inside_at (b.y0 + y) b.y0 b.y1 (omega arith) (omega (arith, y_in, q.height_is)))

    -- the tile's number; t is that of the second row's tile in the first column
    pub cells : (y * g.width + x < width_of b * height_of b) × (b.first + width_of b * height_of b ≤ most_tiles)
    cells =
        let c = cell_in (width_of b) (height_of b) y x (omega (arith, y_in, q.height_is)) (omega (arith, x_in, q.width_is)) in
        (subst (λ (v : ℕ). y * v + x < width_of b * height_of b) (sym q.width_is) c, k.last)

    own_is : (t : Bool) → l.turned ≡ t → g.base + y * g.width + g.twice * x - (x + g.back) ≡ tile_of b (X' t) (b.y0 + y)
    own_is false e =
        rw (q.base_is, q.width_is, q.twice_rises e, q.back_rises e)
        (own_rises b.first (width_of b) b.x0 x (y * width_of b) ∙ ap (λ (v : ℕ). b.first + v * width_of b + (b.x0 + x - b.x0)) (back b.y0 y))
    own_is true e =
        rw (q.base_is, q.width_is, q.twice_falls e, q.back_falls e)
        (own_falls b.first b.x0 b.x1 x (y * width_of b) (omega (arith, x_in, q.width_is)) ∙ ap (λ (v : ℕ). b.first + v * width_of b + (b.x1 - 1 - x - b.x0)) (back b.y0 y))

    -- none of its sums is below 0, or large
    pub own_few : (g.twice * x ≤ 2 * x) × (x + g.back ≤ g.base + y * g.width + g.twice * x) × (g.back ≤ 2 ^ 20 + 1)
    own_few = go l.turned refl
      where
        go : (t : Bool) → l.turned ≡ t → (g.twice * x ≤ 2 * x) × (x + g.back ≤ g.base + y * g.width + g.twice * x) × (g.back ≤ 2 ^ 20 + 1)
        go false e =
            let m : g.twice * x ≡ 2 * x = ap (λ (v : ℕ). v * x) (q.twice_rises e) in
            (omega (arith, m), omega (arith, m, q.back_rises e, q.base_is), omega (arith, q.back_rises e, edges_few.0))
        go true e =
            let m : g.twice * x ≡ 0 * x = ap (λ (v : ℕ). v * x) (q.twice_falls e) in
            (omega (arith, m), omega (arith, m, q.back_falls e, q.base_is, q.width_is, x_in), omega (arith, q.back_falls e))

    -- the last column has no tile right of it
    edge_at : (t : Bool) → l.turned ≡ t → not (eqb z g.edge) ≡ ltb (X' t + 1) b.x1
    edge_at false t = go (below_or_not (b.x0 + x + 1) b.x1)
      where
        go : (b.x0 + x + 1 < b.x1) ⊎ (b.x1 ≤ b.x0 + x + 1) → not (eqb z g.edge) ≡ ltb (b.x0 + x + 1) b.x1
        go (inl u) = ap not (ne_eqb z g.edge (λ e. omega (arith, e, q.edge_rises t, x_sum, u))) ∙ sym (lt-ltb _ _ u)
        go (inr u) = ap not (eq-eqb z g.edge (omega (arith, q.edge_rises t, x_sum, u, x_in, q.width_is, k.left))) ∙ sym (le-ltb _ _ u)
    edge_at true t = go (below_or_not (b.x1 - 1 - x + 1) b.x1)
      where
        go : (b.x1 - 1 - x + 1 < b.x1) ⊎ (b.x1 ≤ b.x1 - 1 - x + 1) → not (eqb z g.edge) ≡ ltb (b.x1 - 1 - x + 1) b.x1
        go (inl u) = ap not (ne_eqb z g.edge (λ e. omega (arith, e, q.edge_falls t, x_sum, u))) ∙ sym (lt-ltb _ _ u)
        go (inr u) = ap not (eq-eqb z g.edge (omega (arith, q.edge_falls t, x_sum, u, x_in, q.width_is))) ∙ sym (le-ltb _ _ u)

    pub struck : (last own : ℕ) (marks : Bool) → Before p i last → own ≡ g.base + y * g.width + g.twice * x - (x + g.back)
        → marks ≡ (eqb z last && not (eqb z g.edge)) → Struck p b i own marks z
    struck last own marks f o m =
        record {
          x = X' l.turned;
          y = b.y0 + y;
          falls = falls_on ∙ ap (λ (t : ℕ). Tile (tile_no_of t) (X' l.turned) (b.y0 + y) zf) (sym (own_is l.turned refl) ∙ sym o);
          crosses = m ∙ rw (edge_at l.turned refl, ap (λ (v : ℕ). eqb v last) z_is ∙ f.same w);
          next = later_last p (i + 1) z (float i) (λ e. omega (arith, e)) (last_z p i h) w z_is;
        }
