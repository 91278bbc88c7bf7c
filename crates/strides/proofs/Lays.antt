-- A step in the form that asks nothing of its z: what `held` leaves, and what a step that is told to be good is. Assumes nothing.
--     held_within            what is held is below 2 ^ 22 in size
--     held_own               in a box's columns it is what it was
--     room                   no sum of a tile's number is below 0, or large
--     laid                   a step that is told to be good is on its tile
use Rattle.std.proofs.Common.{◌≡◌, ℕ, ◌+◌, ◌-◌, ◌*◌, ◌%◌, ◌^◌, ◌<◌, ◌≤◌, Bool, true, false, cond, not, ◌&&◌, eqb, ltb, ◌⊎◌, pos, sym, refl, ap, ◌∙◌, subst, inl, inr, le_of_lt, arith, lit<, ltb-true, eq-eqb, ne_eqb}
use mathlib.Core.Bool.{false≢true}
use lib.Ieee.{Float, nan, inf, fin, up, down, neg, lt, of_bits}
use Rattle.float32.specs.Inner.{Within}
use Rattle.float32.proofs.Floors.{lt_plus, gt_minus}
use Rattle.panel.specs.Paths.{width_of, height_of}
use Rattle.panel.specs.Widths.{step_range}
use Rattle.panel.specs.declared.kinds.Path.{Path}
use Rattle.panel.proofs.PathLaws.{cell_in}
use Rattle.panel.proofs.BoolLaws.{both}
use Rattle.exact.specs.Whole.{floor_z}
use Rattle.exact.specs.Reach.{Starts}
use Rattle.whole.specs.Bits.{zero_bits, bits_of}
use Rattle.whole.proofs.Steps.{small_within}
use Rattle.walk.specs.Num.{float}
use Rattle.walk.specs.Step.{Boxed}
use Rattle.walk.specs.declared.kinds.Pace.{Pace}
use Rattle.strides.specs.Strides.{sum_at, far_off, held_of, own_at, Room, Before, Struck}
use Rattle.strides.specs.Words.{word_of, word_tile, word_marks}
use Rattle.strides.specs.declared.Strides.{Strides}
use Rattle.strides.proofs.WordLaws.{tile_told, marks_told}
use Rattle.strides.proofs.Laws.{col_few, edges_few, Grid, struck}

-- ---- what is held
abbrev cap : Bool → Float
cap s = fin s 3 (pos 20)

cap_is : far_off ≡ cap false
unfolding of_bits
cap_is = refl

turned_is : neg far_off ≡ cap true
unfolding of_bits neg
turned_is = refl

-- between the two floats far off
between : (v : Float) → lt v (cap false) ≡ true → lt (cap true) v ≡ true → Within v
unfolding lt
between nan l u = absurd (false≢true l)
between (inf true) l u = absurd (false≢true u)
between (inf false) l u = absurd (false≢true l)
between (fin false m e) l u =
    small_within (fin false m e) 3145728 (lit< tt) (le_of_lt (ltb-true (m * up e) (3145728 * down e) (sym (lt_plus m e (cap false) 3145728 (refl, refl)) ∙ l)))
between (fin true m e) l u =
    small_within (fin true m e) 3145728 (lit< tt) (le_of_lt (ltb-true (m * up e) (3145728 * down e) (sym (gt_minus m e (cap true) 3145728 (refl, refl)) ∙ u)))

cap_within : (s : Bool) → Within (cap s)
unfolding lt
cap_within true = record { below = refl; above = refl }
cap_within false = record { below = refl; above = refl }

held_cases : (v : Float) → (Within v × (held_of v ≡ v)) ⊎ ((held_of v ≡ cap false) ⊎ (held_of v ≡ cap true))
unfolding held_of
held_cases v = go (lt v far_off) refl
  where
    high : lt (neg far_off) far_off ≡ true
    high = unfold of_bits neg lt in refl

    go : (a : Bool) → lt v far_off ≡ a → (Within v × (held_of v ≡ v)) ⊎ ((held_of v ≡ cap false) ⊎ (held_of v ≡ cap true))
    go false p = inr (inl (rw (p, high) cap_is))
    go true p = on (lt (neg far_off) v) refl
      where
        on : (c : Bool) → lt (neg far_off) v ≡ c → (Within v × (held_of v ≡ v)) ⊎ ((held_of v ≡ cap false) ⊎ (held_of v ≡ cap true))
        on true q = inl (between v (ap (lt v) (sym cap_is) ∙ p) (ap (λ (u : Float). lt u v) (sym turned_is) ∙ q), rw (p, q))
        on false q = inr (inr (rw (p, q) turned_is))

pub held_within : (v : Float) → Within (held_of v)
held_within v = go (held_cases v)
  where
    go : (Within v × (held_of v ≡ v)) ⊎ ((held_of v ≡ cap false) ⊎ (held_of v ≡ cap true)) → Within (held_of v)
    go (inl w) = subst Within (sym w.1) w.0
    go (inr (inl e)) = subst Within (sym e) (cap_within false)
    go (inr (inr e)) = subst Within (sym e) (cap_within true)

high_bits : bits_of (floor_z (cap false)) ≡ zero_bits + 3145728
unfolding bits_of floor_z
high_bits = refl

low_bits : bits_of (floor_z (cap true)) ≡ zero_bits - 3145728
unfolding bits_of floor_z
low_bits = refl

module _ (p : Pace) (b : Path) (k : Boxed b) (l : Starts p.sign p.x0 p.y0) (g : Strides) (q : Grid p b k l g) where
  -- the box's columns are not far off
  reach : (t : Bool) → l.turned ≡ t → (g.low + g.width ≤ zero_bits + 2 ^ 21 + 2) × (zero_bits ≤ g.low + 2 ^ 21 + 2)
  reach false t = (omega (arith, q.low_rises t, q.width_is, col_few p b k l, (edges_few p b k l).0, k.left), omega (arith, q.low_rises t, col_few p b k l))
  reach true t = (omega (arith, q.low_falls t, q.width_is, col_few p b k l), omega (arith, q.low_falls t, col_few p b k l, (edges_few p b k l).0))

  -- so in one of them nothing was held
  pub held_own : (v : Float) (z x : ℕ) → z ≡ bits_of (floor_z (held_of v)) → (x + g.low) % 2 ^ 32 ≡ z → x < g.width → Within v × (z ≡ bits_of (floor_z v))
  held_own v z x z_is x_is x_in = go (held_cases v)
    where
      go : (Within v × (held_of v ≡ v)) ⊎ ((held_of v ≡ cap false) ⊎ (held_of v ≡ cap true)) → Within v × (z ≡ bits_of (floor_z v))
      go (inl w) = (w.0, z_is ∙ ap (λ (u : Float). bits_of (floor_z u)) w.1)
      go (inr (inl e)) =
          let f = reach l.turned refl in
          let s : z ≡ zero_bits + 3145728 = z_is ∙ ap (λ (u : Float). bits_of (floor_z u)) e ∙ high_bits in
          absurd (omega (arith, s, x_is, x_in, f.0))
      go (inr (inr e)) =
          let f = reach l.turned refl in
          let s : z ≡ zero_bits - 3145728 = z_is ∙ ap (λ (u : Float). bits_of (floor_z u)) e ∙ low_bits in
          absurd (omega (arith, s, x_is, x_in, f.0, f.1))

  -- ---- the sums of a tile's number
  rises : l.turned ≡ false → eqb g.twice 2 ≡ true
  rises t = eq-eqb g.twice 2 (q.twice_rises t)

  falls : l.turned ≡ true → eqb g.twice 2 ≡ false
  falls t = ne_eqb g.twice 2 (λ e. omega (arith, e, q.twice_falls t))

  module _ (h : b.x0 < b.x1) where
    small : (b.first ≤ 2 ^ 20) × (width_of b ≤ 2 ^ 20)
    small = (omega (arith, k.last), omega (arith, (edges_few p b k l).0))

    roomy : (col row : ℕ) → col < g.width → row * g.width ≤ 2 ^ 20 → Room g col row
    roomy col row c r = go l.turned refl
      where
        go : (t : Bool) → l.turned ≡ t → Room g col row
        go false t =
            record {
              backward = omega (arith, q.back_rises t, q.base_is);
              base_few = omega (arith, q.base_is, small.0, small.1);
              rows_few = r;
              right_few = rw (rises t) (omega (arith, c, q.width_is, small.1));
              left_in = rw (rises t) (omega arith);
            }
        go true t =
            record {
              backward = omega (arith, q.back_falls t, q.base_is, h);
              base_few = omega (arith, q.base_is, small.0, small.1);
              rows_few = r;
              right_few = rw (falls t) (omega arith);
              left_in = rw (falls t) (omega (arith, c, q.width_is, q.back_falls t, q.base_is));
            }

    module _ (x y : ℕ) (good : Bool) (good_is : good ≡ (ltb x g.width && ltb y g.height)) where
      inside : good ≡ true → (x < g.width) × (y < g.height)
      inside e = let w = both (ltb x g.width) (ltb y g.height) (sym good_is ∙ e) in (ltb-true x g.width w.0, ltb-true y g.height w.1)

      pub room : (col row : ℕ) → col ≡ cond good x 0 → row ≡ cond good y 0 → Room g col row
      room col row c r = go good refl
        where
          go : (s : Bool) → good ≡ s → Room g col row
          go true e =
              let w = inside e in
              let cx : col ≡ x = c ∙ ap (λ (s : Bool). cond s x 0) e in
              let ry : row ≡ y = r ∙ ap (λ (s : Bool). cond s y 0) e in
              let f : y * width_of b + x < width_of b * height_of b = cell_in (width_of b) (height_of b) y x (omega (arith, w.1, q.height_is)) (omega (arith, w.0, q.width_is)) in
              let m : row * g.width ≡ y * width_of b = ap (λ (n : ℕ). n * g.width) ry ∙ ap (λ (n : ℕ). y * n) q.width_is in
              roomy col row (omega (arith, cx, w.0)) (omega (arith, m, f, k.last))
          go false e =
              let cx : col ≡ 0 = c ∙ ap (λ (s : Bool). cond s x 0) e in
              let ry : row ≡ 0 = r ∙ ap (λ (s : Bool). cond s y 0) e in
              let m : row * g.width ≡ 0 * g.width = ap (λ (n : ℕ). n * g.width) ry in
              roomy col row (omega (arith, cx, q.width_is, h)) (omega (arith, m))

      -- the tile's number is the one that the laws of a step speak of
      own_same : own_at g x y ≡ g.base + y * g.width + g.twice * x - (x + g.back)
      own_same = go l.turned refl
        where
          go : (t : Bool) → l.turned ≡ t → own_at g x y ≡ g.base + y * g.width + g.twice * x - (x + g.back)
          go false t =
              let m : g.twice * x ≡ 2 * x = ap (λ (n : ℕ). n * x) (q.twice_rises t) in
              rw (rises t) (omega (arith, m, q.back_rises t, q.base_is))
          go true t =
              let m : g.twice * x ≡ 0 * x = ap (λ (n : ℕ). n * x) (q.twice_falls t) in
              rw (falls t) (omega (arith, m, q.back_falls t, q.base_is, h))

      pub laid : (i : ℕ) → i < step_range → (z : ℕ) → z ≡ bits_of (floor_z (held_of (sum_at p (float i)))) → (x + g.low) % 2 ^ 32 ≡ z → (y + z) % 2 ^ 32 ≡ g.top + i
          → (last col row word : ℕ) (marks : Bool) → col ≡ cond good x 0 → row ≡ cond good y 0 → marks ≡ (eqb z last && not (eqb z g.edge))
          → word ≡ word_of (own_at g col row) marks → good ≡ true → Before p i last → Struck p b i (word_tile word) (word_marks word) z
      laid i few z z_is x_is y_is last col row word marks c r m w e f =
          let n = inside e in
          let o = held_own (sum_at p (float i)) z x z_is x_is n.0 in
          let cx : col ≡ x = c ∙ ap (λ (s : Bool). cond s x 0) e in
          let ry : row ≡ y = r ∙ ap (λ (s : Bool). cond s y 0) e in
          let v : word ≡ word_of (own_at g x y) marks = w ∙ ap (λ (a : ℕ). word_of (own_at g a row) marks) cx ∙ ap (λ (a : ℕ). word_of (own_at g x a) marks) ry in
          struck p b k l g q i few o.0 z x y o.1 x_is y_is n.0 n.1 last (word_tile word) (word_marks word) f
          (ap word_tile v ∙ tile_told (own_at g x y) marks ∙ own_same) (ap word_marks v ∙ marks_told (own_at g x y) marks ∙ m)
