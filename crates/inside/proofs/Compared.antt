-- What the box's comparisons tell of a checked line from s0 to s1. Assumes nothing.
use Prim.Native.Nat.{ℕ}
use mathlib.Core.Path.{◌≡◌, refl, sym, ap, ◌∙◌}
use mathlib.Core.Bool.{Bool, true, false, cond, ◌&&◌, true≢false}
use mathlib.Core.Logic.{◌≢◌}
use lib.Ieee.{Float, lt, le, is_nan}
use lib.Ieee.Bits.{is_false}
use borrow.Author.Tests.{ne_eqb}
use Rattle.float32.specs.Meaning.{min_of, max_of}
use Rattle.float32.proofs.Order.{not_lt_of_le, lt_irreflexive}
use Rattle.float32.proofs.Alike.{alike_lt, alike_gt}
use Rattle.float32.proofs.MinMax.{min_alike, max_alike}
use Rattle.util.specs.declared.Vec2.{Vec2}
use Rattle.panel.specs.declared.kinds.Path.{Path}
use Rattle.panel.proofs.BoolLaws.{both}
use Rattle.exact.proofs.Bounds.{near_finite, finite_number}
use Rattle.exact.proofs.Spans.{smaller_ge, near_pick}
use Rattle.walk.specs.Num.{float}
use Rattle.walk.specs.Setup.{Scaled}
use Rattle.walk.specs.Skip.{past_of}
use Rattle.box_edges.specs.Edges.{edges_of}
use Rattle.walk.specs.Around.{least_of, last_of}
use Rattle.walk.specs.declared.kinds.Walk.{Walk}
use Rattle.clip.proofs.Unclipped.{Unclipped}
use Rattle.inside.specs.Stages.{in_edges_of}
use Rattle.inside.proofs.NotBelow.{not_below}

-- the seven comparisons
pub record Told (s0 s1 : Vec2) (b : Path) : Type 0 where
  pub left : le (float b.x0) (least_of s0.x s1.x) ≡ true
  pub before_right : lt (least_of s0.x s1.x) (float b.x1) ≡ true
  pub right : le (last_of s0.x s1.x) (float b.x1) ≡ true
  pub end_right : le s1.x (float b.x1) ≡ true
  pub top : le (float b.y0) s0.y ≡ true
  pub before_bottom : lt s0.y (float b.y1) ≡ true
  pub bottom : le s1.y (float b.y1) ≡ true

pub edges_told : (s0 s1 : Vec2) (b : Path) → in_edges_of s0 s1 (edges_of b) ≡ true → Told s0 s1 b
unfolding in_edges_of
edges_told s0 s1 b h =
    let l = least_of s0.x s1.x in
    let r = last_of s0.x s1.x in
    let p = le (float b.x0) l && lt l (float b.x1) in
    let q = le (float b.y0) s0.y && lt s0.y (float b.y1) in
    let e = le r (float b.x1) && le s1.x (float b.x1) in
    let a = both (p && e) (q && le s1.y (float b.y1)) h in
    let x = both p e a.0 in
    let w = both (le r (float b.x1)) (le s1.x (float b.x1)) x.1 in
    let y = both q (le s1.y (float b.y1)) a.1 in
    let u = both (le (float b.x0) l) (lt l (float b.x1)) x.0 in
    let v = both (le (float b.y0) s0.y) (lt s0.y (float b.y1)) y.0 in
    record { left = u.0; before_right = u.1; right = w.0; end_right = w.1; top = v.0; before_bottom = v.1; bottom = y.1 }

-- what is below is not at least
not_le_of_lt : (x y : Float) → lt x y ≡ true → le y x ≡ false
not_le_of_lt x y h = go (le y x) refl
  where
    go : (t : Bool) → le y x ≡ t → t ≡ false
    go true e = absurd (true≢false (sym h ∙ not_lt_of_le y x e))
    go false e = refl

-- the larger of two is not below the smaller
last_least : (a b : Float) → lt (last_of a b) (least_of a b) ≡ false
last_least a b = go (lt a b) (lt b a) refl refl
  where
    go : (p q : Bool) → lt a b ≡ p → lt b a ≡ q → lt (cond p b a) (cond q b a) ≡ false
    go true true e f = lt_irreflexive b
    go true false e f = f
    go false true e f = e
    go false false e f = lt_irreflexive a

module _ (s0 s1 : Vec2) (b : Path) (near0 : Scaled s0) (near1 : Scaled s1) (ordered : lt s1.y s0.y ≡ false) (t : Told s0 s1 b) where
  number : is_nan s0.x ≡ false
  number = is_false (is_nan s0.x) (finite_number s0.x (near_finite s0.x near0.in_x))

  wide : b.x1 ≢ b.x0
  wide e = true≢false (sym t.before_right ∙ ap (λ (n : ℕ). lt (least_of s0.x s1.x) (float n)) e ∙ not_lt_of_le (float b.x0) (least_of s0.x s1.x) t.left)

  below_top : lt s1.y (float b.y0) ≡ false
  below_top = not_below s1.y s0.y (float b.y0) (near_finite s0.y near0.in_y) ordered
      (not_lt_of_le (float b.y0) s0.y t.top)

  -- it is not skipped
  pub not_past : past_of s0 s1 b ≡ false
  unfolding past_of
  not_past = rw (
    not_le_of_lt s0.y (float b.y1) t.before_bottom,
    below_top,
    smaller_ge s0.x s1.x (float b.x1) near0.in_x,
    not_le_of_lt (least_of s0.x s1.x) (float b.x1) t.before_right,
    ne_eqb b.x1 b.x0 wide,
  )

  -- nor clipped
  from_left : lt (min_of s0.x s1.x) (float b.x0) ≡ false
  from_left =
      alike_lt (min_of s0.x s1.x) (least_of s0.x s1.x) (min_alike s0.x s1.x number) (float b.x0)
      ∙ not_lt_of_le (float b.x0) (least_of s0.x s1.x) t.left

  to_right : lt (float b.x1) (max_of s0.x s1.x) ≡ false
  to_right =
      alike_gt (max_of s0.x s1.x) (last_of s0.x s1.x) (max_alike s0.x s1.x number) (float b.x1)
      ∙ not_lt_of_le (last_of s0.x s1.x) (float b.x1) t.right

  not_left : lt (max_of s0.x s1.x) (float b.x0) ≡ false
  not_left =
      let l = least_of s0.x s1.x in
      let r = last_of s0.x s1.x in
      alike_lt (max_of s0.x s1.x) r (max_alike s0.x s1.x number) (float b.x0)
      ∙ not_below r l (float b.x0)
      (near_finite l (near_pick (lt s1.x s0.x) s0.x s1.x near0.in_x near1.in_x))
      (last_least s0.x s1.x)
      (not_lt_of_le (float b.x0) l t.left)

  pub not_clipped : (w : Walk) → w.e.s0 ≡ s0 → w.e.s1 ≡ s1 → Unclipped w b
  not_clipped w p q = record {
    from_top = rw p (not_lt_of_le (float b.y0) s0.y t.top);
    to_bottom = rw q (not_lt_of_le s1.y (float b.y1) t.bottom);
    from_left = rw (p, q) from_left;
    to_right = rw (p, q) to_right;
    not_left = rw (p, q) not_left;
  }
