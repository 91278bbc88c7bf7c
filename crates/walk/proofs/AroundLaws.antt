-- What the set-up of a checked line stands on. Assumes nothing.
--     both_span, counts_are, column    the tile edges around a line give its spans, its counts and its first column
--     same_row        equal rows are one row
--     off_is          0 or -1, from 1 or -1
--     ends_ordered    the ends in tiles are in order
use mathlib.Core.Path.{◌≡◌, refl, sym, ap, ◌∙◌}
use mathlib.Core.Bool.{Bool, true, false, cond, ◌&&◌}
use lib.Ieee.{Float, binary32, lt, le, eq, sub, mul, neg, of_bits}
use Rattle.float32.specs.Meaning.{floor_of, ceil_of}
use Rattle.float32.proofs.Order.{eq_not_lt}
use Rattle.util.specs.Constants.{zero, half, one, minus_one}
use Rattle.util.specs.Span.{span_of}
use Rattle.util.specs.declared.Vec2.{Vec2}
use Rattle.exact.specs.Reach.{in_reach, Near, scaled}
use Rattle.exact.proofs.Bounds.{span_least, span_most}
use Rattle.exact.proofs.Ordered.{scaled_ordered, scaled_turned}
use Rattle.exact.proofs.Spans.{span_cast}
use Rattle.exact.proofs.Columns.{column_is}
use Rattle.walk.specs.Setup.{ends_of, counts_of}
use Rattle.walk.specs.Lent.{Reached}
use Rattle.walk.specs.Around.{least_of, last_of, tiles_of, Spans, counts_by, Around}
use Rattle.panel.proofs.BoolLaws.{both}

-- ---- the tiles between two edges are the span
edged : (a b : Float) {low high : Float} → Near a → Near b → low ≡ floor_of (least_of a b) → high ≡ ceil_of (last_of a b)
    → Spans low high × (tiles_of low high ≡ span_of a b)
edged a b h k l g =
    let f = span_cast a b h k in
    rw (l, g) (record { exact = f.0; some = rw f.1 (span_least a b); few = rw f.1 (span_most a b h k) }, f.1)

module _ (s0 s1 : Vec2) {left right top bottom : Float} (g : Around s0 s1 left right top bottom) where
  across : Spans left right × (tiles_of left right ≡ span_of s0.x s1.x)
  across = edged s0.x s1.x g.start.in_x g.end.in_x g.at_left g.at_right

  along : Spans top bottom × (tiles_of top bottom ≡ span_of s0.y s1.y)
  along = edged s0.y s1.y g.start.in_y g.end.in_y (g.at_top ∙ ap (λ (t : Bool). floor_of (cond t s1.y s0.y)) (sym g.ordered)) g.at_bottom

  pub both_span : Spans left right × Spans top bottom
  both_span = (across.0, along.0)

  pub counts_are : counts_by left right top bottom ≡ counts_of s0 s1
  unfolding counts_by counts_of
  counts_are = rw (across.1, along.1)

  -- the first column, by the edge that the line starts at
  pub column : cond (lt s1.x s0.x) (neg right) left ≡ floor_of (mul binary32 s0.x (cond (le s0.x s1.x) one minus_one))
  column = rw (g.at_left, g.at_right) (column_is s0.x s1.x g.start.in_x g.end.in_x)

-- the larger of two equal rows is the first
pub same_row : (a b x : Float) → cond (eq a b) (ceil_of (last_of a b)) x ≡ cond (eq a b) (ceil_of a) x
same_row a b x = go (eq a b) refl
  where
    go : (t : Bool) → eq a b ≡ t → cond t (ceil_of (last_of a b)) x ≡ cond t (ceil_of a) x
    go true e = ap (λ (s : Bool). ceil_of (cond s b a)) (eq_not_lt a b e)
    go false e = refl

-- 0 or -1, from 1 or -1
pub off_is : (rises : Bool) → mul binary32 (sub binary32 (cond rises one minus_one) one) half ≡ cond rises zero minus_one
unfolding of_bits neg sub mul
off_is true = refl
off_is false = refl

-- the ends are put in order before they are scaled, and scaling keeps it
pub ends_ordered : (p0 p1 : Vec2) → Reached p0 p1 → lt (ends_of p0 p1).s1.y (ends_of p0 p1).s0.y ≡ false
unfolding ends_of
ends_ordered p0 p1 h =
    let b = both (in_reach p0.x && in_reach p0.y) (in_reach p1.x && in_reach p1.y) h in
    go (le p0.y p1.y) refl (both (in_reach p0.x) (in_reach p0.y) b.0).1 (both (in_reach p1.x) (in_reach p1.y) b.1).1
  where
    go : (d : Bool) → le p0.y p1.y ≡ d → in_reach p0.y ≡ true → in_reach p1.y ≡ true → lt (scaled (cond d p1 p0).y) (scaled (cond d p0 p1).y) ≡ false
    go true e f g = scaled_ordered p0.y p1.y f g e
    go false e f g = scaled_turned p0.y p1.y f g e
