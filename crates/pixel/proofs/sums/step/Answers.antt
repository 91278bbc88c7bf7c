-- `pixel::sums::step` meets its contract: its three arms are those of `step_row`. Assumes nothing.
use mathlib.Core.Path.{◌≡◌, ap, ◌∙◌}
use mathlib.Core.Bool.{true, false}
use Prim.Native.Nat.{ℕ, ◌<◌}
use lib.Ieee.{Float, binary32, add, ne}
use Rattle.util.specs.Constants.{zero}
use Rattle.sides.specs.Tile.{tile_width}
use Rattle.one_row.specs.Row.{way_of, row_of, reach_of, added_of, slanted, edged, step_row, step_way, step_segment}
use Rattle.panel.specs.declared.segments.Segment.{Segment}
use Rattle.one_row.specs.declared.Way.{Way}
use Rattle.one_row.specs.declared.Row.{Row}
use Rattle.one_row.specs.declared.Reach.{Reach}
use Rattle.pixel.specs.Place.{place_at}
use Rattle.pixel.proofs.Places.{row_again, column_again}
use Rattle.pixel.proofs.sums.step.Goals as goal

module _ (s : Segment) (xt yt : Float) (column row : ℕ) (a : Float) (w : Way) (r : Row) (h : column < tile_width) (p : w ≡ way_of s xt) (q : r ≡ row_of w yt row) where
  -- the pixel's row is r
  here : step_row w r (place_at column row) a ≡ step_segment s xt yt (place_at column row) a
  unfolding step_segment step_way
  here = ap (λ (z : Row). step_row w z (place_at column row) a) (q ∙ ap (row_of w yt) (row_again column row h)) ∙ ap (λ (z : Way). step_way z yt (place_at column row) a) p

  slant : (l : Reach) (v : Float) → ne r.dy zero ≡ true → l ≡ reach_of w r → v ≡ added_of l r.edge r.dy column → add binary32 a v ≡ step_segment s xt yt (place_at column row) a
  slant l v t e f = arm ∙ here
    where
      arm : add binary32 a v ≡ step_row w r (place_at column row) a
      arm = unfold step_row slanted in rw (t, f, e) (ap (λ (i : ℕ). add binary32 a (added_of (reach_of w r) r.edge r.dy i)) (column_again column row h))

  edge : ne r.dy zero ≡ false → ne r.edge zero ≡ true → add binary32 a r.edge ≡ step_segment s xt yt (place_at column row) a
  edge t u = arm ∙ here
    where
      arm : add binary32 a r.edge ≡ step_row w r (place_at column row) a
      arm = unfold step_row edged in rw (t, u)

  neither : ne r.dy zero ≡ false → ne r.edge zero ≡ false → a ≡ step_segment s xt yt (place_at column row) a
  neither t u = arm ∙ here
    where
      arm : a ≡ step_row w r (place_at column row) a
      arm = unfold step_row in rw (t, u)

pub returns-then-dy : goal.returns-then-dy
returns-then-dy c = slant _ _ _ _ _ _ _ c.row_of-r.result c.requires.0 c.way_of-w.ensures
    c.row_of-r.ensures _ _ c.if-dy.true c.reach_of.ensures c.added.ensures

pub returns-then-edge : goal.returns-then-edge
returns-then-edge c = edge _ _ _ _ _ _ _ c.row_of-r.result c.requires.0 c.way_of-w.ensures
    c.row_of-r.ensures c.if-dy.false c.if-edge.true

pub returns-else-edge : goal.returns-else-edge
returns-else-edge c = neither _ _ _ _ _ _ _ c.row_of-r.result c.requires.0 c.way_of-w.ensures
    c.row_of-r.ensures c.if-dy.false c.if-edge.false
