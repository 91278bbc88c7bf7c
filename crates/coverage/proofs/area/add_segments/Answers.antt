-- `coverage::area::add_segments` meets its contract. The invariant: the first j segments are done. Assumes nothing.
use mathlib.Core.Path.{◌≡◌, refl, sym, ap, ◌∙◌}
use mathlib.Core.List.{List}
use Prim.Native.Nat.{ℕ, ◌+◌}
use native.Mathlib.Numerals.{add-one}
use lib.ListN.{length}
use lib.Ieee.{Float, nan}
use Rattle.lists.specs.Grid.{mapi}
use Rattle.lists.specs.GridLaws.{mapi_mapi, mapi_is, length_mapi}
use Rattle.panel.specs.Segments.{segment_at}
use Rattle.one_row.specs.Row.{way_of, step_way, step_segment}
use Rattle.coverage.specs.Coverage.{area_after}
use Rattle.panel.specs.declared.segments.Segment.{Segment}
use Rattle.one_row.specs.declared.Way.{Way}
use native.Mathlib.Omega.{arith}
use Rattle.coverage.proofs.area.add_segments.Goals as goal

none : (segs : List Float) (first : ℕ) (xt yt : Float) (l : List Float) → l ≡ mapi (area_after segs first xt yt 0) l
unfolding area_after
none segs first xt yt l = mapi_is (area_after segs first xt yt 0) l l nan nan refl (λ k h. refl)

-- one more segment
turn : (segs : List Float) (first : ℕ) (xt yt : Float) (j : ℕ) (l₀ l m : List Float) (s : Segment) (w : Way) → s ≡ segment_at segs (first + j) → w ≡ way_of s xt
    → l ≡ mapi (area_after segs first xt yt j) l₀ → m ≡ mapi (step_way w yt) l → m ≡ mapi (area_after segs first xt yt (j + 1)) l₀
unfolding area_after step_segment
turn segs first xt yt j l₀ l m s w p q inv e =
    let f = step_way (way_of (segment_at segs (first + j)) xt) yt in
    e ∙ ap (λ (z : Way). mapi (step_way z yt) l) (q ∙ ap (λ (z : Segment). way_of z xt) p) ∙ ap (mapi f) inv ∙ mapi_mapi f (area_after segs first xt yt j) l₀
    ∙ ap (λ (n : ℕ). mapi (area_after segs first xt yt n) l₀) (sym (add-one j))

pub loop-j-init : goal.loop-j-init
loop-j-init c = (refl, none c.args.segments.now c.args.first c.args.xt c.args.yt _)

pub loop-j-preserved : goal.loop-j-preserved
loop-j-preserved c = (
  ap length c.add_segment.ensures ∙ length_mapi _ _ ∙ c.loop-j.invariant.0,
  turn c.args.segments.now c.args.first
      c.args.xt c.args.yt c.loop-j.j _ _ _ _ _ c.segment_at-s.ensures
      c.way_of.ensures c.loop-j.invariant.1 c.add_segment.ensures,
)

pub shape_of-area : goal.shape_of-area
shape_of-area c = c.loop-j.invariant.0

pub returns : goal.returns
returns c =
    c.loop-j.invariant.1 ∙ ap (λ (m : ℕ). mapi (area_after c.args.segments.now c.args.first c.args.xt c.args.yt m) c.args.area.now)
    (omega arith)
