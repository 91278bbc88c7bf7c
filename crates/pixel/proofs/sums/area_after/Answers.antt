-- `pixel::sums::area_after` meets its contract. The invariant: the first j segments are done. Assumes nothing.
use mathlib.Core.Path.{◌≡◌, sym, ap, ◌∙◌}
use mathlib.Core.List.{List}
use Prim.Native.Nat.{ℕ, ◌+◌}
use native.Mathlib.Numerals.{add-one}
use lib.Ieee.{Float}
use Rattle.panel.specs.Segments.{segment_at}
use Rattle.one_row.specs.Row.{step_segment}
use Rattle.coverage.specs.Coverage.{area_after}
use Rattle.panel.specs.declared.segments.Segment.{Segment}
use Rattle.pixel.specs.Place.{place_at}
use Rattle.pixel.proofs.Shares.{after_none}
use native.Mathlib.Omega.{arith}
use Rattle.pixel.proofs.sums.area_after.Goals as goal

-- one more segment
turn : (segs : List Float) (first : ℕ) (xt yt : Float) (j k : ℕ) (start a b : Float) (s : Segment) → s ≡ segment_at segs (first + j) → a ≡ area_after segs first xt yt j k start
    → b ≡ step_segment s xt yt k a → b ≡ area_after segs first xt yt (j + 1) k start
unfolding area_after
turn segs first xt yt j k start a b s p inv e =
    e ∙ ap (λ (z : Segment). step_segment z xt yt k a) p ∙ ap (step_segment (segment_at segs (first + j)) xt yt k) inv
    ∙ ap (λ (n : ℕ). area_after segs first xt yt n k start) (sym (add-one j))

pub loop-j-init : goal.loop-j-init
loop-j-init c = after_none _ _ _ _ _ _

pub loop-j-preserved : goal.loop-j-preserved
loop-j-preserved c =
    let s = c.args in
    turn s.segments.now s.first s.xt s.yt c.loop-j.j _ s.start _ _ _ c.segment_at.ensures
    c.loop-j.invariant c.step-a.ensures

pub returns : goal.returns
returns c =
    let s = c.args in
    c.loop-j.invariant ∙ ap (λ (m : ℕ). area_after s.segments.now s.first s.xt s.yt m (place_at s.column s.row) s.start) (omega arith)
