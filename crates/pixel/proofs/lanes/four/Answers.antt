-- `pixel::lanes::four` meets its contract. The invariant: the shares of the first i segments are found. Assumes nothing.
use mathlib.Core.Path.{refl, ◌∙◌}
use native.Mathlib.Omega.{arith}
use lib.ListN.{length-set}
use Rattle.pixel.specs.Place.{place_at}
use Rattle.pixel.proofs.Shares.{shared_step, after_four, share_here_lem, counts_here_lem, fill_more}
use Rattle.pixel.proofs.lanes.four.Goals as goal

pub loop-i-init : goal.loop-i-init
loop-i-init c = (refl, refl, (λ j h. absurd (omega (arith, h))), (λ j h. absurd (omega (arith, h))))

pub loop-i-preserved : goal.loop-i-preserved
loop-i-preserved c =
    let s = c.args in
    let l = c.loop-i in (
      length-set l.shares l.i c.share.result ∙ l.invariant.0,
      length-set l.tests l.i c.counts.result ∙ l.invariant.1,
      fill_more _ l.i l.shares c.share.result (omega (arith, l.invariant.0)) l.invariant.2
          (share_here_lem s.segments.now s.k s.xt s.yt s.column s.row l.i _ _ _ _ c.segment_at.ensures
          c.way_of-w.ensures c.row_of-r.ensures
          c.share.ensures),
      fill_more _ l.i l.tests c.counts.result (omega (arith, l.invariant.1)) l.invariant.3
          (counts_here_lem s.segments.now s.k s.xt s.yt s.column s.row l.i _ _ _ _ c.segment_at.ensures
          c.way_of-w.ensures c.row_of-r.ensures
          c.counts.ensures),
    )

pub returns : goal.returns
returns c =
    let s = c.args in
    let l = c.loop-i in
    let h = c.requires.1 in
    after_four s.segments.now s.k s.xt s.yt (place_at s.column s.row) s.a _ _ _ _
    (shared_step _ _ _ _ _ _ _ _ _ h (l.invariant.2 0 (omega arith)) (l.invariant.3 0 (omega arith)) c.shared-b.ensures)
    (shared_step _ _ _ _ _ _ _ _ _ h (l.invariant.2 1 (omega arith)) (l.invariant.3 1 (omega arith)) c.shared-c.ensures)
    (shared_step _ _ _ _ _ _ _ _ _ h (l.invariant.2 2 (omega arith)) (l.invariant.3 2 (omega arith)) c.shared-d.ensures)
    (shared_step _ _ _ _ _ _ _ _ _ h (l.invariant.2 3 (omega arith)) (l.invariant.3 3 (omega arith)) c.shared.ensures)
