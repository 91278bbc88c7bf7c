-- `pixel::lanes::fours_after` meets its contract. The invariant: the first j fours are done. Assumes nothing.
use mathlib.Core.Path.{◌≡◌, ap, ◌∙◌}
use Prim.Native.Nat.{ℕ, ◌+◌, ◌*◌}
use native.Mathlib.Omega.{arith}
use Rattle.coverage.specs.Coverage.{area_after}
use Rattle.pixel.specs.Place.{place_at}
use Rattle.pixel.specs.Shares.{lanes}
use Rattle.pixel.proofs.Shares.{after_none, after_more}
use Rattle.pixel.proofs.lanes.fours_after.Goals as goal

pub loop-j-init : goal.loop-j-init
loop-j-init c = after_none _ _ _ _ _ _

pub loop-j-preserved : goal.loop-j-preserved
loop-j-preserved c =
    let s = c.args in
    let l = c.loop-j in
    let k = place_at s.column s.row in
    let more : l.j * lanes + lanes ≡ (l.j + 1) * lanes = omega arith in
    c.four-a.ensures ∙ ap (area_after s.segments.now (s.first + l.j * lanes) s.xt s.yt lanes k) l.invariant
    ∙ after_more s.segments.now s.first s.xt s.yt k (l.j * lanes) lanes s.start
    ∙ ap (λ (n : ℕ). area_after s.segments.now s.first s.xt s.yt n k s.start) more

pub returns : goal.returns
returns c =
    let s = c.args in
    let l = c.loop-j in
    let all : l.j * lanes ≡ s.m * lanes = ap (λ (n : ℕ). n * lanes) (omega arith) in
    l.invariant ∙ ap (λ (n : ℕ). area_after s.segments.now s.first s.xt s.yt n (place_at s.column s.row) s.start) all
