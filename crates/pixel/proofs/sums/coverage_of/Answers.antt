-- `pixel::sums::coverage_of` meets its contract. Assumes nothing.
use mathlib.Core.Path.{◌≡◌, ap, ◌∙◌}
use mathlib.Core.Bool.{Bool}
use mathlib.Core.List.{List}
use Prim.Native.Nat.{ℕ, ◌+◌, ◌-◌, ◌*◌, ◌/◌}
use native.Mathlib.Omega.{arith}
use lib.IntN.{ℤ}
use lib.Ieee.{Float, binary32, of_int}
use mir.Syntax.{w32}
use mir.ValLaws.{to_z-of_z}
use Rattle.coverage.specs.Coverage.{area_after, finish_of, sum_of, pixel_of}
use Rattle.pixel.specs.Shares.{lanes}
use Rattle.pixel.proofs.Shares.{after_more}
use Rattle.pixel.proofs.sums.coverage_of.Goals as goal

-- fours, then those left over
both : (segs : List Float) (first n : ℕ) (xt yt : Float) (k : ℕ) (v u s : Float) → u ≡ area_after segs first xt yt (n / lanes * lanes) k v
    → s ≡ area_after segs (first + n / lanes * lanes) xt yt (n - n / lanes * lanes) k u → s ≡ area_after segs first xt yt n k v
both segs first n xt yt k v u s p q =
    let all : n / lanes * lanes + (n - n / lanes * lanes) ≡ n = omega arith in
    q ∙ ap (area_after segs (first + n / lanes * lanes) xt yt (n - n / lanes * lanes) k) p
    ∙ after_more segs first xt yt k (n / lanes * lanes) (n - n / lanes * lanes) v
    ∙ ap (λ (m : ℕ). area_after segs first xt yt m k v) all

chain : (segs : List Float) (first n : ℕ) (eo : Bool) (z : ℤ) (xt yt : Float) (k : ℕ) (v s r : Float) → v ≡ of_int binary32 z → s ≡ area_after segs first xt yt n k v
    → r ≡ finish_of eo s → r ≡ pixel_of segs first n eo z xt yt k
unfolding pixel_of sum_of
chain segs first n eo z xt yt k v s r p q e = e ∙ ap (finish_of eo) (q ∙ ap (area_after segs first xt yt n k) p)

pub returns : goal.returns
returns c =
    let a = c.args in
    chain a.segments.now a.first a.n a.eo a.backdrop a.xt a.yt _ _ _ _
    (c.of_i32-start.ensures ∙ ap (of_int binary32) (to_z-of_z w32 a.backdrop c.ranges.backdrop))
    (both a.segments.now a.first a.n a.xt a.yt _ _ _ _ c.fours_after-some.ensures c.area_after-sum.ensures)
    c.finish.ensures
