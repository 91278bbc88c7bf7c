-- `coverage::area::fill_path` meets its contract: three changes of each pixel, one after the other, are `pixel_of`. Assumes nothing.
use mathlib.Core.Path.{◌≡◌, ap, ◌∙◌}
use mathlib.Core.Bool.{Bool}
use mathlib.Core.List.{List}
use Prim.Native.Nat.{ℕ}
use lib.IntN.{ℤ}
use mir.Syntax.{w32}
use mir.ValLaws.{to_z-of_z}
use lib.ListN.{length}
use lib.Ieee.{Float, binary32, of_int}
use Rattle.lists.specs.Grid.{mapi, tabulate}
use Rattle.lists.specs.GridLaws.{mapi_mapi}
use Rattle.sides.specs.Tile.{tile_size}
use Rattle.coverage.specs.Coverage.{area_after, finish_of, sum_of, pixel_of, coverage_of}
use Rattle.coverage.proofs.Laws.{mapi_over}
use Rattle.coverage.proofs.area.fill_path.Goals as goal

chain : (segs : List Float) (first n : ℕ) (eo : Bool) (z : ℤ) (xt yt v : Float) (l₀ l₁ l₂ l₃ : List Float) → length l₀ ≡ tile_size → v ≡ of_int binary32 z → l₁ ≡ mapi (λ k x. v) l₀
    → l₂ ≡ mapi (area_after segs first xt yt n) l₁ → l₃ ≡ mapi (λ k x. finish_of eo x) l₂ → l₃ ≡ coverage_of segs first n eo z xt yt
unfolding coverage_of pixel_of sum_of
chain segs first n eo z xt yt v l₀ l₁ l₂ l₃ h b p q r =
    let f = area_after segs first xt yt n in
    r ∙ ap (mapi (λ k x. finish_of eo x)) (q ∙ ap (mapi f) (p ∙ ap (λ (a : Float). mapi (λ k x. a) l₀) b) ∙ mapi_mapi f (λ k x. of_int binary32 z) l₀)
    ∙ mapi_mapi (λ k x. finish_of eo x) (λ k x. f k (of_int binary32 z)) l₀
    ∙ mapi_over (λ k. finish_of eo (f k (of_int binary32 z))) l₀
    ∙ ap (λ (m : ℕ). tabulate m (λ k. finish_of eo (f k (of_int binary32 z)))) h

pub returns : goal.returns
returns c =
    chain c.args.segments.now c.args.first c.args.n c.args.eo c.args.backdrop c.args.xt c.args.yt _ _ _ _ _ c.requires.0
    (c.of_i32.ensures ∙ ap (of_int binary32)
    (to_z-of_z w32 c.args.backdrop c.ranges.backdrop)) c.set_all.ensures c.add_segments.ensures c.finish_all.ensures
