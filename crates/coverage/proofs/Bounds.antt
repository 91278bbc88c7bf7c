-- Coverage lies in 0..1: non-zero coverage for every input, NaN sums included, and even-odd coverage wherever the summed area is finite. Assumes nothing.
use mathlib.Core.Path.{◌≡◌, refl, sym, subst}
use mathlib.Core.Bool.{Bool, true, false}
use mathlib.Core.List.{List}
use Prim.Native.Nat.{ℕ, zero, suc, ◌<◌}
use lib.Dec.{T}
use lib.IntN.{ℤ}
use lib.ListN.{get_or, length}
use native.Mathlib.Omega.{arith}
use lib.Ieee.{Float, nan, binary32, le, fits, ne, of_int, of_bits}
use lib.Ieee.Fits.{cond-fits, add-fits, of_int-fits}
use lib.Ieee.Scale.{finite}
use Rattle.float32.proofs.Laws.{cover_in}
use Rattle.util.specs.Constants as Number
use Rattle.panel.specs.Checks.{first_no, unless}
use Rattle.panel.specs.Kinds.{paper_of}
use Rattle.panel.specs.Answer.{Done}
use Rattle.panel.specs.Verdict.{Verdict}
use Rattle.panel.specs.Verdict.{Fine, Against}
use Rattle.lists.specs.GridLaws.{get_d_tabulate}
use Rattle.sides.specs.Tile.{tile_size}
use Rattle.one_row.specs.Row.{slanted, edged, step_row, step_way, step_segment}
use Rattle.coverage.specs.Coverage.{area_after, finish_of, sum_of, pixel_of, coverage_of}
use Rattle.coverage.specs.Fill.{fill_of, fill_checks, if_fine}
use Rattle.one_row.specs.declared.Way.{Way}
use Rattle.one_row.specs.declared.Row.{Row}
use Rattle.rounded.proofs.Even as Even

-- x lies in 0..1
abbrev pub InUnit : Float → Type 0
InUnit x = T (le Number.zero x) × T (le x Number.one)

is : {b : Bool} → b ≡ true → T b
is e = subst T (sym e) tt

pub nonzero_in : (a : Float) → InUnit (finish_of false a)
unfolding finish_of of_bits le
nonzero_in a = let h = cover_in a Number.one refl in (is h.0, is h.1)

pub even_odd_in : (a : Float) → T (fits binary32 a) → T (finite a) → InUnit (finish_of true a)
unfolding finish_of of_bits
even_odd_in a f t = Even.even_odd_in_unit a f t

-- ---- every summed area is an f32
row_fits : (w : Way) (r : Row) (k : ℕ) (a : Float) → T (fits binary32 a) → T (fits binary32 (step_row w r k a))
unfolding step_row slanted edged
row_fits w r k a f =
    cond-fits binary32 (ne r.dy Number.zero) _ _ (add-fits binary32 a _) (cond-fits binary32 (ne r.edge Number.zero) _ _ (add-fits binary32 a r.edge) f)

after_fits : (segs : List Float) (first : ℕ) (xt yt : Float) (n k : ℕ) (a : Float) → T (fits binary32 a) → T (fits binary32 (area_after segs first xt yt n k a))
unfolding area_after step_segment step_way
after_fits segs first xt yt zero k a f = f
after_fits segs first xt yt (suc n) k a f = row_fits _ _ k _ (after_fits segs first xt yt n k a f)

module _ (segs : List Float) (first n : ℕ) (z : ℤ) (xt yt : Float) where
  pub sum_fits : (k : ℕ) → T (fits binary32 (sum_of segs first n z xt yt k))
  unfolding sum_of
  sum_fits k = after_fits segs first xt yt n k (of_int binary32 z) (of_int-fits binary32 z)

  -- ---- each pixel of a tile
  pub nonzero_pixel : (k : ℕ) → InUnit (pixel_of segs first n false z xt yt k)
  unfolding pixel_of
  nonzero_pixel k = nonzero_in (sum_of segs first n z xt yt k)

  pub even_odd_pixel : (k : ℕ) → T (finite (sum_of segs first n z xt yt k)) → InUnit (pixel_of segs first n true z xt yt k)
  unfolding pixel_of
  even_odd_pixel k t = even_odd_in (sum_of segs first n z xt yt k) (sum_fits k) t

  -- what fill leaves at pixel k
  pub cover_at : (eo : Bool) (k : ℕ) → k < tile_size → get_or (coverage_of segs first n eo z xt yt) k nan ≡ pixel_of segs first n eo z xt yt k
  unfolding coverage_of
  cover_at eo k h = get_d_tabulate tile_size (pixel_of segs first n eo z xt yt) k nan h

  pub nonzero_tile : (k : ℕ) → k < tile_size → InUnit (get_or (coverage_of segs first n false z xt yt) k nan)
  nonzero_tile k h = subst InUnit (sym (cover_at false k h)) (nonzero_pixel k)

  pub even_odd_tile : (k : ℕ) → k < tile_size → T (finite (sum_of segs first n z xt yt k)) → InUnit (get_or (coverage_of segs first n true z xt yt) k nan)
  even_odd_tile k h t = subst InUnit (sym (cover_at true k h)) (even_odd_pixel k t)

  -- ---- the call `fill`: where it is done, each pixel of the area lent
  done_new : (v : Verdict) (new old : List Float) → paper_of (unless v 0 Done) ≡ paper_of Done → if_fine v new old ≡ new
  done_new Fine new old e = refl
  done_new (Against m) new old e = let z' : ◌≡◌ {A = ℕ} 0 1 = cc in absurd (omega arith)

  pub fill_nonzero : (area : List Float) → (fill_of segs first n false z xt yt area).answer ≡ paper_of Done → (k : ℕ) → k < tile_size
      → InUnit (get_or (fill_of segs first n false z xt yt area).area k nan)
  unfolding fill_of
  fill_nonzero area e k h =
      let v = first_no (fill_checks segs (length area) first n) in
      subst (λ (l : List Float). InUnit (get_or l k nan)) (sym (done_new v (coverage_of segs first n false z xt yt) area e)) (nonzero_tile k h)

  pub fill_even_odd : (area : List Float) → (fill_of segs first n true z xt yt area).answer ≡ paper_of Done → (k : ℕ) → k < tile_size
      → T (finite (sum_of segs first n z xt yt k)) → InUnit (get_or (fill_of segs first n true z xt yt area).area k nan)
  unfolding fill_of
  fill_even_odd area e k h t =
      let v = first_no (fill_checks segs (length area) first n) in
      subst (λ (l : List Float). InUnit (get_or l k nan)) (sym (done_new v (coverage_of segs first n true z xt yt) area e)) (even_odd_tile k h t)
