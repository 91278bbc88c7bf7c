-- Segments' shares, found apart and summed in order, are the area after the segments. Assumes nothing.
use mathlib.Core.Path.{◌≡◌, refl, sym, ap, ap₂, ◌∙◌}
use mathlib.Core.Bool.{Bool, true, false, cond}
use mathlib.Core.List.{List}
use Prim.Native.Nat.{ℕ, zero, suc, ◌+◌, ◌<◌}
use native.Mathlib.Nat.{add-zero}
use native.Mathlib.Omega.{arith}
use lib.ListN.{length, get_or, set}
use lib.Seq.{get_or-set_same, get_or-set_other}
use lib.Ieee.{Float, nan, binary32, add, ne, of_bits, eq}
use borrow.Author.Count.{below_more}
use Rattle.util.specs.Constants as Number
use Rattle.panel.specs.Segments.{segment_at}
use Rattle.sides.specs.Tile.{tile_width}
use Rattle.one_row.specs.Row.{way_of, row_of, reach_of, added_of, slanted, edged, step_row, step_way, step_segment}
use Rattle.coverage.specs.Coverage.{area_after}
use Rattle.panel.specs.declared.segments.Segment.{Segment}
use Rattle.one_row.specs.declared.Way.{Way}
use Rattle.one_row.specs.declared.Row.{Row}
use Rattle.pixel.specs.Place.{place_at}
use Rattle.pixel.specs.Shares.{lanes, share_of, counts_of, shared_of}
use Rattle.pixel.proofs.Places.{row_again, column_again}

-- ---- one segment

one_counts : ne Number.one Number.zero ≡ true
unfolding ne eq of_bits
one_counts = refl

by_cases : (t : Bool) (a x e : Float)
    → cond (ne (cond t Number.one e) Number.zero) (add binary32 a (cond t x e)) a ≡ cond t (add binary32 a x) (cond (ne e Number.zero) (add binary32 a e) a)
by_cases true a x e = rw one_counts
by_cases false a x e = refl

shared_row : (w : Way) (r : Row) (column row : ℕ) (a : Float) → column < tile_width → shared_of a (share_of w r column) (counts_of r) ≡ step_row w r (place_at column row) a
unfolding shared_of share_of counts_of step_row slanted edged
shared_row w r column row a h =
    by_cases (ne r.dy Number.zero) a (added_of (reach_of w r) r.edge r.dy column) r.edge
    ∙ ap (λ (i : ℕ). cond (ne r.dy Number.zero) (add binary32 a (added_of (reach_of w r) r.edge r.dy i)) (cond (ne r.edge Number.zero) (add binary32 a r.edge) a))
    (column_again column row h)

-- the area with the share of the segment s is the area after it
pub shared_step : (s : Segment) (xt yt : Float) (column row : ℕ) (a x t b : Float) → column < tile_width
    → x ≡ share_of (way_of s xt) (row_of (way_of s xt) yt row) column → t ≡ counts_of (row_of (way_of s xt) yt row) → b ≡ shared_of a x t
    → b ≡ step_segment s xt yt (place_at column row) a
unfolding step_segment step_way
shared_step s xt yt column row a x t b h p q e =
    e ∙ ap₂ (shared_of a) p q ∙ shared_row (way_of s xt) (row_of (way_of s xt) yt row) column row a h
    ∙ ap (λ (i : ℕ). step_row (way_of s xt) (row_of (way_of s xt) yt i) (place_at column row) a) (row_again column row h)

-- ---- segments one after another

module _ (segs : List Float) (first : ℕ) (xt yt : Float) (k : ℕ) where
  pub after_none : (a : Float) → a ≡ area_after segs first xt yt 0 k a
  unfolding area_after
  after_none a = refl

  -- j segments, then m more
  pub after_more : (j m : ℕ) (a : Float) → area_after segs (first + j) xt yt m k (area_after segs first xt yt j k a) ≡ area_after segs first xt yt (j + m) k a
  unfolding area_after
  after_more j zero a = ap (λ (n : ℕ). area_after segs first xt yt n k a) (sym (add-zero j))
  after_more j (suc m) a =
      let e : first + j + m ≡ first + (j + m) = omega arith in
      let f : suc (j + m) ≡ j + suc m = omega arith in
      ap₂ (λ (i : ℕ) (x : Float). step_segment (segment_at segs i) xt yt k x) e (after_more j m a) ∙ ap (λ (n : ℕ). area_after segs first xt yt n k a) f

  abbrev step : ℕ → Float → Float
  step j a = step_segment (segment_at segs (first + j)) xt yt k a

  -- four of them
  pub after_four : (a b c d e : Float) → b ≡ step 0 a → c ≡ step 1 b → d ≡ step 2 c → e ≡ step 3 d → e ≡ area_after segs first xt yt lanes k a
  unfolding area_after
  after_four a b c d e p q r s = s ∙ ap (step 3) (r ∙ ap (step 2) (q ∙ ap (step 1) p))

-- ---- the shares of the segments from segment k on, found one after another

module _ (segs : List Float) (k : ℕ) (xt yt : Float) (column row : ℕ) where
  abbrev pub row_here : ℕ → Row
  row_here j = row_of (way_of (segment_at segs (k + j)) xt) yt row

  abbrev pub share_here : ℕ → Float
  share_here j = share_of (way_of (segment_at segs (k + j)) xt) (row_here j) column

  abbrev pub counts_here : ℕ → Float
  counts_here j = counts_of (row_here j)

  pub share_here_lem : (j : ℕ) (s : Segment) (w : Way) (r : Row) (v : Float) → s ≡ segment_at segs (k + j) → w ≡ way_of s xt → r ≡ row_of w yt row → v ≡ share_of w r column → v ≡ share_here j
  share_here_lem j s w r v p q e f = cc

  pub counts_here_lem : (j : ℕ) (s : Segment) (w : Way) (r : Row) (v : Float) → s ≡ segment_at segs (k + j) → w ≡ way_of s xt → r ≡ row_of w yt row → v ≡ counts_of r → v ≡ counts_here j
  counts_here_lem j s w r v p q e f = cc

-- the first i floats of a list are f's
abbrev pub FilledTo : (ℕ → Float) → ℕ → List Float → Type 0
FilledTo f i l = (j : ℕ) → j < i → get_or l j nan ≡ f j

pub fill_more : (f : ℕ → Float) (i : ℕ) (l : List Float) (v : Float) → i < length l → FilledTo f i l → v ≡ f i → FilledTo f (i + 1) (set l i v)
fill_more f i l v h all e =
    below_more (λ (j : ℕ). get_or (set l i v) j nan ≡ f j) i (λ j q. get_or-set_other l i j v nan (λ z. omega (arith, z, q)) ∙ all j q) (get_or-set_same l i v nan h ∙ e)
