-- The summed area of a pixel, for segments that a fill takes and a tile at 0, 0 (its corner's x may be any float): whatever their number and the backdrop, it is a
-- NaN, or at most 2 ^ 49 in size. It is no NaN where no segment that goes through the pixel's row adds one. Assumes nothing.
--     sum_tame      a NaN, or at most 2 ^ 49 in size
--     sum_small     at most 2 ^ 49 in size, where no segment adds a NaN
--     sum_calm      so in a row that none goes through
use mathlib.Core.Path.{◌≡◌, refl, sym, ◌∙◌}
use mathlib.Core.Bool.{Bool, true, false, cond, true≢false}
use mathlib.Core.Logic.{inl, inr, ⊎_elim}
use mathlib.Core.List.{List}
use Prim.Native.Nat.{ℕ, zero, suc, ◌+◌, ◌/◌, ◌%◌, ◌^◌, ◌≤◌, ◌<◌}
use native.Mathlib.Omega.{arith}
use lib.Dec.{lit<, lit≤}
use lib.IntN.{ℤ, pos, negsuc, nat_abs}
use lib.Ieee.{Float, nan, binary32, add, ne, of_int}
use Rattle.util.specs.Constants as Number
use Rattle.panel.specs.Segments.{segment_at, Straight}
use Rattle.panel.proofs.HeldLaws.{straight_is}
use Rattle.panel.proofs.CheckLaws.{all_ok}
use Rattle.panel.specs.Verdict.{Fine}
use Rattle.exact.specs.Whole.{Small}
use Rattle.exact.proofs.Bounds.{small_more}
use Rattle.sides.specs.Tile.{tile_width, tile_height}
use Rattle.coverage.specs.Ground.{straight_from, ground_checks, ground_of}
use Rattle.one_row.specs.Row.{way_of, row_of, reach_of, added_of, slanted, edged, step_row, step_way, step_segment}
use Rattle.coverage.specs.Coverage.{area_after, sum_of}
use Rattle.one_row.specs.declared.Way.{Way}
use Rattle.one_row.specs.declared.Row.{Row}
use Rattle.coverage.proofs.Crooked.{each_straight}
use Rattle.sum_theorems.specs.Sums.{Tame}
use Rattle.sum_theorems.proofs.Tame.{sum_most, still, step_small, step_tame}
use Rattle.sum_theorems.proofs.Rows.{added_most, edge_small, dy_small, added_tame}

-- a backdrop in i32
pub backdrop_small : (z : ℤ) → nat_abs z ≤ 2 ^ 31 → Small (of_int binary32 z) sum_most
unfolding of_int
backdrop_small (pos n) b = still false n 1 (lit< tt) (omega (arith, b))
backdrop_small (negsuc n) b = still true (suc n) 1 (lit< tt) (omega (arith, b))

-- a fill that isn't refused takes each of its segments
pub fine_straight : (segs : List Float) (first n : ℕ) → ground_of segs first n ≡ Fine → straight_from segs first n ≡ true
fine_straight segs first n e = let k = all_ok (ground_checks segs first n) e in k.1.0

pub each_taken : (segs : List Float) (first n : ℕ) → straight_from segs first n ≡ true → (j : ℕ) → j < n → Straight (segment_at segs (first + j))
each_taken segs first n e j h = straight_is (segment_at segs (first + j)) (each_straight segs first n e j h)

module _ (segs : List Float) (first : ℕ) (xt : Float) (k : ℕ) (row : k / tile_width < tile_height) where
  -- segment j in the pixel's row, and what it adds to the pixel where it goes through that row
  abbrev pub way_at : ℕ → Way
  way_at j = way_of (segment_at segs (first + j)) xt

  abbrev pub row_at : ℕ → Row
  row_at j = row_of (way_at j) Number.zero (k / tile_width)

  abbrev pub added_at : ℕ → Float
  added_at j = added_of (reach_of (way_at j) (row_at j)) (row_at j).edge (row_at j).dy (k % tile_width)

  edge_at : (j : ℕ) → Straight (segment_at segs (first + j)) → Small (row_at j).edge 1
  edge_at j h = edge_small (segment_at segs (first + j)) xt h (k / tile_width) row

  pub added_at_lem : (j : ℕ) → Straight (segment_at segs (first + j)) → Tame (added_at j) added_most
  added_at_lem j h = added_tame (way_at j) (row_at j) (row_at j).edge (row_at j).dy (k % tile_width) (omega arith) (edge_at j h) (dy_small (segment_at segs (first + j)) xt h (k / tile_width) row)

  -- one segment more
  one_tame : (before edge added : Float) (t u : Bool) → Tame before sum_most → Small edge 1 → Tame added added_most
      → Tame (cond t (add binary32 before added) (cond u (add binary32 before edge) before)) sum_most
  one_tame before edge added true u h e a = step_tame before added h (⊎_elim inl (λ s. inr (small_more added added_most (2 ^ 24) (lit≤ tt) s)) a)
  one_tame before edge added false true h e a = step_tame before edge h (inr (small_more edge 1 (2 ^ 24) (lit≤ tt) e))
  one_tame before edge added false false h e a = h

  one_small : (before edge added : Float) (t u : Bool) → Small before sum_most → Small edge 1 → Tame added added_most → (t ≡ true → added ≡ nan → ⊥)
      → Small (cond t (add binary32 before added) (cond u (add binary32 before edge) before)) sum_most
  one_small before edge added true u h e (inl z) n = absurd (n refl z)
  one_small before edge added true u h e (inr a) n = step_small before added h (small_more added added_most (2 ^ 24) (lit≤ tt) a)
  one_small before edge added false true h e a n = step_small before edge h (small_more edge 1 (2 ^ 24) (lit≤ tt) e)
  one_small before edge added false false h e a n = h

  after_tame : (n : ℕ) (a : Float) → Tame a sum_most → ((j : ℕ) → j < n → Straight (segment_at segs (first + j))) → Tame (area_after segs first xt Number.zero n k a) sum_most
  unfolding area_after step_segment step_way step_row slanted edged
  after_tame zero a h s = h
  after_tame (suc n) a h s =
      one_tame (area_after segs first xt Number.zero n k a) (row_at n).edge (added_at n) (ne (row_at n).dy Number.zero) (ne (row_at n).edge Number.zero)
      (after_tame n a h (λ j l. s j (omega arith))) (edge_at n (s n (omega arith))) (added_at_lem n (s n (omega arith)))

  after_small : (n : ℕ) (a : Float) → Small a sum_most → ((j : ℕ) → j < n → Straight (segment_at segs (first + j)))
      → ((j : ℕ) → j < n → ne (row_at j).dy Number.zero ≡ true → added_at j ≡ nan → ⊥) → Small (area_after segs first xt Number.zero n k a) sum_most
  unfolding area_after step_segment step_way step_row slanted edged
  after_small zero a h s q = h
  after_small (suc n) a h s q =
      one_small (area_after segs first xt Number.zero n k a) (row_at n).edge (added_at n) (ne (row_at n).dy Number.zero) (ne (row_at n).edge Number.zero)
      (after_small n a h (λ j l. s j (omega arith)) (λ j l. q j (omega arith))) (edge_at n (s n (omega arith))) (added_at_lem n (s n (omega arith))) (q n (omega arith))

  module _ (n : ℕ) (taken : straight_from segs first n ≡ true) (z : ℤ) (word : nat_abs z ≤ 2 ^ 31) where
    -- never infinite
    pub sum_tame : Tame (sum_of segs first n z xt Number.zero k) sum_most
    unfolding sum_of
    sum_tame = after_tame n (of_int binary32 z) (inr (backdrop_small z word)) (each_taken segs first n taken)

    -- finite, where no segment that goes through the row adds a NaN
    pub sum_small : ((j : ℕ) → j < n → ne (row_at j).dy Number.zero ≡ true → added_at j ≡ nan → ⊥) → Small (sum_of segs first n z xt Number.zero k) sum_most
    unfolding sum_of
    sum_small q = after_small n (of_int binary32 z) (backdrop_small z word) (each_taken segs first n taken) q

    -- so where none goes through the row
    pub sum_calm : ((j : ℕ) → j < n → ne (row_at j).dy Number.zero ≡ false) → Small (sum_of segs first n z xt Number.zero k) sum_most
    sum_calm q = sum_small (λ j l t e. absurd (true≢false (sym t ∙ q j l)))
