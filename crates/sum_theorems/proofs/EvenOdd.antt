-- What refusal 20 gives for even-odd coverage: of segments that a fill takes, at a tile at 0, 0, it lies in 0..1 or is a NaN, and it is a NaN only where the
-- summed area is one. So it lies in 0..1 wherever no segment adds a NaN to the pixel. A segment that is taken may add one: it may be so low that its
-- reciprocal overflows. Assumes nothing.
--     even_odd_tame   in 0..1, or a NaN
--     even_odd_nan    a NaN only where the sum is one
--     even_odd_clear, even_odd_calm   in 0..1 where no segment adds a NaN, and so in a row that none goes through
--     even_odd_high   in 0..1 where the segments that go through the row are at least 2 ^ -100 high
--     fill_tame, fill_high   the same of what the call `fill` leaves
use mathlib.Core.Path.{◌≡◌, refl, sym, ap, subst, ◌∙◌}
use mathlib.Core.Bool.{true, false}
use mathlib.Core.Logic.{◌⊎◌, inl, inr, ⊎_elim}
use mathlib.Core.List.{List, [], ◌∷◌}
use Prim.Native.Nat.{ℕ, ◌+◌, ◌/◌, ◌%◌, ◌^◌, ◌≤◌, ◌<◌}
use native.Mathlib.Omega.{arith}
use lib.IntN.{ℤ, pos, nat_abs}
use lib.ListN.{get_or, length}
use lib.Ieee.{Float, nan, binary32, round, sum, add, sub, mul, div, neg, lt, le, eq, ne, is_nan, of_int, of_bits}
use Rattle.float32.specs.Meaning.{abs_of, round_of, min_of, max_of, clamp_of, signum_of, signed, sign_of}
use Rattle.util.specs.Constants as Number
use Rattle.panel.specs.Checks.{first_no, unless}
use Rattle.panel.specs.Kinds.{paper_of}
use Rattle.panel.specs.Segments.{held_of, segment_at, straight_of}
use Rattle.panel.proofs.CheckLaws.{all_ok}
use Rattle.panel.specs.Answer.{Done}
use Rattle.panel.specs.Verdict.{Verdict, Fine, Against}
use Rattle.exact.proofs.Bounds.{small_finite}
use Rattle.sides.specs.Tile.{tile_width, tile_height, tile_size}
use Rattle.coverage.specs.Ground.{straight_from, ground_of}
use Rattle.one_row.specs.Row.{way_of, row_of, reach_of, added_of, slanted, edged, step_row, step_way, step_segment}
use Rattle.coverage.specs.Coverage.{area_after, finish_of, sum_of, pixel_of, coverage_of}
use Rattle.coverage.specs.Fill.{fill_of, fill_checks, if_fine}
use Rattle.coverage.proofs.Bounds.{InUnit, even_odd_pixel, cover_at}
use Rattle.sum_theorems.specs.Sums.{High}
use Rattle.sum_theorems.proofs.Tame.{sum_most}
use Rattle.sum_theorems.proofs.Sums.{row_at, added_at, each_taken, sum_tame, sum_small, sum_calm}
use Rattle.sum_theorems.proofs.High.{high_number}

finish_nan : finish_of true nan ≡ nan
unfolding finish_of abs_of sub add
finish_nan = refl

no_unit : InUnit nan → ⊥
unfolding le of_bits
no_unit h = h.0

module _ (segs : List Float) (first n : ℕ) (taken : straight_from segs first n ≡ true) (z : ℤ) (word : nat_abs z ≤ 2 ^ 31) (xt : Float) (k : ℕ) (row : k / tile_width < tile_height) where
  abbrev coverage : Float
  coverage = pixel_of segs first n true z xt Number.zero k

  pub even_odd_tame : (coverage ≡ nan) ⊎ InUnit coverage
  unfolding pixel_of
  even_odd_tame =
      ⊎_elim (λ e. inl (ap (finish_of true) e ∙ finish_nan))
      (λ h. inr (even_odd_pixel segs first n z xt Number.zero k (small_finite (sum_of segs first n z xt Number.zero k) sum_most h))) (sum_tame segs first xt k row n taken z word)

  pub even_odd_nan : coverage ≡ nan → sum_of segs first n z xt Number.zero k ≡ nan
  even_odd_nan e =
      ⊎_elim (λ s. s)
      (λ h. absurd (no_unit (subst InUnit e (even_odd_pixel segs first n z xt Number.zero k (small_finite (sum_of segs first n z xt Number.zero k) sum_most h)))))
      (sum_tame segs first xt k row n taken z word)

  pub even_odd_clear : ((j : ℕ) → j < n → ne (row_at segs first xt k row j).dy Number.zero ≡ true → added_at segs first xt k row j ≡ nan → ⊥) → InUnit coverage
  even_odd_clear q = even_odd_pixel segs first n z xt Number.zero k (small_finite (sum_of segs first n z xt Number.zero k) sum_most (sum_small segs first xt k row n taken z word q))

  pub even_odd_calm : ((j : ℕ) → j < n → ne (row_at segs first xt k row j).dy Number.zero ≡ false) → InUnit coverage
  even_odd_calm q = even_odd_pixel segs first n z xt Number.zero k (small_finite (sum_of segs first n z xt Number.zero k) sum_most (sum_calm segs first xt k row n taken z word q))

-- the height of a segment is enough: those that go through the row are at least 2 ^ -100 high, for a tile at 0, 0
pub even_odd_high : (segs : List Float) (first n : ℕ) → straight_from segs first n ≡ true → (z : ℤ) → nat_abs z ≤ 2 ^ 31 → (k : ℕ) (row : k / tile_width < tile_height)
    → ((j : ℕ) → j < n → ne (row_at segs first Number.zero k row j).dy Number.zero ≡ true → High (segment_at segs (first + j)))
    → InUnit (pixel_of segs first n true z Number.zero Number.zero k)
even_odd_high segs first n taken z word k row q =
    even_odd_clear segs first n taken z word Number.zero k row
    (λ j l t. high_number (segment_at segs (first + j)) (each_taken segs first n taken j l) (q j l t) (k / tile_width) row (k % tile_width) (omega arith) t)

-- ---- the call `fill`: where it is done, each pixel of the area lent
done_fine : (v : Verdict) → paper_of (unless v 0 Done) ≡ paper_of Done → v ≡ Fine
done_fine Fine e = refl
done_fine (Against m) e = let z : ◌≡◌ {A = ℕ} 0 1 = cc in absurd (omega arith)

module _ (segs : List Float) (first n : ℕ) (z : ℤ) (xt : Float) (area : List Float) (done : (fill_of segs first n true z xt Number.zero area).answer ≡ paper_of Done) where
  abbrev verdict : Verdict
  verdict = first_no (fill_checks segs (length area) first n)

  is_fine : verdict ≡ Fine
  unfolding fill_of
  is_fine = done_fine verdict done

  pub fill_taken : straight_from segs first n ≡ true
  fill_taken = let ok = all_ok (fill_checks segs (length area) first n) is_fine in ok.1.1.1.0

  there : (k : ℕ) → k < tile_size → get_or (fill_of segs first n true z xt Number.zero area).area k nan ≡ pixel_of segs first n true z xt Number.zero k
  unfolding fill_of
  there k h = ap (λ (u : Verdict). get_or (if_fine u (coverage_of segs first n true z xt Number.zero) area) k nan) is_fine ∙ cover_at segs first n z xt Number.zero true k h

  pub fill_tame : nat_abs z ≤ 2 ^ 31 → (k : ℕ) → k < tile_size
      → (get_or (fill_of segs first n true z xt Number.zero area).area k nan ≡ nan) ⊎ InUnit (get_or (fill_of segs first n true z xt Number.zero area).area k nan)
  fill_tame word k h = subst (λ (x : Float). (x ≡ nan) ⊎ InUnit x) (sym (there k h)) (even_odd_tame segs first n fill_taken z word xt k (omega (arith, h)))

-- in 0..1 where every segment of the fill is at least 2 ^ -100 high
pub fill_high : (segs : List Float) (first n : ℕ) (z : ℤ) (area : List Float) → (fill_of segs first n true z Number.zero Number.zero area).answer ≡ paper_of Done → nat_abs z ≤ 2 ^ 31
    → ((j : ℕ) → j < n → High (segment_at segs (first + j))) → (k : ℕ) → k < tile_size → InUnit (get_or (fill_of segs first n true z Number.zero Number.zero area).area k nan)
fill_high segs first n z area done word q k h =
    subst InUnit (sym (there segs first n z Number.zero area done k h))
    (even_odd_high segs first n (fill_taken segs first n z Number.zero area done) z word k (omega (arith, h)) (λ j l t. q j l))

-- ---- a NaN can't be ruled out: a segment straight down from (4, 0), the least height there is
abbrev thin : List Float
thin = of_bits binary32 0x4080_0000 ∷ Number.zero ∷ of_bits binary32 0x4080_0000 ∷ of_bits binary32 1 ∷ Number.no_edge ∷ []

pub thin_taken : ground_of thin 0 1 ≡ Fine
unfolding straight_from straight_of held_of segment_at of_bits le lt eq
thin_taken = refl

pub thin_even_odd : pixel_of thin 0 1 true (pos 0) Number.zero Number.zero 5 ≡ nan
unfolding pixel_of sum_of area_after finish_of step_segment step_way step_row way_of row_of reach_of slanted edged added_of segment_at clamp_of min_of max_of signum_of abs_of
    round_of signed sign_of of_int of_bits add sub mul div neg lt le eq ne is_nan round sum
thin_even_odd = refl
