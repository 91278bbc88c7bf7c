-- Running sums: where they stay in i32, a turn of each loop, and what a row leaves alone. Assumes nothing.
use mathlib.Core.Path.{◌≡◌, refl, ap, ◌∙◌}
use mathlib.Core.Bool.{Bool, true, false, ◌&&◌}
use mathlib.Core.List.{List}
use Prim.Native.Nat.{ℕ, zero, suc, ◌+◌, ◌-◌, ◌*◌, ◌≤◌, ◌<◌}
use native.Mathlib.Nat.{add-mul}
use native.Mathlib.Numerals.{add-one}
use native.Mathlib.Omega.{arith}
use lib.Dec.{ltb}
use lib.IntN.{ℤ, pos, negsuc, ◌+ℤ◌, sub_ℕ}
use lib.Signed.{mag}
use lib.ListN.{length, set, length-set}
use lib.Seq.{get_or-set_other}
use mir.Syntax.{w32, w64}
use mir.Val.{SFits, to_z, of_z}
use mir.Facts.{to_z-of_z, sfits_widen}
use borrow.Author.Tests.{ltb-true, ltb-false}
use Rattle.panel.proofs.SignLaws.{in_fits}
use Rattle.panel.specs.Signed.{in_i32}
use Rattle.backdrop.specs.Backdrop.{backdrop_at, row_sums, row_fits, rows_sums, rows_fit}

-- ---- i32

sub_mag : (a b m : ℕ) → a ≤ m → b ≤ m → mag (sub_ℕ a b) ≤ m
sub_mag a b m p q = go (ltb a b) refl
  where
    go : (t : Bool) → ltb a b ≡ t → mag (mathlib.Core.Bool.cond t (negsuc (b - suc a)) (pos (a - b))) ≤ m
    go true e = omega (arith, ltb-true a b e)
    go false e = omega (arith, ltb-false a b e)

pub sum_mag : (x y : ℤ) → mag (x +ℤ y) ≤ mag x + mag y + 1
sum_mag (pos a) (pos b) = omega arith
sum_mag (pos a) (negsuc b) = sub_mag a (suc b) (a + b + 1) (omega arith) (omega arith)
sum_mag (negsuc a) (pos b) = sub_mag b (suc a) (a + b + 1) (omega arith) (omega arith)
sum_mag (negsuc a) (negsuc b) = omega arith

-- the sum of two i32 in 64 bits
pub wide_fits : (x y : ℤ) → SFits w32 x → SFits w32 y → SFits w64 (x +ℤ y)
wide_fits x y f g = record { sfits = omega (arith, f.sfits, g.sfits, sum_mag x y) }

-- an i32 read, widened to 64 bits and added, as the code has it
module _ (sum b : ℤ) (f : SFits w32 sum) (g : SFits w32 b) where
  pub read_fits : SFits w64 (to_z w32 (of_z w32 b))
  read_fits = rw (to_z-of_z g) (sfits_widen tt g)

  pub read_wide : to_z w64 (of_z w64 (to_z w32 (of_z w32 b))) ≡ b
  read_wide = to_z-of_z read_fits ∙ to_z-of_z g

  pub added_fits : SFits w64 (sum +ℤ to_z w64 (of_z w64 (to_z w32 (of_z w32 b))))
  added_fits = rw read_wide (wide_fits sum b f g)

  pub added : to_z w64 (of_z w64 (sum +ℤ to_z w64 (of_z w64 (to_z w32 (of_z w32 b))))) ≡ sum +ℤ b
  added = to_z-of_z added_fits ∙ ap (λ (z : ℤ). sum +ℤ z) read_wide

-- the same in 32 bits, where the sum is known to stay there
module _ (sum b : ℤ) (g : SFits w32 b) (e : in_i32 (sum +ℤ b) ≡ true) where
  pub summed_fits : SFits w32 (sum +ℤ to_z w32 (of_z w32 b))
  summed_fits = rw (to_z-of_z g) (in_fits (sum +ℤ b) e)

  pub summed : to_z w32 (of_z w32 (sum +ℤ to_z w32 (of_z w32 b))) ≡ sum +ℤ b
  summed = to_z-of_z summed_fits ∙ ap (λ (z : ℤ). sum +ℤ z) (to_z-of_z g)

-- ---- one row

module _ (bs : List ℤ) (end i : ℕ) (sum : ℤ) where
  pub fits_turn : i < end → row_fits (end - i) i sum bs ≡ (in_i32 (sum +ℤ backdrop_at bs i) && row_fits (end - (i + 1)) (i + 1) (sum +ℤ backdrop_at bs i) bs)
  unfolding row_fits
  fits_turn h =
      let one_more : end - i ≡ suc (end - suc i) = omega arith in
      rw (one_more, add-one)

  pub fits_end : end ≤ i → row_fits (end - i) i sum bs ≡ true
  unfolding row_fits
  fits_end h = let none_left : end - i ≡ 0 = omega arith in rw none_left

  pub sums_turn : i < end → row_sums (end - i) i sum bs ≡ row_sums (end - (i + 1)) (i + 1) (sum +ℤ backdrop_at bs i) (set bs i (sum +ℤ backdrop_at bs i))
  unfolding row_sums
  sums_turn h =
      let one_more : end - i ≡ suc (end - suc i) = omega arith in
      rw (one_more, add-one)

  pub sums_end : end ≤ i → row_sums (end - i) i sum bs ≡ bs
  unfolding row_sums
  sums_end h = let none_left : end - i ≡ 0 = omega arith in rw none_left

pub length_row : (n at : ℕ) (sum : ℤ) (bs : List ℤ) → length (row_sums n at sum bs) ≡ length bs
unfolding row_sums
length_row zero at sum bs = refl
length_row (suc n) at sum bs = length_row n (suc at) (sum +ℤ backdrop_at bs at) (set bs at (sum +ℤ backdrop_at bs at)) ∙ length-set bs at (sum +ℤ backdrop_at bs at)

-- a row changes nothing before it and nothing past it
pub row_before : (n at : ℕ) (sum : ℤ) (bs : List ℤ) (t : ℕ) → t < at → backdrop_at (row_sums n at sum bs) t ≡ backdrop_at bs t
unfolding row_sums
row_before zero at sum bs t h = refl
row_before (suc n) at sum bs t h =
    row_before n (suc at) (sum +ℤ backdrop_at bs at) (set bs at (sum +ℤ backdrop_at bs at)) t (omega arith)
    ∙ get_or-set_other bs at t (sum +ℤ backdrop_at bs at) (pos 0) (omega arith)

pub row_after : (n at : ℕ) (sum : ℤ) (bs : List ℤ) (t : ℕ) → at + n ≤ t → backdrop_at (row_sums n at sum bs) t ≡ backdrop_at bs t
unfolding row_sums
row_after zero at sum bs t h = refl
row_after (suc n) at sum bs t h =
    row_after n (suc at) (sum +ℤ backdrop_at bs at) (set bs at (sum +ℤ backdrop_at bs at)) t (omega arith)
    ∙ get_or-set_other bs at t (sum +ℤ backdrop_at bs at) (pos 0) (omega arith)

-- whether a row fits is told by its own tiles, and those from tile `at` on
pub fits_same : (n at : ℕ) (sum : ℤ) (cs bs : List ℤ) → ((t : ℕ) → at ≤ t → backdrop_at cs t ≡ backdrop_at bs t) → row_fits n at sum cs ≡ row_fits n at sum bs
unfolding row_fits
fits_same zero at sum cs bs e = refl
fits_same (suc n) at sum cs bs e =
    rw (e at (omega arith), fits_same n (suc at) (sum +ℤ backdrop_at bs at) cs bs (λ t h. e t (omega arith)))

-- the tiles past the one that was written fit as they did
pub fits_past : (n at : ℕ) (sum v : ℤ) (bs : List ℤ) → row_fits n (at + 1) sum (set bs at v) ≡ row_fits n (at + 1) sum bs
fits_past n at sum v bs = fits_same n (at + 1) sum (set bs at v) bs (λ t h. get_or-set_other bs at t v (pos 0) (omega arith))

-- ---- the rows of a path

pub rows_fit_same : (h w at : ℕ) (cs bs : List ℤ) → ((t : ℕ) → at ≤ t → backdrop_at cs t ≡ backdrop_at bs t) → rows_fit h w at cs ≡ rows_fit h w at bs
unfolding rows_fit
rows_fit_same zero w at cs bs e = refl
rows_fit_same (suc h) w at cs bs e =
    rw (fits_same w at (pos 0) cs bs e, rows_fit_same h w (at + w) cs bs (λ t g. e t (omega arith)))

module _ (bs : List ℤ) (w h y at : ℕ) where
  pub rows_fit_turn : y < h → rows_fit (h - y) w at bs ≡ (row_fits w at (pos 0) bs && rows_fit (h - (y + 1)) w (at + w) bs)
  unfolding rows_fit
  rows_fit_turn p =
      let one_more : h - y ≡ suc (h - suc y) = omega arith in
      rw (one_more, add-one)

  pub rows_fit_end : h ≤ y → rows_fit (h - y) w at bs ≡ true
  unfolding rows_fit
  rows_fit_end p = let none_left : h - y ≡ 0 = omega arith in rw none_left

  pub rows_turn : y < h → rows_sums (h - y) w at bs ≡ rows_sums (h - (y + 1)) w (at + w) (row_sums w at (pos 0) bs)
  unfolding rows_sums
  rows_turn p =
      let one_more : h - y ≡ suc (h - suc y) = omega arith in
      rw (one_more, add-one)

  pub rows_end : h ≤ y → rows_sums (h - y) w at bs ≡ bs
  unfolding rows_sums
  rows_end p = let none_left : h - y ≡ 0 = omega arith in rw none_left

  -- the rows left take so many tiles
  pub rows_left : y < h → (h - y) * w ≡ w + (h - (y + 1)) * w
  rows_left p =
      let one_more : h - y ≡ 1 + (h - (y + 1)) = omega arith in
      rw one_more (add-mul 1 (h - (y + 1)) w ∙ omega arith)

  -- the rows past one that was summed fit as they did
  pub next_fits : rows_fit (h - (y + 1)) w (at + w) (row_sums w at (pos 0) bs) ≡ rows_fit (h - (y + 1)) w (at + w) bs
  next_fits = rows_fit_same (h - (y + 1)) w (at + w) (row_sums w at (pos 0) bs) bs (λ t g. row_after w at (pos 0) bs t g)
