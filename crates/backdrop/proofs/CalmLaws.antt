-- Small backdrops: a row that is no wider than a box may be keeps its sums in i32. Assumes nothing.
use mathlib.Core.Path.{◌≡◌, refl}
use mathlib.Core.Bool.{true, ◌&&◌}
use mathlib.Core.List.{List}
use Prim.Native.Nat.{ℕ, zero, suc, ◌+◌, ◌-◌, ◌*◌, ◌≤◌, ◌<◌, ◌^◌}
use native.Mathlib.Nat.{add-mul, mul_comm, suc-add, zero-add, add-zero}
use native.Mathlib.Numerals.{add-one}
use native.Mathlib.Omega.{arith}
use lib.Dec.{leb}
use lib.IntN.{ℤ, pos, negsuc, ◌+ℤ◌}
use lib.Signed.{mag}
use borrow.Author.Tests.{leb-true}
use Rattle.panel.specs.Limits.{edge_most}
use Rattle.panel.specs.Paths.{width_of, height_of}
use Rattle.panel.specs.declared.kinds.Path.{Path}
use Rattle.panel.proofs.LimitLaws.{small}
use Rattle.panel.proofs.BoolLaws.{both}
use Rattle.panel.proofs.SignLaws.{mag_in}
use Rattle.backdrop.specs.Backdrop.{backdrop_at, row_fits, rows_fit, path_fits}
use Rattle.backdrop.specs.Calm.{calm_one, calm_from}
use Rattle.backdrop.proofs.RowLaws.{sum_mag}

-- a turn of the loop
pub calm_turn : (bs : List ℤ) (end i : ℕ) → i < end → calm_from (end - i) i bs ≡ (calm_one (backdrop_at bs i) && calm_from (end - (i + 1)) (i + 1) bs)
unfolding calm_from
calm_turn bs end i h =
    let one_more : end - i ≡ suc (end - suc i) = omega arith in
    rw (one_more, add-one)

pub calm_end : (bs : List ℤ) (end i : ℕ) → end ≤ i → calm_from (end - i) i bs ≡ true
unfolding calm_from
calm_end bs end i h = let none_left : end - i ≡ 0 = omega arith in rw none_left

-- the first n, and the rest
calm_split : (n m at : ℕ) (bs : List ℤ) → calm_from (n + m) at bs ≡ true → (calm_from n at bs ≡ true) × (calm_from m (at + n) bs ≡ true)
unfolding calm_from
calm_split zero m at bs e = (refl, rw (add-zero at) (rw (zero-add m) at e))
calm_split (suc n) m at bs e =
    let f = both (calm_one (backdrop_at bs at)) (calm_from (n + m) (suc at) bs) (rw (suc-add n m) at e) in
    let r = calm_split n m (suc at) bs f.1 in
    let past : at + suc n ≡ suc at + n = omega arith in
    (rw (f.0, r.0), rw past r.1)

one_mag : (b : ℤ) → calm_one b ≡ true → mag b ≤ 2 ^ 18
one_mag (pos n) e = omega (arith, leb-true n 262144 (both true (leb n 262144) e).1)
one_mag (negsuc n) e = omega (arith, leb-true n 262143 (both (leb n 262143) true e).0)

calm_row : (n at : ℕ) (sum : ℤ) (bs : List ℤ) → mag sum + n * (2 ^ 18 + 1) < 2 ^ 31 → calm_from n at bs ≡ true → row_fits n at sum bs ≡ true
unfolding calm_from row_fits
calm_row zero at sum bs h e = refl
calm_row (suc n) at sum bs h e =
    let f = both (calm_one (backdrop_at bs at)) (calm_from n (suc at) bs) e in
    let b = one_mag (backdrop_at bs at) f.0 in
    let s = sum_mag sum (backdrop_at bs at) in
    rw (mag_in (sum +ℤ backdrop_at bs at) (omega (arith, b, s)), calm_row n (suc at) (sum +ℤ backdrop_at bs at) bs (omega (arith, b, s)) f.1)

calm_rows : (h w at : ℕ) (bs : List ℤ) → w ≤ edge_most → calm_from (h * w) at bs ≡ true → rows_fit h w at bs ≡ true
unfolding rows_fit
calm_rows zero w at bs k e = refl
calm_rows (suc h) w at bs k e =
    let one_row : suc h * w ≡ w + h * w = omega (arith, add-mul 1 h w) in
    let f = calm_split w (h * w) at bs (rw one_row at e) in
    rw (calm_row w at (pos 0) bs (omega (arith, k, small.edge)) f.0, calm_rows h w (at + w) bs k f.1)

pub calm_path : (p : Path) (bs : List ℤ) → width_of p ≤ edge_most → calm_from (width_of p * height_of p) p.first bs ≡ true → path_fits p bs ≡ true
calm_path p bs k e = calm_rows (height_of p) (width_of p) p.first bs k (rw mul_comm at e)
