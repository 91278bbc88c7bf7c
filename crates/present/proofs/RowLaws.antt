-- The loops over a row's pixels and over rows: one turn of each, and its end. Which case of the definition holds. Assumes nothing.
use mathlib.Core.Path.{◌≡◌, refl}
use mathlib.Core.Bool.{true, false, ◌&&◌}
use mathlib.Core.List.{List, [], ◌∷◌}
use Prim.Native.Nat.{ℕ, suc, ◌+◌, ◌-◌, ◌*◌, ◌/◌, ◌%◌, ◌≤◌, ◌<◌}
use native.Mathlib.Nat.{add-mul, mul_comm, mul-le-mul_right, div-mul-le_self}
use native.Mathlib.Omega.{arith}
use lib.Dec.{leb, eqb}
use lib.ListN.{length}
use lib.Seq.{sets}
use borrow.Author.Tests.{le-leb, lt-leb, leb-true}
use Rattle.panel.proofs.BoolLaws.{both}
use Rattle.panel.specs.Refusals.{done_no, not_whole, no_room_word, bad_size}
use Rattle.ppm_write.specs.Write.{side_ok}
use Rattle.present.specs.Pixels.{bytes_each, row_bytes, row_of, rows_of}
use Rattle.present.specs.Present.{whole_of, size_of, left_of, present_of, RowsFit}

-- ---- rows

pub row_length : (order : ℕ) (ps : List ℕ) → length (row_bytes order ps) ≡ bytes_each * length ps
row_length order [] = refl
row_length order (p ∷ ps) = omega (arith, row_length order ps)

module _ (n screen w h stride room : ℕ) (f : RowsFit n screen w h stride room) (y : ℕ) (g : y < h) where
  -- row y lies within the pixels
  pub row_there : y * screen + w ≤ n
  row_there = let one : y + 1 ≤ h = omega arith in omega (arith, f.rows, f.wide, add-mul y 1 screen, mul-le-mul_right screen one)

  -- and its bytes within those lent
  pub row_room : y * stride + bytes_each * w ≤ room
  row_room = let one : y ≤ h - 1 = omega arith in omega (arith, f.size, mul-le-mul_right stride one, mul_comm stride (h - 1))

module _ (order : ℕ) (pixels : List ℕ) (screen w stride : ℕ) where
  pub rows_turn : (h y : ℕ) (out out' end : List ℕ) → y < h → out' ≡ sets out (y * stride) (row_bytes order (row_of pixels screen w y))
      → rows_of order pixels screen w stride (h - y) y out ≡ end → rows_of order pixels screen w stride (h - (y + 1)) (y + 1) out' ≡ end
  unfolding rows_of
  rows_turn h y out out' end g e k =
      let left : h - y ≡ suc (h - (y + 1)) = omega arith in
      let next : y + 1 ≡ suc y = omega arith in
      rw (e, next) (rw (left, next) at k)

  pub rows_done : (h y : ℕ) (out end : List ℕ) → h ≤ y → rows_of order pixels screen w stride (h - y) y out ≡ end → out ≡ end
  unfolding rows_of
  rows_done h y out end g k = let none : h - y ≡ 0 = omega arith in rw none at k

-- ---- which case holds

module _ (n screen w h stride : ℕ) where
  -- what a true one tells
  pub whole_told : whole_of n screen w h stride ≡ true → (w ≤ screen) × (h ≤ n / screen)
  unfolding whole_of
  whole_told e =
      let a = both (leb w screen) (eqb (n % screen) 0 && (leb h (n / screen) && leb (bytes_each * w) stride)) e in
      let b = both (eqb (n % screen) 0) (leb h (n / screen) && leb (bytes_each * w) stride) a.1 in
      let d = both (leb h (n / screen)) (leb (bytes_each * w) stride) b.1 in
      (leb-true w screen a.0, leb-true h (n / screen) d.0)

  pub rows_fit : (room : ℕ) → 0 < screen → whole_of n screen w h stride ≡ true → size_of w h stride ≤ room → RowsFit n screen w h stride room
  rows_fit room z e s =
      let t = whole_told e in
      record { rows = omega (arith, mul-le-mul_right screen t.1, div-mul-le_self n screen); wide = t.0; size = s }

module _ (pixels : List ℕ) (screen w h stride order : ℕ) (out : List ℕ) where
  pub size_refused : side_ok w && side_ok h ≡ false → left_of bad_size out ≡ present_of pixels screen w h stride order out
  unfolding present_of
  size_refused e = rw e

  pub whole_refused : side_ok w && side_ok h ≡ true → whole_of (length pixels) screen w h stride ≡ false → left_of not_whole out ≡ present_of pixels screen w h stride order out
  unfolding present_of
  whole_refused e k = rw (e, k)

  pub room_refused : side_ok w && side_ok h ≡ true → whole_of (length pixels) screen w h stride ≡ true → length out < size_of w h stride
      → left_of no_room_word out ≡ present_of pixels screen w h stride order out
  unfolding present_of
  room_refused e k l = rw (e, k, lt-leb (size_of w h stride) (length out) l)

  pub presented : side_ok w && side_ok h ≡ true → whole_of (length pixels) screen w h stride ≡ true → size_of w h stride ≤ length out → (end : List ℕ)
      → end ≡ rows_of order pixels screen w stride h 0 out → left_of done_no end ≡ present_of pixels screen w h stride order out
  unfolding present_of
  presented e k l end q = rw (e, k, le-leb (size_of w h stride) (length out) l, q)
