-- Which case of `write_of` holds, from what the writer's tests show.
-- Assumes nothing.
use mathlib.Core.Path.{◌≡◌, ap, ◌∙◌}
use mathlib.Core.List.{List, [], ◌∷◌, ◌++◌}
use mathlib.Core.Bool.{Bool, true, false, ◌&&◌}
use Prim.Native.Nat.{ℕ, ◌+◌, ◌*◌, ◌≤◌, ◌<◌}
use native.Mathlib.Omega.{arith}
use native.Mathlib.Nat.{mul-le-mul}
use lib.Dec.{leb}
use lib.ListN.{length, length-append, drop}
use borrow.Author.Tests.{le-leb, lt-leb, leb-true, eq-eqb, ne_eqb}
use Rattle.panel.proofs.BoolLaws.{both}
use Rattle.panel.specs.Limits.{side_most}
use Rattle.panel.specs.Refusals.{done_no, not_whole, no_room_word, bad_size}
use Rattle.ppm_write.specs.Bytes.{pixel_bytes, fixed_bytes}
use Rattle.ppm_write.specs.File.{decimal, head_of, raster_of, file_of}
use Rattle.ppm_write.specs.Written.{Written}
use Rattle.ppm_write.specs.Written.{Done, Refused}
use Rattle.ppm_write.specs.Write.{paper_of, Put, side_ok, refused, write_of}
use Rattle.ppm_write.proofs.Stores.{sets_front}
use Rattle.ppm_write.proofs.Puts.{put_then, head_length, raster_length}

pub side_most_lem : (n : ℕ) → side_ok n ≡ true → n ≤ side_most
side_most_lem n e = leb-true n side_most (both (leb 1 n) (leb n side_most) e).1

pub side_least : (n : ℕ) → side_ok n ≡ true → 1 ≤ n
side_least n e = leb-true 1 n (both (leb 1 n) (leb n side_most) e).0

-- the two tests' results, as the sides' own
pub sides_of : {a b x y t : Bool} → a ≡ x → b ≡ y → a && b ≡ t → x && y ≡ t
sides_of p q e = rw (p, q) at e

-- the pixels of a picture that may be
pub area_most : (w h : ℕ) → side_ok w && side_ok h ≡ true → w * h ≤ side_most * side_most
area_most w h e =
    let b = both (side_ok w) (side_ok h) e in
    mul-le-mul (side_most_lem w b.0) (side_most_lem h b.1)

pub file_length : (ps : List ℕ) (w h : ℕ)
    → length (file_of ps w h) ≡ fixed_bytes + length (decimal w) + length (decimal h) + pixel_bytes * length ps
unfolding file_of
file_length ps w h = omega (arith, length-append (head_of w h) (raster_of ps), head_length w h, raster_length ps)

module _ (ps : List ℕ) (w h : ℕ) (out : List ℕ) where
  pub size_refused : side_ok w && side_ok h ≡ false → refused bad_size out ≡ write_of ps w h out
  unfolding write_of
  size_refused e = rw e

  pub number_refused : side_ok w && side_ok h ≡ true → (length ps ≡ w * h → ⊥) → refused not_whole out ≡ write_of ps w h out
  unfolding write_of
  number_refused e ne = rw (e, ne_eqb (length ps) (w * h) ne)

  pub room_refused : side_ok w && side_ok h ≡ true → length ps ≡ w * h → length out < length (file_of ps w h)
      → refused no_room_word out ≡ write_of ps w h out
  unfolding write_of
  room_refused e n l = rw (e, eq-eqb (length ps) (w * h) n, lt-leb (length (file_of ps w h)) (length out) l)

  pub written : side_ok w && side_ok h ≡ true → length ps ≡ w * h → length (file_of ps w h) ≤ length out
      → (mid end : List ℕ) (at next : ℕ)
      → Put out 0 (head_of w h) at mid → Put mid at (raster_of ps) next end
      → record { answer = done_no ∷ next ∷ []; bytes = end } ≡ write_of ps w h out
  unfolding write_of file_of
  written e n l mid end at next p q =
      let both : Put out 0 (head_of w h ++ raster_of ps) next end = put_then p q in
      let place : next ≡ length (head_of w h ++ raster_of ps) = both.place ∙ omega arith in
      let bytes : end ≡ head_of w h ++ raster_of ps ++ drop (length (head_of w h ++ raster_of ps)) out =
      both.bytes ∙ sets_front (head_of w h ++ raster_of ps) out l in
      rw (e, eq-eqb (length ps) (w * h) n, le-leb (length (head_of w h ++ raster_of ps)) (length out) l, place, bytes)

-- an answer on paper is of one answer only
pub one_answer : (a b : Written) → paper_of a ≡ paper_of b → a ≡ b
one_answer (Done m) (Done n) e = let k : m ≡ n = cc in ap Done k
one_answer (Done m) (Refused n) e = let z : ◌≡◌ {A = ℕ} 0 1 = cc in absurd (omega arith)
one_answer (Refused m) (Done n) e = let z : ◌≡◌ {A = ℕ} 0 1 = cc in absurd (omega arith)
one_answer (Refused m) (Refused n) e = let k : m ≡ n = cc in ap Refused k
