-- Which case of `read_of` holds, from what the reader's tests show. Assumes nothing.
use mathlib.Core.Path.{◌≡◌, refl, sym, ap, ◌∙◌}
use mathlib.Core.List.{List}
use mathlib.Core.Bool.{true, false, ◌&&◌}
use Prim.Native.Nat.{ℕ, ◌*◌, ◌-◌, ◌≤◌, ◌<◌}
use native.Mathlib.Omega.{arith}
use lib.ListN.{length, drop, length-drop}
use lib.Seq.{sets}
use borrow.Author.Tests.{le-leb, lt-leb, eq-eqb, ne_eqb}
use Rattle.panel.specs.Refusals.{no_room_word, bad_size, bad_file}
use Rattle.ppm_write.specs.Bytes.{pixel_bytes}
use Rattle.ppm_write.specs.Write.{refused, side_ok}
use Rattle.panel.proofs.BoolLaws.{both}
use Rattle.ppm_write.proofs.Stores.{sets_front}
use Rattle.ppm_read.specs.Answer.{Answer}
use Rattle.ppm_read.specs.Answer.{Done, Refused}
use Rattle.ppm_read.specs.Head.{Head}
use Rattle.ppm_read.specs.Head.{Size, NoHead}
use Rattle.ppm_read.specs.Header.{Header, size, no_header, header_of}
use Rattle.ppm_read.specs.Read.{paper_of, on_header, read_of}
use Rattle.ppm_read.specs.Held.{held, held_header, sized_of, WithinHead}
use Rattle.ppm_read.proofs.Held.{held_side, held_eq}

side_same : (m n : ℕ) → held m ≡ held n → side_ok m ≡ side_ok n
side_same m n e = sym (held_side m) ∙ ap side_ok e ∙ held_side n

-- no header, by what the code holds
none_held : (H : Header) (out : List ℕ) → no_header ≡ held_header H → refused bad_file out ≡ on_header H out
none_held (size w h r) out e = let z : ◌≡◌ {A = ℕ} 0 1 = cc in absurd (omega arith)
none_held no_header out e = refl

-- a size that no picture may have
bad_held : (H : Header) (w h : ℕ) (r out : List ℕ) → size (held w) (held h) r ≡ held_header H → side_ok w && side_ok h ≡ false
    → refused bad_size out ≡ on_header H out
bad_held (size w' h' r') w h r out e bad =
    let ew : side_ok w ≡ side_ok w' = side_same w w' (cc) in
    let eh : side_ok h ≡ side_ok h' = side_same h h' (cc) in
    let bad' : side_ok w' && side_ok h' ≡ false = rw (ew, eh) at bad in
    rw bad'
bad_held no_header w h r out e bad = let z : ◌≡◌ {A = ℕ} 0 1 = cc in absurd (omega arith)

-- a size that a picture may have is what the code has
good_held : (H : Header) (w h : ℕ) (r : List ℕ) → size (held w) (held h) r ≡ held_header H → side_ok w && side_ok h ≡ true
    → H ≡ size w h r
good_held (size w' h' r') w h r e ok =
    let ew : w ≡ w' = held_eq w w' (cc) (both (side_ok w) (side_ok h) ok).0 in
    let eh : h ≡ h' = held_eq h h' (cc) (both (side_ok w) (side_ok h) ok).1 in
    let er : r ≡ r' = cc in
    cc
good_held no_header w h r e ok = let z : ◌≡◌ {A = ℕ} 0 1 = cc in absurd (omega arith)

-- a raster that is whole and has room
read_in : (w h : ℕ) (r out out' : List ℕ) → side_ok w && side_ok h ≡ true → length r ≡ w * h * pixel_bytes → length r ≤ length out
    → out' ≡ sets out 0 r
    → record { answer = paper_of (Done w h); bytes = out' } ≡ on_header (size w h r) out
read_in w h r out out' ok n l copied =
    rw (ok, eq-eqb (length r) (w * h * pixel_bytes) n, le-leb (length r) (length out) l, copied, sets_front r out l)

pub at_most : (file : List ℕ) (x : Head) (w h at : ℕ) → WithinHead file x → x ≡ Size w h at → at ≤ length file
at_most file x w h at i e = rw e at i

module _ (file out : List ℕ) (x : Head) (found : held_header (sized_of file x) ≡ held_header (header_of file)) where
  pub none_read : x ≡ NoHead → refused bad_file out ≡ read_of file out
  unfolding read_of
  none_read e = none_held (header_of file) out (rw e at found)

  module _ (w h at : ℕ) (e : x ≡ Size w h at) where
    pub size_read : side_ok w && side_ok h ≡ false → refused bad_size out ≡ read_of file out
    unfolding read_of
    size_read bad = bad_held (header_of file) w h (drop at file) out (rw e at found) bad

    module _ (ok : side_ok w && side_ok h ≡ true) where
      good : on_header (size w h (drop at file)) out ≡ read_of file out
      unfolding read_of
      good = rw (good_held (header_of file) w h (drop at file) (rw e at found) ok)

      pub raster_read : (length file - at ≡ w * h * pixel_bytes → ⊥) → refused bad_file out ≡ read_of file out
      raster_read ne =
          rw (ok, length-drop at file, ne_eqb (length file - at) (w * h * pixel_bytes) ne) at good

      module _ (whole : length file - at ≡ w * h * pixel_bytes) where
        pub room_read : length out < w * h * pixel_bytes → refused no_room_word out ≡ read_of file out
        room_read l =
            let l' : length out < length file - at = omega arith in
            rw (
              ok,
              length-drop at file,
              eq-eqb (length file - at) (w * h * pixel_bytes) whole,
              lt-leb (length file - at) (length out) l',
            ) at good

        pub done_read : w * h * pixel_bytes ≤ length out → (out' : List ℕ) → out' ≡ sets out 0 (drop at file)
            → record { answer = paper_of (Done w h); bytes = out' } ≡ read_of file out
        done_read l out' copied =
            let l' : length (drop at file) ≤ length out = omega (arith, length-drop at file) in
            read_in w h (drop at file) out out' ok (length-drop at file ∙ whole) l' copied ∙ good

-- an answer on paper is of one answer only
pub one_answer : (a b : Answer) → paper_of a ≡ paper_of b → a ≡ b
one_answer (Done w h) (Done w' h') e =
    let ew : w ≡ w' = cc in
    let eh : h ≡ h' = cc in
    rw (ew, eh)
one_answer (Done w h) (Refused n) e = let z : ◌≡◌ {A = ℕ} 0 1 = cc in absurd (omega arith)
one_answer (Refused n) (Done w h) e = let z : ◌≡◌ {A = ℕ} 0 1 = cc in absurd (omega arith)
one_answer (Refused m) (Refused n) e = let k : m ≡ n = cc in ap Refused k
