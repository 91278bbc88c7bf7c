-- What is read back equals what was written: the reader, given the bytes that the writer left,
-- answers the picture's width and height and hands out the bytes red, green and blue of each pixel.
-- Assumes nothing.
use mathlib.Core.Path.{◌≡◌, refl, sym, ap, ◌∙◌}
use mathlib.Core.List.{List, [], ◌∷◌, ◌++◌, append_assoc}
use mathlib.Core.Bool.{Bool, true, false, cond, ◌&&◌}
use Prim.Native.Nat.{ℕ, zero, suc, ◌+◌, ◌-◌, ◌*◌, ◌/◌, ◌%◌, ◌≤◌, ◌<◌}
use native.Mathlib.Omega.{arith}
use lib.Dec.{ltb, leb, eqb}
use lib.ListN.{length, take, drop}
use lib.Seq.{take_at}
use borrow.Author.Tests.{eq-eqb, lt-ltb, le-leb, ltb-true, ltb-false, eqb-true}
use Rattle.panel.specs.Refusals.{done_no, not_whole, no_room_word, bad_size}
use Rattle.ppm_write.specs.Bytes.{newline, blank, zero_byte, ten, largest, pixel_bytes}
use Rattle.ppm_write.specs.File.{digit, digits_of, decimal, head_of, raster_of, file_of}
use Rattle.ppm_write.specs.Write.{Left, side_ok, refused, wrote, write_of}
use Rattle.ppm_write.proofs.Puts.{raster_length}
use Rattle.ppm_read.specs.declared.Kind.TheVariants.{Digit}
use Rattle.ppm_read.specs.declared.Stage.TheVariants.{Start, Gap, Digits}
use Rattle.ppm_read.specs.Bytes.{is_digit, kind_of}
use Rattle.ppm_read.specs.Header.{got, number_from, size, header_of}
use Rattle.ppm_read.proofs.ByteKinds.{kind_digit}
use Rattle.ppm_read.specs.Read.{read_of}

digit_kind : (d : ℕ) → d < ten → kind_of (digit d) ≡ Digit d
digit_kind d h =
    let is : is_digit (digit d) ≡ true =
    rw (le-leb zero_byte (digit d) (omega arith), lt-ltb (digit d) (zero_byte + ten) (omega arith)) in
    let back : digit d - zero_byte ≡ d = omega arith in
    kind_digit (digit d) is ∙ ap Digit back

-- one digit
first_digit : (d : ℕ) (r : List ℕ) → d < ten → number_from false Gap (digit d ∷ r) ≡ number_from false (Digits d) r
unfolding number_from
first_digit d r h = rw (digit_kind d h)

more_digit : (n d : ℕ) (r : List ℕ) → d < ten → number_from false (Digits n) (digit d ∷ r) ≡ number_from false (Digits (n * ten + d)) r
unfolding number_from
more_digit n d r h = rw (digit_kind d h)

-- the digits of n are read as n
digits_read : (k n : ℕ) (r : List ℕ) → n < k → number_from false Gap (digits_of k n ++ r) ≡ number_from false (Digits n) r
unfolding digits_of
digits_read zero n r h = absurd (omega arith)
digits_read (suc k) n r h = go (ltb n ten) refl (digits_read k (n / ten) (digit (n % ten) ∷ r))
  where
    go :
        (t : Bool) →
        ltb n ten ≡ t →
        (n / ten < k → number_from false Gap (digits_of k (n / ten) ++ (digit (n % ten) ∷ r)) ≡ number_from false (Digits (n / ten)) (digit (n % ten) ∷ r)) →
        number_from false Gap (cond t (digit n ∷ []) (digits_of k (n / ten) ++ (digit (n % ten) ∷ [])) ++ r) ≡ number_from false (Digits n) r
    go true e before = first_digit n r (ltb-true n ten e)
    go false e before =
        let big : ten ≤ n = ltb-false n ten e in
        let whole : n / ten * ten + n % ten ≡ n = omega arith in
        ap (number_from false Gap) (append_assoc (digits_of k (n / ten)) (digit (n % ten) ∷ []) r)
        ∙ before (omega arith)
        ∙ more_digit (n / ten) (n % ten) r (omega arith)
        ∙ ap (λ (m : ℕ). number_from false (Digits m) r) whole

decimal_read : (n : ℕ) (r : List ℕ) → number_from false Gap (decimal n ++ r) ≡ number_from false (Digits n) r
unfolding decimal
decimal_read n r = digits_read (suc n) n r (omega arith)

start_newline : (r : List ℕ) → number_from false Start (newline ∷ r) ≡ number_from false Gap r
unfolding number_from kind_of
start_newline r = refl

start_blank : (r : List ℕ) → number_from false Start (blank ∷ r) ≡ number_from false Gap r
unfolding number_from kind_of
start_blank r = refl

end_newline : (n : ℕ) (r : List ℕ) → number_from false (Digits n) (newline ∷ r) ≡ got n (newline ∷ r)
unfolding number_from kind_of
end_newline n r = refl

end_blank : (n : ℕ) (r : List ℕ) → number_from false (Digits n) (blank ∷ r) ≡ got n (blank ∷ r)
unfolding number_from kind_of
end_blank n r = refl

-- the three numbers of a header, each from the byte before it to the byte after it
width_read : (w : ℕ) (r : List ℕ) → number_from false Start (newline ∷ decimal w ++ (blank ∷ r)) ≡ got w (blank ∷ r)
width_read w r = start_newline (decimal w ++ (blank ∷ r)) ∙ decimal_read w (blank ∷ r) ∙ end_blank w r

height_read : (h : ℕ) (r : List ℕ) → number_from false Start (blank ∷ decimal h ++ (newline ∷ r)) ≡ got h (newline ∷ r)
height_read h r = start_blank (decimal h ++ (newline ∷ r)) ∙ decimal_read h (newline ∷ r) ∙ end_newline h r

most_read : (m : ℕ) (r : List ℕ) → number_from false Start (newline ∷ decimal m ++ (newline ∷ r)) ≡ got m (newline ∷ r)
most_read m r = start_newline (decimal m ++ (newline ∷ r)) ∙ decimal_read m (newline ∷ r) ∙ end_newline m r

file_shape : (ps : List ℕ) (w h : ℕ)
    → file_of ps w h ≡ 80 ∷ 54 ∷ newline ∷ (decimal w ++ (blank ∷ (decimal h ++ (newline ∷ (decimal largest ++ (newline ∷ raster_of ps))))))
unfolding file_of head_of
file_shape ps w h = simp append_assoc

-- a file that the writer makes has the header of its picture, and its raster
pub header_back : (ps : List ℕ) (w h : ℕ) → header_of (file_of ps w h) ≡ size w h (raster_of ps)
unfolding header_of
header_back ps w h = rw (file_shape ps w h, width_read w, height_read h, most_read largest)

-- and is read so
pub file_back : (ps : List ℕ) (w h : ℕ) (back : List ℕ) → side_ok w && side_ok h ≡ true → length ps ≡ w * h → length (raster_of ps) ≤ length back
    → read_of (file_of ps w h) back ≡ record { answer = done_no ∷ w ∷ h ∷ []; bytes = raster_of ps ++ drop (length (raster_of ps)) back }
unfolding read_of
file_back ps w h back ok n room =
    let whole : length (raster_of ps) ≡ w * h * pixel_bytes = omega (arith, raster_length ps, n) in
    rw (
      header_back ps w h,
      ok,
      eq-eqb (length (raster_of ps)) (w * h * pixel_bytes) whole,
      le-leb (length (raster_of ps)) (length back) room,
    )

-- what the writer answers where it writes
accepted : (ps : List ℕ) (w h : ℕ) (out : List ℕ) (n : ℕ) → (write_of ps w h out).answer ≡ done_no ∷ n ∷ []
    → (side_ok w && side_ok h ≡ true) × (length ps ≡ w * h) × (write_of ps w h out ≡ wrote (file_of ps w h) out)
unfolding write_of
accepted ps w h out n = go (side_ok w && side_ok h) refl (eqb (length ps) (w * h)) refl (leb (length (file_of ps w h)) (length out))
  where
    go :
        (a : Bool) →
        side_ok w && side_ok h ≡ a →
        (b : Bool) →
        eqb (length ps) (w * h) ≡ b →
        (c : Bool) →
        (cond a (cond b (cond c (wrote (file_of ps w h) out) (refused no_room_word out)) (refused not_whole out)) (refused bad_size out)).answer ≡ done_no ∷ n ∷ [] →
        (side_ok w && side_ok h ≡ true) × (length ps ≡ w * h) × (cond a (cond b (cond c (wrote (file_of ps w h) out) (refused no_room_word out)) (refused not_whole out))
        (refused bad_size out) ≡ wrote (file_of ps w h) out)
    go true ea true eb true e = (ea, eqb-true (length ps) (w * h) eb, refl)
    go true ea true eb false e = let z : ◌≡◌ {A = ℕ} no_room_word done_no = cc in absurd (omega arith)
    go true ea false eb c e = let z : ◌≡◌ {A = ℕ} not_whole done_no = cc in absurd (omega arith)
    go false ea b eb c e = let z : ◌≡◌ {A = ℕ} bad_size done_no = cc in absurd (omega arith)

-- The round trip. Where the writer answers that it wrote n bytes, the reader, given those n bytes and
-- room for the raster, answers the same width and height, and hands out the bytes of the pixels; what is
-- past them stays. It is said in full here, and not in the reader's own terms.
pub round_trip : (ps : List ℕ) (w h : ℕ) (out back : List ℕ) (n : ℕ)
    → (write_of ps w h out).answer ≡ done_no ∷ n ∷ []
    → length (raster_of ps) ≤ length back
    → read_of (take n (write_of ps w h out).bytes) back
    ≡ record { answer = done_no ∷ w ∷ h ∷ []; bytes = raster_of ps ++ drop (length (raster_of ps)) back }
round_trip ps w h out back n e room =
    let all = accepted ps w h out n e in
    let file = file_of ps w h in
    let size : length file ≡ n = length_of_lem n file (sym (ap (λ (l : Left). l.answer) all.2) ∙ e) in
    let bytes : take n (write_of ps w h out).bytes ≡ file =
    ap (λ (l : Left). take n l.bytes) all.2 ∙ take_at file (drop (length file) out) n size in
    ap (λ (l : List ℕ). read_of l back) bytes ∙ file_back ps w h back all.0 all.1 room
  where
    length_of_lem : (m : ℕ) (l : List ℕ) → ◌≡◌ {A = List ℕ} (done_no ∷ length l ∷ []) (done_no ∷ m ∷ []) → length l ≡ m
    length_of_lem m l q = cc
