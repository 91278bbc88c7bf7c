-- What the reader answers, and what the bytes lent hold after it. Definitions only.
use Rattle.std.specs.Prelude.{ℕ, ◌*◌, ◌≡◌, List, [], ◌∷◌, ◌++◌, ◌&&◌, cond, leb, eqb, length, drop}
use Rattle.panel.specs.Refusals.{done_no, no_room_word, bad_size, bad_file}
use Rattle.ppm_write.specs.Bytes.{pixel_bytes}
use Rattle.ppm_write.specs.Write.{Left, refused, side_ok}
use Rattle.ppm_read.specs.Header.{Header, size, no_header, header_of}
use Rattle.ppm_read.specs.Answer.{Answer}
use Rattle.ppm_read.specs.Answer.{Done, Refused}

-- an answer's number, and after it the values that come with it: width and height
abbrev pub paper_of : Answer → List ℕ
paper_of (Done w h) = done_no ∷ w ∷ h ∷ []
paper_of (Refused n) = n ∷ []

-- the raster stands at the front; what is past it stays
abbrev pub read_in : ℕ → ℕ → List ℕ → List ℕ → Left
read_in w h raster out = record { answer = done_no ∷ w ∷ h ∷ []; bytes = raster ++ drop (length raster) out }

-- 18 for the header, 17, 18 for the raster, 9
abbrev pub on_header : Header → List ℕ → Left
on_header no_header out = refused bad_file out
on_header (size w h raster) out =
    cond (side_ok w && side_ok h)
    (cond (eqb (length raster) (w * h * pixel_bytes))
    (cond (leb (length raster) (length out)) (read_in w h raster out) (refused no_room_word out))
    (refused bad_file out))
    (refused bad_size out)

unfoldable pub read_of : List ℕ → List ℕ → Left
read_of file out = on_header (header_of file) out

-- an answer with the bytes as they are afterwards
abbrev pub left_of : Answer → List ℕ → Left
left_of r out = record { answer = paper_of r; bytes = out }

-- the call's promise: the answer r and the bytes afterwards are these
abbrev pub ReadMet : (file out : List ℕ) → Answer → (out' : List ℕ) → Type 0
ReadMet file out r out' = left_of r out' ≡ read_of file out
