-- What the call answers, and what the bytes lent hold after it. Definitions only.
use Rattle.std.specs.Prelude.{Result, Ok, Err, ⊤, ℕ, ◌+◌, ◌-◌, ◌*◌, ◌/◌, ◌%◌, ◌≤◌, ◌≡◌, Bool, ◌&&◌, cond, List, leb, eqb, length}
use Rattle.panel.specs.declared.refusals.Refusal.{Refusal}
use Rattle.panel.specs.Refusals.{no_of, done_no, not_whole, no_room_word, bad_size}
use Rattle.ppm_write.specs.Write.{side_ok}
use Rattle.present.specs.Pixels.{bytes_each, rows_of}

-- the screen is as wide as the picture, the pixels are whole rows of it and enough of them, and a stride has room for a row
unfoldable pub whole_of : (n screen w h stride : ℕ) → Bool
whole_of n screen w h stride = leb w screen && (eqb (n % screen) 0 && (leb h (n / screen) && leb (bytes_each * w) stride))

-- so many bytes: the rows but the last take a stride each
abbrev pub size_of : (w h stride : ℕ) → ℕ
size_of w h stride = stride * (h - 1) + bytes_each * w

-- the number of what code answers
abbrev pub number_told : Result ⊤ Refusal → ℕ
number_told (Ok x) = done_no
number_told (Err why) = no_of why

-- an answer's number, and what the bytes lent hold after it
pub record Left : Type 0 where
  pub number : ℕ
  pub bytes : List ℕ

abbrev pub left_of : ℕ → List ℕ → Left
left_of n bs = record { number = n; bytes = bs }

-- 17, then 1, then 9; a refusal changes nothing
unfoldable pub present_of : (pixels : List ℕ) (screen w h stride order : ℕ) → List ℕ → Left
present_of pixels screen w h stride order out =
    cond (side_ok w && side_ok h)
    (cond (whole_of (length pixels) screen w h stride)
    (cond (leb (size_of w h stride) (length out)) (left_of done_no (rows_of order pixels screen w stride h 0 out)) (left_of no_room_word out))
    (left_of not_whole out))
    (left_of bad_size out)

-- the call's promise: the answer r and the bytes afterwards are these
abbrev pub PresentMet : (pixels : List ℕ) (screen w h stride order : ℕ) → (out : List ℕ) → ℕ → (out' : List ℕ) → Type 0
PresentMet pixels screen w h stride order out r out' = left_of r out' ≡ present_of pixels screen w h stride order out

-- ---- only proofs lean on this

-- the rows are there, and so is the room for them
pub record RowsFit (n screen w h stride room : ℕ) : Type 0 where
  pub rows : h * screen ≤ n
  pub wide : w ≤ screen
  pub size : size_of w h stride ≤ room
