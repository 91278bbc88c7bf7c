-- What the writer answers, and what the bytes lent hold after it. Definitions only.
use Rattle.std.specs.Prelude.{ℕ, ◌+◌, ◌*◌, ◌≡◌, List, [], ◌∷◌, ◌++◌, Bool, ◌&&◌, cond, leb, eqb, length, drop}
use Rattle.std.proofs.lemmas.List.Edits.{sets}
use Rattle.panel.specs.Limits.{side_most}
use Rattle.panel.specs.Refusals.{done_no, not_whole, no_room_word, bad_size}
use Rattle.ppm_write.specs.File.{file_of}
use Rattle.ppm_write.specs.Written.{Written}
use Rattle.ppm_write.specs.Written.{Done, Refused}

-- an answer's number, and after it the value that comes with it: how many bytes were written
abbrev pub paper_of : Written → List ℕ
paper_of (Done n) = done_no ∷ n ∷ []
paper_of (Refused n) = n ∷ []

-- a width or a height that a picture may have
abbrev pub side_ok : ℕ → Bool
side_ok n = leb 1 n && leb n side_most

-- an answer on paper, and what the bytes lent hold after it
pub record Left : Type 0 where
  pub answer : List ℕ
  pub bytes : List ℕ

abbrev pub refused : ℕ → List ℕ → Left
refused n out = record { answer = n ∷ []; bytes = out }

-- the file stands at the front; what is past it stays
abbrev pub wrote : List ℕ → List ℕ → Left
wrote file out = record { answer = done_no ∷ length file ∷ []; bytes = file ++ drop (length file) out }

-- 17, then 1, then 9
unfoldable pub write_of : List ℕ → ℕ → ℕ → List ℕ → Left
write_of pixels w h out =
    cond (side_ok w && side_ok h)
    (cond (eqb (length pixels) (w * h))
    (cond (leb (length (file_of pixels w h)) (length out)) (wrote (file_of pixels w h) out) (refused no_room_word out))
    (refused not_whole out))
    (refused bad_size out)

-- an answer with the bytes as they are afterwards
abbrev pub left_of : Written → List ℕ → Left
left_of r out = record { answer = paper_of r; bytes = out }

-- the call's promise: the answer r and the bytes afterwards are these
abbrev pub WriteMet : List ℕ → ℕ → ℕ → (out : List ℕ) → Written → (out' : List ℕ) → Type 0
WriteMet pixels w h out r out' = left_of r out' ≡ write_of pixels w h out

-- bs stored in out from at on, and the place after them
pub record Put (out : List ℕ) (at : ℕ) (bs : List ℕ) (next : ℕ) (out' : List ℕ) : Type 0 where
  pub place : next ≡ at + length bs
  pub bytes : out' ≡ sets out at bs
