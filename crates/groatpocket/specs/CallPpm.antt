-- What a caller sees of the picture's writer and reader, and the same read off what their definitions leave. Definitions only.
use Rattle.std.specs.Prelude.{ℕ, ◌≡◌, List, [], ◌∷◌}
use Rattle.ppm_write.specs.Write.{Left, write_of}
use Rattle.ppm_read.specs.Read.{read_of}
use Rattle.groatpocket.specs.Seen.{no, item, SeenAt, seen_at}

-- ---- the writer: its number, how many bytes it wrote, and the bytes lent

abbrev pub write_seen : Left → SeenAt (List ℕ)
write_seen l = seen_at (no l.answer) (item l.answer) l.bytes

-- its promise: what a caller sees is what the writer's definition leaves
abbrev pub GpWriteMet : List ℕ → ℕ → ℕ → (out : List ℕ) → ℕ → ℕ → (out' : List ℕ) → Type 0
GpWriteMet pixels w h out r size out' = seen_at r size out' ≡ write_seen (write_of pixels w h out)

-- ---- the reader: its number, the width and the height, and the bytes lent

pub record ReadSeen : Type 0 where
  pub number : ℕ
  pub width : ℕ
  pub height : ℕ
  pub bytes : List ℕ

abbrev pub read_lent : ℕ → ℕ → ℕ → List ℕ → ReadSeen
read_lent n w h bs = record { number = n; width = w; height = h; bytes = bs }

-- on paper the width stands after the number, and the height last; a refusal has neither
abbrev pub read_paper : List ℕ → List ℕ → ReadSeen
read_paper [] bs = read_lent 0 0 0 bs
read_paper (n ∷ []) bs = read_lent n 0 0 bs
read_paper (n ∷ w ∷ []) bs = read_lent n w 0 bs
read_paper (n ∷ w ∷ h ∷ more) bs = read_lent n w h bs

abbrev pub read_seen : Left → ReadSeen
read_seen l = read_paper l.answer l.bytes

-- its promise: what a caller sees is what the reader's definition leaves
abbrev pub GpReadMet : (file out : List ℕ) → ℕ → ℕ → ℕ → (out' : List ℕ) → Type 0
GpReadMet file out r w h out' = read_lent r w h out' ≡ read_seen (read_of file out)
