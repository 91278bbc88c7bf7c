-- The bytes of a pixel, of a row, and of rows a stride apart. docs/RULES.md, "A picture on a screen". Definitions only.
use Rattle.std.specs.Prelude.{ℕ, zero, suc, ◌*◌, ◌/◌, ◌%◌, cond, List, [], ◌∷◌, eqb, take, drop}
use Rattle.std.proofs.lemmas.List.Edits.{sets}
use Rattle.ppm_write.specs.Bytes.{byte_range}
use Rattle.ppm_write.specs.File.{red_of, green_of, blue_of}

-- bytes to a pixel
abbrev pub bytes_each : ℕ
bytes_each = 4

-- a pixel's highest byte
abbrev pub alpha_of : ℕ → ℕ
alpha_of p = p / byte_range / byte_range / byte_range % byte_range

-- order 0: red, green, blue, alpha; else blue and red change places
abbrev pub first_of : (order p : ℕ) → ℕ
first_of order p = cond (eqb order 0) (red_of p) (blue_of p)

abbrev pub third_of : (order p : ℕ) → ℕ
third_of order p = cond (eqb order 0) (blue_of p) (red_of p)

-- the bytes of a pixel, in their order
abbrev pub pixel_of : (order p : ℕ) → List ℕ
pixel_of order p = first_of order p ∷ green_of p ∷ third_of order p ∷ alpha_of p ∷ []

-- the bytes of a row's pixels, in their order
abbrev pub row_bytes : (order : ℕ) → List ℕ → List ℕ
row_bytes order [] = []
row_bytes order (p ∷ ps) = first_of order p ∷ green_of p ∷ third_of order p ∷ alpha_of p ∷ row_bytes order ps

-- the first w pixels of row y of a screen
abbrev pub row_of : (pixels : List ℕ) → (screen w y : ℕ) → List ℕ
row_of pixels screen w y = take w (drop (y * screen) pixels)

-- n rows from row y on, each stored a stride past the one before; every other byte stays
unfoldable pub rows_of : (order : ℕ) (pixels : List ℕ) (screen w stride n y : ℕ) → List ℕ → List ℕ
rows_of order pixels screen w stride zero y out = out
rows_of order pixels screen w stride (suc n) y out =
    rows_of order pixels screen w stride n (suc y) (sets out (y * stride) (row_bytes order (row_of pixels screen w y)))
