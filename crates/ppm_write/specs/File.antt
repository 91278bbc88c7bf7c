-- The P6 file of a picture: "P6", the size in decimal, 255, then red, green and blue of each pixel,
-- rows from the top. docs/RULES.md, "A picture on paper". Definitions only.
use Rattle.std.specs.Prelude.{ℕ, zero, suc, ◌+◌, ◌/◌, ◌%◌, List, [], ◌∷◌, ◌++◌, cond, ltb}
use Rattle.ppm_write.specs.Bytes.{magic, newline, blank, zero_byte, ten, largest, byte_range}

-- the byte of a digit
abbrev pub digit : ℕ → ℕ
digit d = zero_byte + d

-- the decimal digits of n, at most k of them, with no zero in front
unfoldable pub digits_of : ℕ → ℕ → List ℕ
digits_of zero n = []
digits_of (suc k) n = cond (ltb n ten) (digit n ∷ []) (digits_of k (n / ten) ++ (digit (n % ten) ∷ []))

-- all of them: n has no more than n + 1
unfoldable pub decimal : ℕ → List ℕ
unfolding digits_of
decimal n = digits_of (suc n) n

-- a pixel's colours: red is its lowest byte; the highest, alpha, is dropped
abbrev pub red_of : ℕ → ℕ
red_of p = p % byte_range

abbrev pub green_of : ℕ → ℕ
green_of p = p / byte_range % byte_range

abbrev pub blue_of : ℕ → ℕ
blue_of p = p / byte_range / byte_range % byte_range

-- the bytes of the pixels, in their order
abbrev pub raster_of : List ℕ → List ℕ
raster_of [] = []
raster_of (p ∷ ps) = red_of p ∷ green_of p ∷ blue_of p ∷ raster_of ps

-- a number of the header, with the byte after it
abbrev pub field_of : ℕ → ℕ → List ℕ
field_of n after = decimal n ++ (after ∷ [])

-- "P6", newline, width, blank, height, newline, 255, newline
unfoldable pub head_of : ℕ → ℕ → List ℕ
head_of w h = magic ++ (newline ∷ []) ++ field_of w blank ++ field_of h newline ++ field_of largest newline

unfoldable pub file_of : List ℕ → ℕ → ℕ → List ℕ
file_of ps w h = head_of w h ++ raster_of ps
