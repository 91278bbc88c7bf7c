-- The bytes of a P6 header, by name. Definitions only.
use Rattle.std.specs.Prelude.{ℕ, List, [], ◌∷◌}

-- "P6"
abbrev pub magic : List ℕ
magic = 80 ∷ 54 ∷ []

abbrev pub newline : ℕ
newline = 10

abbrev pub blank : ℕ
blank = 32

-- "0", the first of the ten digits, and how many there are
abbrev pub zero_byte : ℕ
zero_byte = 48

abbrev pub ten : ℕ
ten = 10

-- the largest value of a colour's byte, which the header names
abbrev pub largest : ℕ
largest = 255

-- how many numbers a byte has
abbrev pub byte_range : ℕ
byte_range = 256

-- bytes of the file to a pixel
abbrev pub pixel_bytes : ℕ
pixel_bytes = 3

-- those of a header that aren't digits of its size: "P6", four bytes of white space, "255"
abbrev pub fixed_bytes : ℕ
fixed_bytes = 9
