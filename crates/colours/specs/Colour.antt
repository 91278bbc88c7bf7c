-- Colours: lists of four floats, red first, multiplied by their alpha. fine.rs, lines 34 to 49 and 153 to 165. Definitions only.
use Rattle.std.specs.Prelude.{List, [], ◌∷◌, ℕ, ◌+◌, ◌*◌, ◌/◌, ◌%◌, ◌^◌, pos, get_or, Float}
use Rattle.std.specs.Float.{nan, binary32}
use Rattle.std.specs.Float.Ieee.{of_int, add, sub, mul, div, to_unsigned}
use Rattle.float32.specs.Meaning.{clamp_of, round_of}
use Rattle.util.specs.Constants.{zero, one, byte_most}
use Rattle.lists.specs.Grid.{mapi}

-- how many values a byte has
abbrev pub byte_many : ℕ
byte_many = 256

-- the byte of x from the bit `shift` on, as a float from 0 to 1: by 1 / 255, rounded
unfoldable pub channel_of : ℕ → ℕ → Float
channel_of x shift = mul binary32 (of_int binary32 (pos (x / 2 ^ shift % byte_many))) (div binary32 one byte_most)

-- the high byte is red, the low byte alpha
unfoldable pub colour_of : ℕ → List Float
colour_of x = channel_of x 24 ∷ channel_of x 16 ∷ channel_of x 8 ∷ channel_of x 0 ∷ []

-- the colour fg, covering the part ai, over the pixel px: fg is multiplied by ai alone
unfoldable pub over_of : List Float → Float → List Float → List Float
over_of fg ai px =
    let r = mul binary32 (get_or fg 0 nan) ai in
    let g = mul binary32 (get_or fg 1 nan) ai in
    let b = mul binary32 (get_or fg 2 nan) ai in
    let a = mul binary32 (get_or fg 3 nan) ai in
    let keep = sub binary32 one a in
    add binary32 (mul binary32 (get_or px 0 nan) keep) r
    ∷ add binary32 (mul binary32 (get_or px 1 nan) keep) g
    ∷ add binary32 (mul binary32 (get_or px 2 nan) keep) b
    ∷ add binary32 (mul binary32 (get_or px 3 nan) keep) a
    ∷ []

-- the colour over each pixel, by its coverage
unfoldable pub composite_of : List Float → List Float → List (List Float) → List (List Float)
composite_of area fg rgba = mapi (λ k px. over_of fg (get_or area k nan) px) rgba

-- a channel as a byte: clamp, times 255, round, cast
unfoldable pub byte_of : Float → ℕ
byte_of v = to_unsigned 32 (round_of (mul binary32 (clamp_of v zero one) byte_most))

-- a pixel, red lowest
unfoldable pub pack_of : List Float → ℕ
pack_of px = byte_of (get_or px 0 nan) + byte_many * byte_of (get_or px 1 nan) + byte_many ^ 2 * byte_of (get_or px 2 nan) + byte_many ^ 3 * byte_of (get_or px 3 nan)
