-- Which headers are read: "P6", white space, a width, white space, a height, white space, 255, and one
-- byte of white space, after which the raster starts. Before that byte, what stands from a "#" through
-- the next newline or carriage return is a comment and is passed over, in the middle of a number too.
-- Netpbm's pages ppm(5) and pbm(5) have it so. Definitions only.
use Rattle.std.specs.Prelude.{ℕ, ◌+◌, ◌*◌, List, [], ◌∷◌, Bool, true, false, cond, ◌&&◌, eqb, length, drop}
use Rattle.ppm_write.specs.Bytes.{magic, ten, largest}
use Rattle.ppm_read.specs.Bytes.{kind_of}
use Rattle.ppm_read.specs.declared.Kind.{Kind}
use Rattle.ppm_read.specs.declared.Kind.TheVariants.{Hash, Line, Blank, Digit, Other}
use Rattle.ppm_read.specs.declared.Stage.{Stage}
use Rattle.ppm_read.specs.declared.Stage.TheVariants.{Start, Gap, Digits}
use Rattle.ppm_read.specs.declared.Next.{Next}
use Rattle.ppm_read.specs.declared.Next.TheVariants.{To, Ends, Bad}

-- within a comment: its line's end leads back
abbrev pub in_comment : Kind → Stage → Next
in_comment Hash s = To true s
in_comment Line s = To false s
in_comment Blank s = To true s
in_comment (Digit d) s = To true s
in_comment Other s = To true s

-- outside: white space before a number (Start: none yet; Gap: some), then its digits
abbrev pub outside : Kind → Stage → Next
outside Hash s = To true s
outside Line Start = To false Gap
outside Line Gap = To false Gap
outside Line (Digits n) = Ends n
outside Blank Start = To false Gap
outside Blank Gap = To false Gap
outside Blank (Digits n) = Ends n
outside (Digit d) Start = Bad
outside (Digit d) Gap = To false (Digits d)
outside (Digit d) (Digits n) = To false (Digits (n * ten + d))
outside Other s = Bad

abbrev pub step_of : Bool → Stage → Kind → Next
step_of true s k = in_comment k s
step_of false s k = outside k s

-- a number that was read, and the bytes from the white space after it on; or none
pub data Got : Type 0 where
  got : ℕ → List ℕ → Got
  none : Got

abbrev pub after : Next → List ℕ → (Bool → Stage → Got) → Got
after (To c s) here go = go c s
after (Ends n) here go = got n here
after Bad here go = none

-- white space and a number, from the front of the bytes
unfoldable pub number_from : Bool → Stage → List ℕ → Got
number_from c s [] = none
number_from c s (b ∷ bs) = after (step_of c s (kind_of b)) (b ∷ bs) (λ c' s'. number_from c' s' bs)

-- a header that was read: width, height and the bytes after it; or none
pub data Header : Type 0 where
  size : ℕ → ℕ → List ℕ → Header
  no_header : Header

abbrev pub on_number : Got → (ℕ → List ℕ → Header) → Header
on_number (got n rest) go = go n rest
on_number none go = no_header

abbrev pub then_number : List ℕ → (ℕ → List ℕ → Header) → Header
then_number bs go = on_number (number_from false Start bs) go

abbrev pub starts_with : List ℕ → List ℕ → Bool
starts_with [] bs = true
starts_with (x ∷ xs) [] = false
starts_with (x ∷ xs) (b ∷ bs) = eqb b x && starts_with xs bs

unfoldable pub header_of : List ℕ → Header
header_of file =
    cond (starts_with magic file)
    (then_number (drop (length magic) file) λ w r.
    then_number r λ h r.
    then_number r λ most r.
    cond (eqb most largest) (size w h (drop 1 r)) no_header)
    no_header
