-- The tokens of a text: its letters, and its numbers with their values. Definitions only.
use Rattle.std.specs.Prelude.{ℕ, zero, suc, ◌+◌, ◌-◌, ◌*◌, ◌^◌, ◌≤◌, ◌<◌, ◌≡◌, Bool, false, cond, ◌||◌, List, [], ◌∷◌, eqb, leb, drop}
use Rattle.svg_path.specs.Chars.{whole_most, part_most, is_digit, is_sign}
use Rattle.svg_tokens.specs.declared.Number.{Number}
use Rattle.svg_tokens.specs.declared.Token.{Token}
use Rattle.svg_tokens.specs.declared.Token.TheVariants.{End, Letter, Value}
use Rattle.svg_tokens.specs.Run.{run_of}

-- a letter; or a number: whether it has a minus, and its size in thousandths
pub data Tok : Type 0 where
  letter : ℕ → Tok
  value : Bool → ℕ → Tok

-- what a number begins with: a digit, a sign or a point
unfoldable pub begins_of : ℕ → Bool
begins_of c = is_digit c || is_sign c || eqb c 46

unfoldable pub signs_of : ℕ → ℕ
signs_of c = cond (is_sign c) 1 0

unfoldable pub point_at : List ℕ → Bool
point_at [] = false
point_at (c ∷ s) = eqb c 46

abbrev pub head_of : List ℕ → ℕ
head_of [] = 0
head_of (c ∷ s) = c

-- a number of k bytes before a point, of which n is the value; and the digits after the point, or none
unfoldable pub part_of : Bool → ℕ → ℕ → List ℕ → Number
part_of m n k s =
    let r = run_of part_most 0 0 (drop 1 s) in
    cond (point_at s) (record { minus = m; n = n * 1000 + r.n * 10 ^ (part_most - r.taken); taken = k + 1 + r.taken }) (record { minus = m; n = n * 1000; taken = k })

-- the number at the head of a text
unfoldable pub number_of : List ℕ → Number
number_of s =
    let k = signs_of (head_of s) in
    let w = run_of whole_most 0 0 (drop k s) in
    part_of (eqb (head_of s) 45) w.n (k + w.taken) (drop (k + w.taken) s)

-- the tokens of a text, after k bytes that belong to the token before; bytes that begin no token are gone over
unfoldable pub tokens_of : ℕ → List ℕ → List Tok
tokens_of k [] = []
tokens_of (suc k) (c ∷ s) = tokens_of k s
tokens_of zero (c ∷ s) =
    let v = number_of (c ∷ s) in
    cond (leb 65 c) (letter c ∷ tokens_of 0 s) (cond (begins_of c) (value v.minus v.n ∷ tokens_of (v.taken - 1) s) (tokens_of 0 s))

-- a token that was found in the text s, and those after it
abbrev pub rest_of : List ℕ → Token → List Tok
rest_of s (End i) = []
rest_of s (Letter c i) = letter c ∷ tokens_of 0 (drop i s)
rest_of s (Value m n i) = value m n ∷ tokens_of 0 (drop i s)

-- the place after a token
abbrev pub place_of : Token → ℕ
place_of (End i) = i
place_of (Letter c i) = i
place_of (Value m n i) = i

-- it lies within the text, and past where the token was looked for; at the text's end there may be none
abbrev pub Within : ℕ → ℕ → Token → Type 0
Within from n (End i) = i ≡ n
Within from n (Letter c i) = (from < i) × (i ≤ n)
Within from n (Value m v i) = (from < i) × (i ≤ n)
