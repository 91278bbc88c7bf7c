-- A text of hexadecimal words, read byte by byte. Definitions only.
use Rattle.std.specs.Prelude.{ℕ, ◌+◌, ◌-◌, ◌*◌, ◌%◌, Bool, true, false, not, cond, ◌&&◌, List, [], ◌∷◌, ltb, leb, eqb, length, set}
use Rattle.hexlist.specs.declared.scan.Scan.{Scan}

-- the digits 0 to 9 are the bytes 48 to 57, and a to f the bytes 97 to 102; 16 says that a byte is no digit
abbrev pub digit_of : ℕ → ℕ
digit_of b = cond (leb 48 b && leb b 57) (b - 48) (cond (leb 97 b && leb b 102) (b - 97 + 10) 16)

-- a scan and the words stored: the first `made` of them
pub record State : Type 0 where
  pub value : ℕ
  pub begun : Bool
  pub comment : Bool
  pub made : ℕ
  pub words : List ℕ

abbrev pub state_of : Scan → List ℕ → State
state_of s ws = record { value = s.value; begun = s.begun; comment = s.comment; made = s.made; words = ws }

abbrev pub start_of : Scan
start_of = record { value = 0; begun = false; comment = false; made = 0 }

-- in a comment only a line's end, 10, counts
abbrev pub pass : ℕ → State → State
pass b s = record { value = s.value; begun = s.begun; comment = not (eqb b 10); made = s.made; words = s.words }

-- a digit: of the digits before it the last seven are kept
abbrev pub digit : ℕ → State → State
digit d s = record { value = s.value % 268435456 * 16 + d; begun = true; comment = false; made = s.made; words = s.words }

-- any other byte ends the word begun, which is stored while there is room; # is 35
abbrev pub finish : ℕ → State → State
finish b s =
    cond (s.begun && ltb s.made (length s.words))
    (record { value = 0; begun = false; comment = eqb b 35; made = s.made + 1; words = set s.words s.made s.value })
    (record { value = 0; begun = false; comment = eqb b 35; made = s.made; words = s.words })

unfoldable pub take_of : ℕ → State → State
take_of b s = cond s.comment (pass b s) (cond (ltb (digit_of b) 16) (digit (digit_of b) s) (finish b s))

-- a text, from its first byte on
unfoldable pub feed_of : List ℕ → State → State
unfolding take_of
feed_of [] s = s
feed_of (b ∷ text) s = feed_of text (take_of b s)
