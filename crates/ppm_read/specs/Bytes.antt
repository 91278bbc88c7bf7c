-- What a byte is to a P6 header, by the manual pages ppm(5) and pbm(5) of Netpbm. Definitions only.
use Rattle.std.specs.Prelude.{ℕ, ◌+◌, ◌-◌, Bool, cond, ◌&&◌, ◌||◌, leb, ltb, eqb}
use Rattle.ppm_write.specs.Bytes.{newline, blank, zero_byte, ten}
use Rattle.ppm_read.specs.declared.Kind.{Kind}
use Rattle.ppm_read.specs.declared.Kind.TheVariants.{Hash, Line, Blank, Digit, Other}

-- "#", which starts a comment
abbrev pub hash : ℕ
hash = 35

abbrev pub tab : ℕ
tab = 9

abbrev pub vertical_tab : ℕ
vertical_tab = 11

abbrev pub form_feed : ℕ
form_feed = 12

abbrev pub return : ℕ
return = 13

-- what ends a comment: a newline, or a carriage return
abbrev pub is_line : ℕ → Bool
is_line b = eqb b newline || eqb b return

-- the other white space
abbrev pub is_blank : ℕ → Bool
is_blank b = eqb b blank || eqb b tab || eqb b vertical_tab || eqb b form_feed

abbrev pub is_white : ℕ → Bool
is_white b = is_line b || is_blank b

abbrev pub is_digit : ℕ → Bool
is_digit b = leb zero_byte b && ltb b (zero_byte + ten)

-- starts a comment
abbrev pub is_hash : ℕ → Bool
is_hash b = eqb b hash

unfoldable pub kind_of : ℕ → Kind
kind_of b =
    cond (is_hash b) Hash
    (cond (is_line b) Line (cond (is_blank b) Blank (cond (is_digit b) (Digit (b - zero_byte)) Other)))
