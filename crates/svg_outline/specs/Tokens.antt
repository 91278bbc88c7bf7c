-- What a token does: the group that it ends, and where the reading stands after it. The same over a text's tokens gives how many lines it draws.
-- Definitions only.
use Rattle.std.specs.Prelude.{Bool, false, cond, not, ◌&&◌, List, [], ◌∷◌, ℕ, ◌+◌, ◌-◌, ◌^◌, eqb, leb}
use Rattle.svg_path.specs.Chars.{is_move, is_pair, is_axis, is_quad, is_close}
use Rattle.svg_tokens.specs.declared.Token.{Token}
use Rattle.svg_tokens.specs.declared.Token.TheVariants.{End, Letter, Value}
use Rattle.svg_tokens.specs.Tokens.{Tok, letter, value}
use Rattle.svg_outline.specs.declared.steps.Kind.{Kind}
use Rattle.svg_outline.specs.declared.steps.Kind.TheVariants.{Rest, Move, Line, Across, Upright, Curved, Close}
use Rattle.svg_outline.specs.declared.steps.Gait.{Gait}
use Rattle.svg_outline.specs.Outline.{kind_of}

-- how many numbers a letter's group has
unfoldable pub size_of : ℕ → ℕ
size_of c = cond (is_pair c) 2 (cond (is_axis c) 1 (cond (is_quad c) 4 0))

-- M is L after its first pair, and m is l
unfoldable pub later_of : ℕ → ℕ
later_of c = cond (eqb c 77) 76 (cond (eqb c 109) 108 c)

abbrev pub start_of : Gait
start_of = record { letter = 0; need = 0; drawn = false }

unfoldable pub act_of : Gait → Token → Kind
act_of g (End i) = Rest
act_of g (Letter c i) = cond (is_close c) Close Rest
act_of g (Value m n i) = cond (leb g.need 1) (kind_of g.letter) Rest

unfoldable pub gait_of : Gait → Token → Gait
gait_of g (End i) = g
gait_of g (Letter c i) = record { letter = c; need = size_of c; drawn = g.drawn && not (is_close c) }
gait_of g (Value m n i) =
    cond (leb g.need 1) (record { letter = later_of g.letter; need = size_of g.letter; drawn = not (is_move g.letter) })
    (record { letter = g.letter; need = g.need - 1; drawn = g.drawn })

-- how many lines are drawn: a curve's are 2 to the power of the depth
abbrev pub many_of : Kind → Bool → ℕ → ℕ
many_of Rest drawn d = 0
many_of Move drawn d = cond drawn 1 0
many_of Line drawn d = 1
many_of Across drawn d = 1
many_of Upright drawn d = 1
many_of Curved drawn d = 2 ^ d
many_of Close drawn d = 1

-- a token of a text, at no place
abbrev pub token_of : Tok → Token
token_of (letter c) = Letter c 0
token_of (value m n) = Value m n 0

unfoldable pub count_of : ℕ → Gait → List Tok → ℕ
count_of d g [] = cond g.drawn 1 0
count_of d g (t ∷ ts) = many_of (act_of g (token_of t)) g.drawn d + count_of d (gait_of g (token_of t)) ts
