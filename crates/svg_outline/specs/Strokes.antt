-- The lines of a text, token by token: each group as specs/Outline.antt draws it, the lines one after another. Definitions only.
use Rattle.std.specs.Prelude.{Bool, cond, List, [], ◌∷◌, ◌++◌, ℕ, ◌+◌, length, Float}
use Rattle.curve.specs.Halves.{line_of}
use Rattle.svg_path.specs.Grammar.{num}
use Rattle.svg_tokens.specs.declared.Token.{Token}
use Rattle.svg_tokens.specs.declared.Token.TheVariants.{End, Letter, Value}
use Rattle.svg_tokens.specs.Tokens.{Tok, tokens_of}
use Rattle.svg_outline.specs.declared.steps.Kind.{Kind}
use Rattle.svg_outline.specs.declared.steps.Kind.TheVariants.{Rest, Move, Line, Across, Upright, Curved, Close}
use Rattle.svg_outline.specs.declared.steps.Gait.{Gait}
use Rattle.svg_outline.specs.declared.strokes.Hand.{Hand}
use Rattle.svg_outline.specs.Outline.{Pen, Drawn, float_of, zero_f, group, relative_of}
use Rattle.svg_outline.specs.Tokens.{act_of, gait_of, start_of, token_of}

-- at 0, 0, with no numbers yet
abbrev pub origin_of : Hand
origin_of = record { x = zero_f; y = zero_f; x0 = zero_f; y0 = zero_f; a = zero_f; b = zero_f; c = zero_f; e = zero_f; at = 0 }

-- a number joins the last four
unfoldable pub held_of : Hand → Token → Hand
held_of h (End i) = h
held_of h (Letter c i) = h
held_of h (Value m n i) =
    record { x = h.x; y = h.y; x0 = h.x0; y0 = h.y0; a = h.b; b = h.c; c = h.e; e = float_of (num m n); at = h.at }

abbrev pub hand_to : Hand → Float → Float → Float → Float → ℕ → Hand
hand_to h x y x0 y0 at = record { x = x; y = y; x0 = x0; y0 = y0; a = h.a; b = h.b; c = h.c; e = h.e; at = at }

abbrev pub pen_of : Hand → Bool → Pen
pen_of h drawn = record { x = h.x; y = h.y; x0 = h.x0; y0 = h.y0; drawing = drawn }

-- the numbers of a group are the last that were read
abbrev pub numbers_of : Kind → Hand → List Float
numbers_of Rest h = []
numbers_of Move h = h.c ∷ h.e ∷ []
numbers_of Line h = h.c ∷ h.e ∷ []
numbers_of Across h = h.e ∷ []
numbers_of Upright h = h.e ∷ []
numbers_of Curved h = h.a ∷ h.b ∷ h.c ∷ h.e ∷ []
numbers_of Close h = []

abbrev pub drawn_at : Kind → Bool → Bool → ℕ → Hand → Drawn
drawn_at k rel drawn d h = group k rel d (pen_of h drawn) (numbers_of k h)

-- its lines, and the hand after them
abbrev pub lines_at : Kind → Bool → Bool → ℕ → Hand → List Float
lines_at k rel drawn d h = (drawn_at k rel drawn d h).lines

abbrev pub stroke_of : Kind → Bool → Bool → ℕ → Hand → Hand
stroke_of k rel drawn d h =
    let g = drawn_at k rel drawn d h in
    hand_to h g.pen.x g.pen.y g.pen.x0 g.pen.y0 (h.at + length g.lines)

-- an outline that has drawn is closed
abbrev pub shut_lines : Bool → Hand → List Float
shut_lines drawn h = cond drawn (line_of h.x h.y h.x0 h.y0) []

-- a token's lines, and the hand after them
unfoldable pub turn_lines : ℕ → Gait → Hand → Token → List Float
turn_lines d g h t = lines_at (act_of g t) (relative_of g.letter) g.drawn d (held_of h t)

unfoldable pub turn_hand : ℕ → Gait → Hand → Token → Hand
turn_hand d g h t = stroke_of (act_of g t) (relative_of g.letter) g.drawn d (held_of h t)

-- the lines of tokens to the end
unfoldable pub lines_from : ℕ → Gait → Hand → List Tok → List Float
lines_from d g h [] = shut_lines g.drawn h
lines_from d g h (t ∷ ts) = turn_lines d g h (token_of t) ++ lines_from d (gait_of g (token_of t)) (turn_hand d g h (token_of t)) ts

-- the lines of a text
abbrev pub text_lines : ℕ → List ℕ → List Float
text_lines d s = lines_from d start_of origin_of (tokens_of 0 s)
