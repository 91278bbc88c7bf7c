-- Readings, and what they draw. Assumes nothing.
use mathlib.Core.Path.{◌≡◌, refl}
use mathlib.Core.Bool.{false}
use mathlib.Core.List.{List, [], ◌∷◌}
use Prim.Native.Nat.{ℕ}
use lib.Ieee.{Float, binary32, of_bits, add, mul, round}
use Rattle.curve.specs.Halves.{left_of, right_of, line_of, lines_of}
use Rattle.svg_path.specs.Chars.{is_move, is_quad, is_close}
use Rattle.svg_path.specs.Grammar.{Num, num, cmd}
use Rattle.svg_outline.specs.Outline.{placed, groups, kind_of, relative_of, drawn_of, outline_of}

-- so many thousandths, and two and four of them
abbrev at : ℕ → ℕ → List Num
at x y = num false x ∷ num false y ∷ []

abbrev by : ℕ → ℕ → ℕ → ℕ → List Num
by a b x y = num false a ∷ num false b ∷ num false x ∷ num false y ∷ []

-- 0, a quarter, three quarters, 1, 2 and 3
abbrev f0 : Float
f0 = of_bits binary32 0

abbrev quarter : Float
quarter = of_bits binary32 0x3e80_0000

abbrev quarters : Float
quarters = of_bits binary32 0x3f40_0000

abbrev f1 : Float
f1 = of_bits binary32 0x3f80_0000

abbrev f2 : Float
f2 = of_bits binary32 0x4000_0000

abbrev f3 : Float
f3 = of_bits binary32 0x4040_0000

-- 'M0 0l1 1': the line, and the line back
left_open : outline_of 0 (cmd 77 (at 0 0 ∷ []) ∷ cmd 108 (at 1000 1000 ∷ []) ∷ []) ≡ f0 ∷ f0 ∷ f1 ∷ f1 ∷ f1 ∷ f1 ∷ f0 ∷ f0 ∷ []
unfolding drawn_of groups placed kind_of relative_of line_of is_move is_quad is_close add mul round of_bits
left_open = refl

-- 'M0 0Q0 1 1 1z' at depth 1
halved_once : outline_of 1 (cmd 77 (at 0 0 ∷ []) ∷ cmd 81 (by 0 1000 1000 1000 ∷ []) ∷ cmd 122 [] ∷ [])
    ≡ f0 ∷ f0 ∷ quarter ∷ quarters ∷ quarter ∷ quarters ∷ f1 ∷ f1 ∷ f1 ∷ f1 ∷ f0 ∷ f0 ∷ []
unfolding drawn_of groups placed kind_of relative_of line_of lines_of left_of right_of is_move is_quad is_close add mul round of_bits
halved_once = refl

-- 'M1 1q1 1 2 0': both points count from the curve's start
from_the_start : outline_of 0 (cmd 77 (at 1000 1000 ∷ []) ∷ cmd 113 (by 1000 1000 2000 0 ∷ []) ∷ []) ≡ f1 ∷ f1 ∷ f3 ∷ f1 ∷ f3 ∷ f1 ∷ f1 ∷ f1 ∷ []
unfolding drawn_of groups placed kind_of relative_of line_of lines_of is_move is_quad is_close add mul round of_bits
from_the_start = refl

-- 'M1 2ZZ': two lines of no length
closed_twice : outline_of 0 (cmd 77 (at 1000 2000 ∷ []) ∷ cmd 90 [] ∷ cmd 90 [] ∷ []) ≡ f1 ∷ f2 ∷ f1 ∷ f2 ∷ f1 ∷ f2 ∷ f1 ∷ f2 ∷ []
unfolding drawn_of groups placed kind_of relative_of line_of is_move is_quad is_close add mul round of_bits
closed_twice = refl

-- 'M0 0H1m1 1V0': closed by the next outline, which begins from the point last drawn
closed_by_the_next : outline_of 0 (cmd 77 (at 0 0 ∷ []) ∷ cmd 72 ((num false 1000 ∷ []) ∷ []) ∷ cmd 109 (at 1000 1000 ∷ []) ∷ cmd 86 ((num false 0 ∷ []) ∷ []) ∷ [])
    ≡ f0 ∷ f0 ∷ f1 ∷ f0 ∷ f1 ∷ f0 ∷ f0 ∷ f0 ∷ f2 ∷ f1 ∷ f2 ∷ f0 ∷ f2 ∷ f0 ∷ f2 ∷ f1 ∷ []
unfolding drawn_of groups placed kind_of relative_of line_of is_move is_quad is_close add mul round of_bits
closed_by_the_next = refl
