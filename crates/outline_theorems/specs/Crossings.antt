-- Sums over a path's lines, and how many of them cross from one side to the other. Definitions only.
use Rattle.std.specs.Prelude.{Bool, not, cond, ◌&&◌, List, ℕ, zero, suc, ◌+◌, eqb, get_or, Float}
use Rattle.std.specs.Float.Ieee.{le}
use Rattle.util.specs.declared.Vec2.{Vec2}
use Rattle.panel.specs.Lines.{line_at}

-- what g gives for the lines of path p among the first i, added up
unfoldable pub sum_of : (nos : List ℕ) (g : ℕ → ℕ) (p i : ℕ) → ℕ
sum_of nos g p zero = 0
sum_of nos g p (suc i) = cond (eqb (get_or nos i 0) p) (sum_of nos g p i + g i) (sum_of nos g p i)

abbrev pub start_of : List Float → ℕ → Vec2
start_of fs l = (line_at fs l).p0

abbrev pub end_of : List Float → ℕ → Vec2
end_of fs l = (line_at fs l).p1

abbrev pub one_if : Bool → ℕ
one_if t = cond t 1 0

-- how many lines of path p among the first i leave the side t: they start on it and end off it
abbrev pub leaving : (nos : List ℕ) (fs : List Float) (t : Vec2 → Bool) (p i : ℕ) → ℕ
leaving nos fs t p i = sum_of nos (λ l. one_if (t (start_of fs l) && not (t (end_of fs l)))) p i

-- and how many come to it
abbrev pub coming : (nos : List ℕ) (fs : List Float) (t : Vec2 → Bool) (p i : ℕ) → ℕ
coming nos fs t p i = sum_of nos (λ l. one_if (not (t (start_of fs l)) && t (end_of fs l))) p i

-- the side of a height: at it or above
abbrev pub at_or_above : Float → Vec2 → Bool
at_or_above h v = le v.y h
