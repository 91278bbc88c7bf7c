-- A path's lines, in order, and the outlines that they make: by looking from line to line, with no working room. docs/RULES.md, "Closed outlines". Definitions only.
use Rattle.std.specs.Prelude.{Bool, not, ◌&&◌, cond, List, ℕ, zero, suc, ◌+◌, ◌-◌, ltb, eqb, length, get_or, Float}
use Rattle.std.specs.Float.{binary32}
use Rattle.std.specs.Float.Ieee.{eq, to_bits}
use Rattle.util.specs.declared.Vec2.{Vec2}
use Rattle.panel.specs.Lines.{line_at}
use Rattle.meeting.specs.First.{first_of, some_below_word}

-- two floats that are the same bit for bit. A NaN is the same as nothing, since it equals nothing; +0 equals -0, and their bits differ
unfoldable pub same_bits : Float → Float → Bool
same_bits x y = eq x y && eqb (to_bits binary32 x) (to_bits binary32 y)

unfoldable pub same_point : Vec2 → Vec2 → Bool
same_point p q = same_bits p.x q.x && same_bits p.y q.y

-- line k ends where line l starts
unfoldable pub meets : List Float → (k l : ℕ) → Bool
meets fs k l = same_point (line_at fs k).p1 (line_at fs l).p0

-- the last of the first i lines that is of path p, and 1; 0 where none is
unfoldable pub last_of : (nos : List ℕ) (p i : ℕ) → ℕ
last_of nos p zero = 0
last_of nos p (suc i) = cond (eqb (get_or nos i 0) p) (suc i) (last_of nos p i)

-- the line before l of the same path, and 1; 0 where there is none
abbrev pub before : (nos : List ℕ) → ℕ → ℕ
before nos l = last_of nos (get_or nos l 0) l

-- a line, told as one more and none as 0, ends where line l starts
abbrev pub reaches : List Float → (last l : ℕ) → Bool
reaches fs last l = ltb 0 last && meets fs (last - 1) l

-- line l starts where its path's line before it ended: it goes on with that line's outline. Else it begins a new one
abbrev pub goes_on : (nos : List ℕ) (fs : List Float) → ℕ → Bool
goes_on nos fs l = reaches fs (before nos l) l

-- the first line of line l's outline: from line to line back, at most n times, while each goes on
unfoldable pub back_from : (nos : List ℕ) (fs : List Float) (n l : ℕ) → ℕ
back_from nos fs zero l = l
back_from nos fs (suc n) l = cond (goes_on nos fs l) (back_from nos fs n (before nos l - 1)) l

abbrev pub head_of : (nos : List ℕ) (fs : List Float) → ℕ → ℕ
head_of nos fs l = back_from nos fs l l

-- line k goes on with line l's outline, right after it
abbrev pub follows : (nos : List ℕ) (fs : List Float) (l k : ℕ) → Bool
follows nos fs l k = eqb (before nos k) (l + 1) && goes_on nos fs k

-- an outline stands open after line l: no line goes on with it, and it doesn't end where it began
unfoldable pub left_open : (nos : List ℕ) (fs : List Float) → ℕ → Bool
left_open nos fs l = not (some_below_word (follows nos fs l) (length nos)) && not (meets fs l (head_of nos fs l))

-- the first such line; the number of lines where there is none
unfoldable pub first_open : (nos : List ℕ) (fs : List Float) → ℕ
first_open nos fs = first_of (left_open nos fs) (length nos)
