-- The lines that a reading of path data draws: what M, L, H, V, Z and Q mean (SVG 1.1, 8.3.2 to 8.3.7), in floats. docs/RULES.md, "Outlines from SVG".
-- Definitions only.
use Rattle.std.specs.Prelude.{Bool, true, false, cond, ◌||◌, List, [], ◌∷◌, ◌++◌, map, ℕ, eqb, leb, get_or, Float}
use Rattle.std.specs.Float.{binary32}
use Rattle.std.specs.Float.Ieee.{round, add, of_bits}
use Rattle.curve.specs.Halves.{line_of, lines_of as halved}
use Rattle.svg_path.specs.Chars.{is_move, is_quad, is_close}
use Rattle.svg_path.specs.Grammar.{Num, num, Cmd, cmd}
use Rattle.svg_outline.specs.declared.steps.Kind.{Kind}
use Rattle.svg_outline.specs.declared.steps.Kind.TheVariants.{Rest, Move, Line, Across, Upright, Curved, Close}

-- how often a curve is halved, at the most
abbrev pub depth_most : ℕ
depth_most = 6

-- where the pen stands, where its outline began, and whether it has drawn since
pub record Pen : Type 0 where
  pub x : Float
  pub y : Float
  pub x0 : Float
  pub y0 : Float
  pub drawing : Bool

-- the pen after it drew, and what it drew: four floats to a line
pub record Drawn : Type 0 where
  pub pen : Pen
  pub lines : List Float

-- a number, rounded once
abbrev pub float_of : Num → Float
float_of (num m n) = round binary32 m n 1000

-- a relative one is added, and the sum rounded once
unfoldable pub placed : Bool → Float → Float → Float
placed rel base v = cond rel (add binary32 base v) v

-- back to the outline's start, by a line of no length if need be
abbrev pub back_line : Pen → List Float
back_line p = line_of p.x p.y p.x0 p.y0

-- an outline that has drawn is closed
abbrev pub closing : Pen → List Float
closing p = cond p.drawing (back_line p) []

abbrev pub to : Pen → Float → Float → List Float → Drawn
to p x y ls = record { pen = record { x = x; y = y; x0 = p.x0; y0 = p.y0; drawing = true }; lines = ls }

abbrev pub zero_f : Float
zero_f = of_bits binary32 0

-- the i-th number of a group, which the grammar has always
abbrev pub nth : List Float → ℕ → Float
nth vs i = get_or vs i zero_f

-- what one group of numbers draws. A move closes the outline before it; both points of a curve count from the curve's start
abbrev pub group : Kind → Bool → ℕ → Pen → List Float → Drawn
group Rest rel d p vs = record { pen = p; lines = [] }
group Move rel d p vs =
    let x = placed rel p.x (nth vs 0) in
    let y = placed rel p.y (nth vs 1) in
    record { pen = record { x = x; y = y; x0 = x; y0 = y; drawing = false }; lines = closing p }
group Line rel d p vs =
    let x = placed rel p.x (nth vs 0) in
    let y = placed rel p.y (nth vs 1) in
    to p x y (line_of p.x p.y x y)
group Across rel d p vs = let x = placed rel p.x (nth vs 0) in to p x p.y (line_of p.x p.y x p.y)
group Upright rel d p vs = let y = placed rel p.y (nth vs 0) in to p p.x y (line_of p.x p.y p.x y)
group Curved rel d p vs =
    let x1 = placed rel p.x (nth vs 0) in
    let y1 = placed rel p.y (nth vs 1) in
    let x = placed rel p.x (nth vs 2) in
    let y = placed rel p.y (nth vs 3) in
    to p x y (halved d (record { x0 = p.x; y0 = p.y; x1 = x1; y1 = y1; x2 = x; y2 = y }))
group Close rel d p vs = record { pen = record { x = p.x0; y = p.y0; x0 = p.x0; y0 = p.y0; drawing = false }; lines = back_line p }

-- after a move's first pair the pairs are lines
abbrev pub after : Kind → Kind
after Rest = Rest
after Move = Line
after Line = Line
after Across = Across
after Upright = Upright
after Curved = Curved
after Close = Close

-- a letter's groups, one after another
unfoldable pub groups : Kind → Bool → ℕ → Pen → List (List Num) → Drawn
groups k rel d p [] = record { pen = p; lines = [] }
groups k rel d p (vs ∷ gs) =
    let g = group k rel d p (map float_of vs) in
    let h = groups (after k) rel d g.pen gs in
    record { pen = h.pen; lines = g.lines ++ h.lines }

unfoldable pub kind_of : ℕ → Kind
kind_of c =
    cond (is_move c) Move
    (cond (eqb c 76 || eqb c 108) Line
    (cond (eqb c 72 || eqb c 104) Across
    (cond (eqb c 86 || eqb c 118) Upright
    (cond (is_quad c) Curved (cond (is_close c) Close Rest)))))

-- a small letter is relative
unfoldable pub relative_of : ℕ → Bool
relative_of c = leb 97 c

-- Z has no numbers, and closes once
abbrev pub with_close : Bool → List (List Num) → List (List Num)
with_close true gs = [] ∷ []
with_close false gs = gs

abbrev pub command : ℕ → ℕ → Pen → List (List Num) → Drawn
command c d p gs = groups (kind_of c) (relative_of c) d p (with_close (is_close c) gs)

unfoldable pub drawn_of : ℕ → Pen → List Cmd → List Float
drawn_of d p [] = closing p
drawn_of d p (cmd c gs ∷ ks) = let g = command c d p gs in g.lines ++ drawn_of d g.pen ks

abbrev pub first_pen : Pen
first_pen = record { x = zero_f; y = zero_f; x0 = zero_f; y0 = zero_f; drawing = false }

-- the lines of a reading, at a depth: the pen starts at 0, 0, so that a first m is absolute
abbrev pub outline_of : ℕ → List Cmd → List Float
outline_of d ks = drawn_of d first_pen ks
