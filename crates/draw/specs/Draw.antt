-- One call from lines to pixels: what is lent is checked, then a frame, the lists over what it left, and fine over those, each by its own definition, up to
-- the first that refuses. docs/RULES.md, "From lines to pixels". Definitions only.
use Rattle.std.specs.Prelude.{◌≡◌, List, [], ◌∷◌, ℕ, length, ℤ, Float}
use Rattle.panel.specs.Kinds.{running_of}
use Rattle.panel.specs.Checks.{first_no}
use Rattle.panel.specs.Pieces.{Pieces}
use Rattle.panel.specs.declared.kinds.Running.{Running}
use Rattle.panel.specs.Verdict.{Verdict}
use Rattle.panel.specs.Verdict.{Fine, Against}
use Rattle.frame.specs.Frame as Frame
use Rattle.pairs.specs.Pairs.{tables}
use Rattle.page_check.specs.Page.{page_checks}
use Rattle.paint.specs.Paint.{paper_of, Painted, paint_of, painted_of}
use Rattle.paint.specs.Drawn.{Drawn}
use Rattle.paint.specs.Drawn.{Done, Refused}

-- ---- the answer on paper

-- the parts: 1 to 5 are a frame's, its checks the first
abbrev pub lent_no : ℕ
lent_no = 1

-- read off a frame's paper
abbrev pub drawn_on : List ℕ → Drawn
drawn_on [] = Done (running_of 0 0)
drawn_on (n ∷ []) = Done (running_of 0 0)
drawn_on (n ∷ l ∷ []) = Done (running_of l 0)
drawn_on (n ∷ l ∷ m ∷ []) = Done (running_of l m)
drawn_on (n ∷ at ∷ item ∷ l ∷ []) = Refused at n item (running_of l 0)
drawn_on (n ∷ at ∷ item ∷ l ∷ m ∷ more) = Refused at n item (running_of l m)

-- ---- the call

-- all that was lent to be changed, as it is afterwards
pub record Out : Type 0 where
  pub paper : List ℕ
  pub backs : List ℤ
  pub stored : List ℕ
  pub tally : List ℕ
  pub refs : List ℕ
  pub pieces : Pieces
  pub words : List ℕ
  pub pixels : List ℕ

-- what a frame left, and what was painted after it
abbrev pub with_paint : Frame.Out → Painted → Out
with_paint o q =
    record { paper = q.paper; backs = o.backs; stored = o.stored; tally = o.tally; refs = o.refs; pieces = o.pieces; words = q.words; pixels = q.pixels }

-- a frame that refused ends the call; a done one is painted
abbrev pub after_frame : Drawn → (Drawn → Painted) → (Running → Painted) → Painted
after_frame (Done s) ends next = next s
after_frame (Refused at n item s) ends next = ends (Refused at n item s)

-- a check that fails is told as a frame's own
abbrev pub unless_no : Verdict → (Drawn → Out) → Out → Out
unless_no Fine ends next = next
unless_no (Against n) ends next = ends (Refused lent_no n 0 (running_of 0 0))

abbrev pub out_of : Drawn → List ℤ → List ℕ → List ℕ → List ℕ → Pieces → List ℕ → List ℕ → Out
out_of d bs ts ks rs p ws px = record { paper = paper_of d; backs = bs; stored = ts; tally = ks; refs = rs; pieces = p; words = ws; pixels = px }

-- a frame, with its own check of the paths, and what follows
unfoldable pub framed_of : (nos : List ℕ) (coords : List Float) (paths paints : List ℕ) (backs : List ℤ) (stored tally refs : List ℕ) (p : Pieces)
    (width cols rows : ℕ) (words pixels : List ℕ) → Out
framed_of nos coords paths paints backs stored tally refs p width cols rows words pixels =
    let o = Frame.frame_of nos coords paths backs stored tally refs p in
    with_paint o
    (after_frame (drawn_on o.paper) (λ d. paint_of d words pixels)
    (λ s. painted_of s (tables paths paints o.backs o.stored o.tally) o.pieces.segments width cols rows words pixels))

-- a refusal of the checks changes nothing
unfoldable pub draw_of : (nos : List ℕ) (coords : List Float) (paths paints : List ℕ) (backs : List ℤ) (stored tally refs : List ℕ) (p : Pieces)
    (width cols rows : ℕ) (words pixels : List ℕ) → Out
draw_of nos coords paths paints backs stored tally refs p width cols rows words pixels =
    unless_no
    (first_no
    (Frame.lent_checks (length nos) (length coords) (length backs) (length stored) (length tally) (length refs) (length p.segments) (length p.tags)))
    (λ d. out_of d backs stored tally refs p words pixels)
    (unless_no (first_no (page_checks (length paths) (length paints) (length stored) width cols rows (length pixels)))
    (λ d. out_of d backs stored tally refs p words pixels)
    (framed_of nos coords paths paints backs stored tally refs p width cols rows words pixels))

-- the call's promise: the answer r, and all that was lent to be changed as it is afterwards, are these
abbrev pub DrawMet : (nos : List ℕ) (coords : List Float) (paths paints : List ℕ) (bs : List ℤ) (ts ks rs : List ℕ) (p : Pieces)
    (width cols rows : ℕ) (ws px : List ℕ) → Drawn → (bs' : List ℤ) (ts' ks' rs' : List ℕ) (p' : Pieces) (ws' px' : List ℕ) → Type 0
DrawMet nos coords paths paints bs ts ks rs p width cols rows ws px r bs' ts' ks' rs' p' ws' px' =
    out_of r bs' ts' ks' rs' p' ws' px' ≡ draw_of nos coords paths paints bs ts ks rs p width cols rows ws px
