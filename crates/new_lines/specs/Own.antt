-- The new lines of a recount: what each comes to, all of them in order, and the answer after them. docs/RULES.md, "A recount". Definitions only.
use Rattle.std.specs.Prelude.{cond, List, [], ◌∷◌, ℕ, leb, eqb, length, get_or, Float}
use Rattle.lists.specs.Run.{Step, Ran, done, refused}
use Rattle.panel.specs.Limits.{most_lines}
use Rattle.panel.specs.Refusals.{done_no, line_number, coordinate, no_such}
use Rattle.panel.specs.Paths.{path_at}
use Rattle.panel.specs.Lines.{line_at}
use Rattle.walk.specs.Lent.{reached_of, walked_of}
use Rattle.panel.specs.declared.lines.LineEnds.{LineEnds}
use Rattle.walk.specs.Walked.{Walked}
use Rattle.acts.specs.Acts.{St}
use Rattle.acts.specs.Line.{halt_if, Refusal, batch_of}
use Rattle.walked_lines.specs.Line.{walked_step}
use Rattle.path_count.specs.Count.{Told, told_of}
use Rattle.new_lines.specs.Recounted.{Recounted}
use Rattle.new_lines.specs.Recounted.{Done, Refused}

-- ---- a new line

-- what becomes of a line with path number q and these ends, where path p is counted again: 6, then 7 for another path, then the skip rules
unfoldable pub own_walk : (p : ℕ) (paths : List ℕ) (q : ℕ) → LineEnds → Walked
own_walk p paths q e =
    cond (reached_of e.p0 e.p1)
    (cond (eqb q p) (walked_of e.p0 e.p1 (path_at paths p)) (Walked.Refused no_such))
    (Walked.Refused coordinate)

-- the line at place k of those lent, as line number l: 5, then 6, 7 and the skip rules, then its acts as counting has them
unfoldable pub own_step : (p : ℕ) (nos : List ℕ) (coords : List Float) (paths : List ℕ) (room l k : ℕ) → St → Step St ℕ
own_step p nos coords paths room l k s =
    halt_if (leb most_lines l) line_number (walked_step room l (own_walk p paths (get_or nos k 0) (line_at coords k)) s)

-- all lines lent, in order
abbrev pub lines_ran : (p : ℕ) (line_nos nos : List ℕ) (coords : List Float) (paths : List ℕ) (room : ℕ) → St → Ran St Refusal
lines_ran p line_nos nos coords paths room s = batch_of (λ k. own_step p nos coords paths room (get_or line_nos k 0) k) 0 (length nos) s

-- ---- the answer on paper: its number, of a refusal the item's, then how many references are made

abbrev pub paper_of : Recounted → List ℕ
paper_of (Done n) = done_no ∷ n ∷ []
paper_of (Refused n item made) = n ∷ item ∷ made ∷ []

abbrev pub made_of : Recounted → ℕ
made_of (Done n) = n
made_of (Refused n item made) = made

-- after the lines: all of them, or those before the one refused, which is named by its own number
abbrev pub lines_told : List ℕ → Ran St Refusal → Told
lines_told line_nos (done s) = told_of (done_no ∷ s.made ∷ []) s
lines_told line_nos (refused s why) = told_of (why.no ∷ get_or line_nos why.line 0 ∷ s.made ∷ []) s
