-- The new lines of a recount, and the lists that they stand in. Definitions only.
use Rattle.std.specs.Prelude.{◌≡◌, Bool, not, List, [], ◌∷◌, ◌++◌, ℕ, ◌*◌, eqb, length, get_or, replicate, Float}
use Rattle.std.specs.Float.{nan}
use Rattle.lists.specs.Run.{sift}
use Rattle.lists.specs.Sums.{from}
use Rattle.lists.specs.Tally.{slices, zeros}
use Rattle.panel.specs.Widths.{line_floats}
use Rattle.panel.specs.Lines.{line_at}
use Rattle.panel.specs.declared.lines.LineEnds.{LineEnds}
use Rattle.acts.specs.Acts.{packed}
use Rattle.theorems.specs.Drawn.{Drawn, drawn_at, drawn, walk_of, acts_by, is_of, of_path}
use Rattle.theorems.specs.Events.{Event, events_in, tiles_ev}

-- the lines of a list that are of other paths than p, in order
abbrev pub of_others : ℕ → List Drawn → List Drawn
of_others p ds = sift (λ d. not (is_of p d)) ds

-- a list of b lines is an old list of a lines with path p's lines replaced: its lines of that path are the new ones, in order, and its other
-- lines are the old list's others, in order
pub record Replaced (p : ℕ) (nos_o : List ℕ) (coords_o : List Float) (a : ℕ) (nos_n : List ℕ) (coords_n : List Float) (nos_f : List ℕ) (coords_f : List Float) (b : ℕ) : Type 0 where
  pub own : of_path p (drawn nos_f coords_f b) ≡ drawn nos_n coords_n (length nos_n)
  pub others : of_others p (drawn nos_f coords_f b) ≡ of_others p (drawn nos_o coords_o a)

module _ (line_nos nos : List ℕ) (coords : List Float) (paths : List ℕ) where
  -- the references of the new line at place k, by its own number
  abbrev pub own_events_at : ℕ → List Event
  own_events_at k = events_in (get_or line_nos k 0) (acts_by (walk_of paths (drawn_at nos coords k)))

  abbrev pub own_events : List ℕ → List Event
  own_events [] = []
  own_events (k ∷ ks) = own_events_at k ++ own_events ks

-- the numbers of a list's lines of path p, in order
abbrev pub numbers_of : ℕ → List ℕ → ℕ → List ℕ
numbers_of p nos b = sift (λ l. eqb (get_or nos l 0) p) (from 0 b)

-- ---- references apart from memory: what each is of, and its slice number

pub record Ref : Type 0 where
  pub event : Event
  pub slice : ℕ

abbrev pub paired : List Event → List ℕ → List Ref
paired [] ks = []
paired (e ∷ es) [] = []
paired (e ∷ es) (k ∷ ks) = record { event = e; slice = k } ∷ paired es ks

-- the references of events, where the tiles' counts are c before them
abbrev pub refs_from : List ℕ → List Event → List Ref
refs_from c es = paired es (slices c (tiles_ev es))

-- as they stand in the words lent
abbrev pub words_of : List Ref → List ℕ
words_of [] = []
words_of (r ∷ rs) = r.event.line ∷ packed r.slice r.event.step ∷ words_of rs

-- whether a reference's line is of path p
abbrev pub of_lines : ℕ → List ℕ → Ref → Bool
of_lines p nos r = eqb (get_or nos r.event.line 0) p

-- ---- a new line as if it were lent at the place of its number: path numbers and coordinates whose line l is line k of those lent

abbrev pub lent_nos : List ℕ → (k l : ℕ) → List ℕ
lent_nos nos k l = zeros l ++ (get_or nos k 0 ∷ [])

abbrev pub four_of : LineEnds → List Float
four_of e = e.p0.x ∷ e.p0.y ∷ e.p1.x ∷ e.p1.y ∷ []

abbrev pub lent_coords : List Float → (k l : ℕ) → List Float
lent_coords coords k l = replicate (l * line_floats) nan ++ four_of (line_at coords k)
