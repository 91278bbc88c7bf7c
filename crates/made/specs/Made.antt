-- Whether our lines make a reference, by its line and its step; its tile, and how many steps of the line's clipped walk stand before it. Definitions only.
use Rattle.std.specs.Prelude.{cond, ◌&&◌, List, ℕ, ◌-◌, leb, ltb, length, Float}
use Rattle.exact.specs.Reach.{Starts}
use Rattle.walk.specs.Step.{Boxed}
use Rattle.walk.specs.Lent.{walk_at}
use Rattle.walk.specs.Stepped.{Step}
use Rattle.walk.specs.Stepped.{Tile, Refused as StepRefused}
use Rattle.walk.specs.Walked.{Walked}
use Rattle.walk.specs.Walked.{Refused, Skipped, Line}
use Rattle.acts.specs.Acts.{Hit, on, off}
use Rattle.acts.specs.Line.{Plan}
use Rattle.walked_lines.specs.Line.{plan_of}
use Rattle.made.specs.MadeAt.{Made}
use Rattle.made.specs.MadeAt.{At, Not}

-- a step that falls on a tile, with so many before it
abbrev pub hit_made : ℕ → Hit → Made
hit_made n (on t x) = At n t
hit_made n off = Not

-- step k of a clipped walk, from imin up to imax
unfoldable pub plan_made : Plan → ℕ → Made
plan_made p k = cond (leb p.imin k && ltb k p.imax) (hit_made (k - p.imin) (p.hit k)) Not

-- of a line as its walk was found: one that is refused or skipped makes nothing
abbrev pub walk_made : Walked → ℕ → Made
walk_made (Refused n) k = Not
walk_made Skipped k = Not
walk_made (Line w b) k = plan_made (plan_of w b) k

-- step k of line l of those lent
unfoldable pub made_of : (nos : List ℕ) (coords : List Float) (paths : List ℕ) → (l k : ℕ) → Made
made_of nos coords paths l k = cond (ltb l (length nos)) (walk_made (walk_at nos coords paths l) k) Not

-- ---- only proofs lean on this

-- the same of a step's tile
abbrev pub step_made : ℕ → Step → Made
step_made n (Tile t x y z) = At n t.0
step_made n StepRefused = Not

-- a walk whose coordinates and path were checked
abbrev pub WalkFits : Walked → Type 0
WalkFits (Refused n) = Unit {0}
WalkFits Skipped = Unit {0}
WalkFits (Line w b) = Boxed b × Starts w.pace.sign w.pace.x0 w.pace.y0
