-- A line's effect in counting: its answer and all that is lent. docs/RULES.md, "When the panel says no", counting. Definitions only.
use Rattle.std.specs.Prelude.{◌≡◌, Bool, not, List, ℕ, ◌+◌, ◌*◌, ◌≤◌, ◌<◌, leb, Float}
use Rattle.lists.specs.Run.{Step, taken, halted, Ran, done, refused, on_step}
use Rattle.panel.specs.Limits.{most_lines}
use Rattle.panel.specs.Refusals.{line_number}
use Rattle.panel.specs.Widths.{line_floats, step_range}
use Rattle.panel.specs.Paths.{width_of, paths_answer}
use Rattle.panel.specs.declared.kinds.Path.{Path}
use Rattle.panel.specs.Answer.{Done as AnswerDone}
use Rattle.walk.specs.Page.{line_of}
use Rattle.walk.specs.Lent.{Reached, walk_at}
use Rattle.walk.specs.declared.kinds.Pace.{Pace}
use Rattle.walk.specs.declared.kinds.Walk.{Walk}
use Rattle.walk.specs.Walked.{Walked}
use Rattle.walk.specs.Walked.{Refused as WalkRefused, Skipped, Line}
use Rattle.clip.specs.Page.{clipped_of}
use Rattle.clip.specs.declared.Clip.{Clip}
use Rattle.util.specs.declared.Vec2.{Vec2}
use Rattle.acts.specs.Acts.{St}
use Rattle.acts.specs.declared.rows.Rows.{Rows}
use Rattle.acts.specs.Line.{Plan, plan_step, halt_if}
use Rattle.hits.specs.Steps.{hit_at}
use Rattle.walked_lines.specs.Tallied.{Tallied}
use Rattle.walked_lines.specs.Tallied.{On, Against}

-- ---- a line

-- the rows that a line passes left of its path's box
abbrev pub rows_by : Path → Clip → Rows
rows_by b c = record { first = b.first; top = b.y0; width = width_of b; low = c.ymin; high = c.ymax }

-- a walk at this pace, clipped to its path's box: which acts it has
abbrev pub plan_by : Bool → Pace → Path → Clip → Plan
plan_by up w b c = record { up = up; rows = rows_by b c; imin = c.imin; imax = c.imax; hit = hit_at w b }

-- an upward line marks with +1
unfoldable pub plan_of : Walk → Path → Plan
plan_of w b = plan_by (not w.e.is_down) w.pace b (clipped_of w b)

abbrev pub walked_step : (room l : ℕ) → Walked → St → Step St ℕ
walked_step room l (WalkRefused n) s = halted n
walked_step room l Skipped s = taken s
walked_step room l (Line w b) s = plan_step room l (plan_of w b) s

-- the line that stands at place k of those lent, as line number l: 5, then 6, 7 and the skip rules, then its acts
unfoldable pub line_step : (nos : List ℕ) (coords : List Float) (paths : List ℕ) (room l k : ℕ) → St → Step St ℕ
line_step nos coords paths room l k s = halt_if (leb most_lines l) line_number (walked_step room l (walk_at nos coords paths k) s)

-- what a line leaves, refused or not
abbrev pub line_ran : Step St ℕ → St → Ran St ℕ
line_ran o s = on_step o s done

-- the same of an answer in code, with what is lent afterwards: the state in which n references are made is f n
abbrev pub tally_ran : Tallied → (ℕ → St) → ℕ → Ran St ℕ
tally_ran (On n) f made = done (f (made + n))
tally_ran (Against n) f made = refused (f made) n

-- a line with no walk makes no reference
abbrev pub unwalked_of : Walked → Tallied
unwalked_of (WalkRefused n) = Against n
unwalked_of Skipped = On 0
unwalked_of (Line w b) = On 0

-- ---- what the checks of a call leave. Only proofs lean on it: no promise of a public call does

-- so many backdrops and tiles are lent, and each path that is there lies among them
pub record Lent (paths : List ℕ) (backs counts : ℕ) : Type 0 where
  pub paired : backs ≡ counts
  pub passed : paths_answer paths counts ≡ AnswerDone

-- line k is there
pub record There (k nos coords : ℕ) : Type 0 where
  pub numbered : k < nos
  pub whole : k * line_floats + line_floats ≤ coords

-- a line's walk over a path whose box has columns: its coordinates were checked
pub record Walkable (w : Walk) (b : Path) : Type 0 where
  pub p0 : Vec2
  pub p1 : Vec2
  pub reached : Reached p0 p1
  pub walked : w ≡ line_of p0 p1
  pub wide : b.x0 < b.x1

-- what clipping to a box leaves, where a reference can hold every step number
pub record Clipped (b : Path) (c : Clip) : Type 0 where
  pub wide : b.x0 < b.x1
  pub top : b.y0 ≤ c.ymin
  pub bottom : c.ymax ≤ b.y1
  pub onward : c.imin ≤ c.imax
  pub last : c.imin < c.imax → c.imax ≤ step_range
