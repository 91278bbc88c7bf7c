-- A line with no walk, and one of which the quicker way says nothing.
-- Assumes nothing.
use mathlib.Core.Path.{◌≡◌}
use mathlib.Core.List.{List}
use Prim.Native.Nat.{ℕ, ◌/◌, ◌<◌}
use native.Mathlib.Nat.{add-zero}
use lib.ListN.{length}
use lib.IntN.{ℤ}
use lib.Ieee.{Float}
use Rattle.lists.specs.Run.{Ran}
use Rattle.panel.specs.Limits.{most_lines}
use Rattle.panel.specs.Widths.{ref_words}
use Rattle.panel.specs.declared.kinds.Path.{Path}
use Rattle.walk.specs.Lent.{walk_at}
use Rattle.walk.specs.declared.kinds.Walk.{Walk}
use Rattle.walk.specs.Walked.{Walked}
use Rattle.walk.specs.Walked.{Refused as WalkRefused, Skipped, Line}
use Rattle.acts.specs.Acts.{St, st_of}
use Rattle.acts.specs.Line.{plan_step}
use Rattle.walked_lines.specs.Line.{plan_of, line_step, line_ran, tally_ran, unwalked_of}
use Rattle.walked_lines.specs.Tallied.{Tallied}
use Rattle.walked_lines.proofs.Lines.{line_walked}

-- ---- a line with no walk

abbrev pub NoWalk : Walked → Type 0
NoWalk (WalkRefused n) = Unit {0}
NoWalk Skipped = Unit {0}
NoWalk (Line w b) = ⊥

pub line_unwalked : (nos : List ℕ) (coords : List Float) (paths : List ℕ) (room l k : ℕ) (bs : List ℤ) (cs rs : List ℕ) (made : ℕ) (x : Walked)
    → l < most_lines → walk_at nos coords paths k ≡ x → NoWalk x
    → tally_ran (unwalked_of x) (st_of bs cs rs) made ≡ line_ran (line_step nos coords paths room l k (st_of bs cs rs made)) (st_of bs cs rs made)
line_unwalked nos coords paths room l k bs cs rs made (WalkRefused n) h e u =
    rw (line_walked nos coords paths room l k (st_of bs cs rs made) (WalkRefused n) h e)
line_unwalked nos coords paths room l k bs cs rs made Skipped h e u =
    rw (line_walked nos coords paths room l k (st_of bs cs rs made) Skipped h e, add-zero made)
line_unwalked nos coords paths room l k bs cs rs made (Line w b) h e u = absurd u

-- ---- where nothing is said of a line, what is lent is as it was

module _ (bs bs' : List ℤ) (cs cs' rs rs' : List ℕ) (e : (bs' ≡ bs) × (cs' ≡ cs) × (rs' ≡ rs)) where
  pub same_tally : (t : Tallied) (made : ℕ) (o : Ran St ℕ) → tally_ran t (st_of bs cs rs) made ≡ o → tally_ran t (st_of bs' cs' rs') made ≡ o
  same_tally t made o q = rw (e.0, e.1, e.2) q

  pub same_walk : (l made : ℕ) (w : Walk) (b : Path) (o : Ran St ℕ)
      → o ≡ line_ran (plan_step (length rs' / ref_words) l (plan_of w b) (st_of bs' cs' rs' made)) (st_of bs' cs' rs' made)
      → o ≡ line_ran (plan_step (length rs / ref_words) l (plan_of w b) (st_of bs cs rs made)) (st_of bs cs rs made)
  same_walk l made w b o q = rw (e.0, e.1, e.2) at q
