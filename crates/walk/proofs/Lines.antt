-- The cases of a line as it is lent, over plain values. Assumes nothing.
use Prim.Native.Nat.{ℕ, ◌≤◌, ◌<◌}
use mathlib.Core.Path.{◌≡◌, refl, sym}
use mathlib.Core.Bool.{Bool, true, false, not, ◌||◌}
use mathlib.Core.List.{List}
use lib.ListN.{get_or}
use lib.Ieee.{Float}
use borrow.Author.Tests.{lt-ltb, le-ltb}
use Rattle.util.specs.declared.Vec2.{Vec2}
use Rattle.panel.specs.Refusals.{coordinate, no_such}
use Rattle.panel.specs.Paths.{path_at, path_count}
use Rattle.panel.specs.declared.kinds.Path.{Path}
use Rattle.walk.specs.Setup.{ends_of, walk_on}
use Rattle.walk.specs.Page.{by_parts}
use Rattle.walk.specs.Skip.{flat_of, past_of}
use Rattle.walk.specs.Lent.{line_at, reached_of, Reached, walked_of, walk_at}
use Rattle.walk.specs.declared.kinds.Walk.{Walk}
use Rattle.panel.specs.declared.lines.LineEnds.{LineEnds}
use Rattle.walk.specs.Walked.{Walked}
use Rattle.walk.specs.Walked.{Refused, Skipped, Line}

-- a test turned round
pub turned_on : (t : Bool) → not t ≡ true → t ≡ false
turned_on true h = sym h
turned_on false h = refl

pub turned_off : (t : Bool) → not t ≡ false → t ≡ true
turned_off true h = refl
turned_off false h = sym h

-- ---- a checked line over a box
abbrev pub skipped : Vec2 → Vec2 → Path → Bool
skipped p0 p1 b = flat_of (ends_of p0 p1).s0 (ends_of p0 p1).s1 || past_of (ends_of p0 p1).s0 (ends_of p0 p1).s1 b

module _ (p0 p1 : Vec2) (b : Path) where
  pub skips : skipped p0 p1 b ≡ true → Skipped ≡ walked_of p0 p1 b
  unfolding walked_of
  skips h = rw h

  pub walks : (w : Walk) → skipped p0 p1 b ≡ false → w ≡ walk_on (ends_of p0 p1) → Line w b ≡ walked_of p0 p1 b
  unfolding walked_of
  walks w h e = rw (h, e, by_parts p0 p1)

-- ---- a line by its number
module _ (nos : List ℕ) (coords : List Float) (paths : List ℕ) (l : ℕ) (line : LineEnds) (e : line ≡ line_at coords l) where
  pub far_off : reached_of line.p0 line.p1 ≡ false → Refused coordinate ≡ walk_at nos coords paths l
  unfolding walk_at
  far_off h = rw (rw e at h)

  pub no_path : Reached line.p0 line.p1 → path_count paths ≤ get_or nos l 0 → Refused no_such ≡ walk_at nos coords paths l
  unfolding walk_at
  no_path h p = rw (rw e at h, le-ltb (get_or nos l 0) (path_count paths) p)

  pub goes : (w : Walked) → Reached line.p0 line.p1 → get_or nos l 0 < path_count paths → w ≡ walked_of line.p0 line.p1 (path_at paths (get_or nos l 0))
      → w ≡ walk_at nos coords paths l
  unfolding walk_at
  goes w h p q = rw (rw e at h, lt-ltb (get_or nos l 0) (path_count paths) p) (rw e at q)
