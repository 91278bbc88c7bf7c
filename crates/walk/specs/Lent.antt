-- A line as it is lent: refused (6, then 7), skipped, or walked over the box of its path. Definitions only.
use Rattle.std.specs.Prelude.{ℕ, ◌≡◌, Bool, true, cond, ◌&&◌, ◌||◌, List, ltb, get_or, Float}
use Rattle.util.specs.declared.Vec2.{Vec2}
use Rattle.exact.specs.Reach.{in_reach}
use Rattle.panel.specs.Refusals.{coordinate, no_such}
unfoldable pub use Rattle.panel.specs.Lines.{line_at}
use Rattle.panel.specs.Paths.{path_at, path_count}
use Rattle.panel.specs.declared.kinds.Path.{Path}
use Rattle.walk.specs.Setup.{ends_of}
use Rattle.walk.specs.Page.{line_of}
use Rattle.walk.specs.Skip.{flat_of, past_of}
use Rattle.walk.specs.Walked.{Walked}
use Rattle.walk.specs.Walked.{Refused, Skipped, Line}

-- check 6
abbrev pub reached_of : Vec2 → Vec2 → Bool
reached_of p0 p1 = (in_reach p0.x && in_reach p0.y) && (in_reach p1.x && in_reach p1.y)

abbrev pub Reached : Vec2 → Vec2 → Type 0
Reached p0 p1 = reached_of p0 p1 ≡ true

-- a line over the box b: skipped, or its walk
unfoldable pub walked_of : Vec2 → Vec2 → Path → Walked
walked_of p0 p1 b =
    let e = ends_of p0 p1 in
    cond (flat_of e.s0 e.s1 || past_of e.s0 e.s1 b) Skipped (Line (line_of p0 p1) b)

-- line l of those lent
unfoldable pub walk_at : (nos : List ℕ) (coords : List Float) (paths : List ℕ) → ℕ → Walked
walk_at nos coords paths l =
    let line = line_at coords l in
    let path = get_or nos l 0 in
    cond (reached_of line.p0 line.p1)
    (cond (ltb path (path_count paths)) (walked_of line.p0 line.p1 (path_at paths path)) (Refused no_such))
    (Refused coordinate)
