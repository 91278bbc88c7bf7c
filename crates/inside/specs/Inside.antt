-- A line that lies inside its path's box: what the function says of it. Only proofs lean on this: no promise of a public call does. Definitions only.
use Rattle.std.specs.Prelude.{◌≡◌, ℕ}
use Rattle.util.specs.declared.Vec2.{Vec2}
use Rattle.panel.specs.declared.kinds.Path.{Path}
use Rattle.panel.specs.declared.lines.LineEnds.{LineEnds}
use Rattle.walk.specs.Page.{line_of}
use Rattle.walk.specs.Lent.{Reached, walked_of}
use Rattle.walk.specs.declared.kinds.Pace.{Pace}
use Rattle.walk.specs.Walked.{Line}
use Rattle.clip.specs.Page.{clipped_of}
use Rattle.inside.specs.Found.{Inside}
use Rattle.inside.specs.Found.{In, Other}

-- the line from p0 to p1 is walked over the box b at this pace in n steps, of which none is clipped, and passes no row left of the box
pub record InBox (p0 p1 : Vec2) (b : Path) (pace : Pace) (n : ℕ) : Type 0 where
  pub reached : Reached p0 p1
  pub walked : walked_of p0 p1 b ≡ Line (line_of p0 p1) b
  pub paced : pace ≡ (line_of p0 p1).pace
  pub counted : n ≡ (line_of p0 p1).k.count
  pub clipped : clipped_of (line_of p0 p1) b ≡ record { imin = 0; imax = n; ymin = b.y0; ymax = 0 }

-- its pace and its steps; or nothing
abbrev pub InsideMet : LineEnds → Path → Inside → Type 0
InsideMet l b (In pace n) = InBox l.p0 l.p1 b pace n
InsideMet l b Other = Unit {0}
