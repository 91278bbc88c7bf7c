-- A line as it is lent that lies inside its path's box, and what is known of its walk. Only proofs lean on this: no promise of a public call does.
-- Definitions only.
use Rattle.std.specs.Prelude.{◌≡◌, Bool, not, List, ℕ, Float}
use Rattle.panel.specs.declared.kinds.Path.{Path}
use Rattle.walk.specs.Lent.{walk_at}
use Rattle.walk.specs.declared.kinds.Pace.{Pace}
use Rattle.walk.specs.declared.kinds.Walk.{Walk}
use Rattle.walk.specs.Walked.{Line as WalkedLine}
use Rattle.clip.specs.Page.{clipped_of}
use Rattle.within.specs.Found.{Within, Line, Other}

-- the line at place k is walked over the box b at this pace in n steps, of which none is clipped, and no row is marked; up says whether it goes upward
pub record Unclipped (nos : List ℕ) (coords : List Float) (paths : List ℕ) (k : ℕ) (pace : Pace) (b : Path) (n : ℕ) (up : Bool) : Type 0 where
  pub w : Walk
  pub walked : walk_at nos coords paths k ≡ WalkedLine w b
  pub paced : pace ≡ w.pace
  pub turned : up ≡ not w.e.is_down
  pub clipped : clipped_of w b ≡ record { imin = 0; imax = n; ymin = b.y0; ymax = 0 }

-- such a line; or nothing
abbrev pub WithinMet : (nos : List ℕ) (coords : List Float) (paths : List ℕ) → ℕ → Within → Type 0
WithinMet nos coords paths k (Line pace b n up) = Unclipped nos coords paths k pace b n up
WithinMet nos coords paths k Other = Unit {0}
