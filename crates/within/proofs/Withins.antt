-- A line inside its path's box: what is said of it is said of those lent.
-- Assumes nothing.
use mathlib.Core.Path.{◌≡◌, refl, sym, ap, ◌∙◌}
use mathlib.Core.Bool.{Bool, not}
use mathlib.Core.List.{List}
use Prim.Native.Nat.{ℕ, ◌<◌}
use lib.ListN.{get_or}
use lib.Ieee.{Float, le}
use Rattle.util.specs.declared.Vec2.{Vec2}
use Rattle.panel.specs.Lines.{line_at}
use Rattle.panel.specs.Paths.{path_at, path_count}
use Rattle.panel.specs.declared.kinds.Path.{Path}
use Rattle.panel.specs.declared.lines.LineEnds.{LineEnds}
use Rattle.walk.specs.Page.{line_of}
use Rattle.walk.specs.Lent.{walked_of}
use Rattle.walk.specs.declared.kinds.Pace.{Pace}
use Rattle.walk.specs.Walked.{Line}
use Rattle.walk.proofs.Lines.{goes}
use Rattle.inside.specs.Inside.{InBox}
use Rattle.within.specs.Within.{Unclipped}

-- a line goes downward where its last end is not above its first
downward : (p0 p1 : Vec2) → (line_of p0 p1).e.is_down ≡ le p0.y p1.y
unfolding line_of
downward p0 p1 = refl

pub unclipped : (nos : List ℕ) (coords : List Float) (paths : List ℕ) (k : ℕ) (line : LineEnds) (b : Path) (pace : Pace) (n : ℕ) (up : Bool)
    → line ≡ line_at coords k → b ≡ path_at paths (get_or nos k 0) → get_or nos k 0 < path_count paths
    → InBox (line_at coords k).p0 (line_at coords k).p1 b pace n → up ≡ not (le line.p0.y line.p1.y) → Unclipped nos coords paths k pace b n up
unclipped nos coords paths k line b pace n up e f h o d =
    let p0 = (line_at coords k).p0 in
    let p1 = (line_at coords k).p1 in
    let w = line_of p0 p1 in
    record {
      w = w;
      walked = sym (goes nos coords paths k (line_at coords k) refl (Line w b) o.reached h (sym o.walked ∙ ap (λ (x : Path). walked_of p0 p1 x) f));
      paced = o.paced;
      turned = d ∙ ap (λ (l : LineEnds). not (le l.p0.y l.p1.y)) e ∙ ap not (sym (downward p0 p1));
      clipped = o.clipped;
    }
