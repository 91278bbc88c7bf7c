-- A checked line whose ends lie within its box's edges, and that is not flat, is inside its path's box. Assumes nothing.
use mathlib.Core.Path.{◌≡◌, refl, sym, ap, ◌∙◌, subst}
use mathlib.Core.Bool.{Bool, true, false, cond}
use Rattle.util.specs.declared.Vec2.{Vec2}
use Rattle.panel.specs.declared.kinds.Path.{Path}
use Rattle.panel.specs.declared.lines.LineEnds.{LineEnds}
use Rattle.walk.specs.Setup.{ends_of, counts_of, walk_on}
use Rattle.walk.specs.Page.{line_of, by_parts}
use Rattle.walk.specs.Skip.{flat_of}
use Rattle.walk.specs.Lent.{Reached}
use Rattle.box_edges.specs.Edges.{edges_of}
use Rattle.walk.specs.declared.kinds.Walk.{Walk}
use Rattle.walk.proofs.Counts.{ends_scaled}
use Rattle.walk.proofs.Lines.{walks}
use Rattle.walk.proofs.AroundLaws.{ends_ordered}
use Rattle.clip.proofs.Unclipped.{clip_inside}
use Rattle.inside.specs.Inside.{InBox, InsideMet}
use Rattle.inside.specs.Stages.{in_edges_of, pace_of, paced_of}
use Rattle.inside.specs.Found.{Inside}
use Rattle.inside.specs.Found.{In, Other}
use Rattle.inside.proofs.Compared.{edges_told, not_past, not_clipped}

module _ (p0 p1 : Vec2) where
  abbrev s0 : Vec2
  s0 = (ends_of p0 p1).s0

  abbrev s1 : Vec2
  s1 = (ends_of p0 p1).s1

  -- the page's walk by its stages
  stage_pace : pace_of s0 s1 ≡ (walk_on (ends_of p0 p1)).pace
  unfolding pace_of walk_on
  stage_pace = refl

  stage_count : (counts_of s0 s1).count ≡ (walk_on (ends_of p0 p1)).k.count
  unfolding walk_on
  stage_count = refl

  stage_ends : (walk_on (ends_of p0 p1)).e ≡ ends_of p0 p1
  unfolding walk_on
  stage_ends = refl

  pace_is : pace_of s0 s1 ≡ (line_of p0 p1).pace
  pace_is = stage_pace ∙ ap (λ (w : Walk). w.pace) (by_parts p0 p1)

  count_is : (counts_of s0 s1).count ≡ (line_of p0 p1).k.count
  count_is = stage_count ∙ ap (λ (w : Walk). w.k.count) (by_parts p0 p1)

  ends_are : (line_of p0 p1).e ≡ ends_of p0 p1
  ends_are = sym (ap (λ (w : Walk). w.e) (by_parts p0 p1)) ∙ stage_ends

  module _ (b : Path) (h : Reached p0 p1) (inside : in_edges_of s0 s1 (edges_of b) ≡ true) where
    in_box_lem : flat_of s0 s1 ≡ false → InBox p0 p1 b (pace_of s0 s1) (counts_of s0 s1).count
    in_box_lem f =
        let n = ends_scaled p0 p1 h in
        let o = ends_ordered p0 p1 h in
        let t = edges_told s0 s1 b inside in
        let past = not_past s0 s1 b n.0 n.1 o t in
        let whole = not_clipped s0 s1 b n.0 n.1 o t (line_of p0 p1) (rw ends_are) (rw ends_are) in
        record {
          reached = h;
          walked = sym (walks p0 p1 b (line_of p0 p1) (rw (f, past)) (sym (by_parts p0 p1)));
          paced = pace_is;
          counted = count_is;
          clipped = rw count_is (clip_inside (line_of p0 p1) b whole);
        }

-- what the function says
pub met : (l : LineEnds) (b : Path) (r : Inside) → Reached l.p0 l.p1
    → in_edges_of (ends_of l.p0 l.p1).s0 (ends_of l.p0 l.p1).s1 (edges_of b) ≡ true
    → r ≡ paced_of (ends_of l.p0 l.p1).s0 (ends_of l.p0 l.p1).s1 → InsideMet l b r
unfolding paced_of
met l b r h inside e = subst (InsideMet l b) (sym e) (go (flat_of u v) refl)
  where
    u : Vec2
    u = (ends_of l.p0 l.p1).s0

    v : Vec2
    v = (ends_of l.p0 l.p1).s1

    go : (f : Bool) → flat_of u v ≡ f → InsideMet l b (cond f Other (In (pace_of u v) (counts_of u v).count))
    go true f = tt
    go false f = in_box_lem l.p0 l.p1 b h inside f
