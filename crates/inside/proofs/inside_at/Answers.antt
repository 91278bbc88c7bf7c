-- `inside::inside_at` meets its contract. Assumes nothing.
use mathlib.Core.Path.{◌≡◌}
use mathlib.Core.Bool.{true}
use Prim.Native.Nat.{◌+◌, ◌*◌}
use Rattle.panel.specs.Lines.{line_at}
use Rattle.panel.specs.Widths.{line_floats}
use Rattle.walk.specs.Setup.{ends_of}
use Rattle.box_edges.specs.Edges.{edges_of}
use Rattle.walk.specs.Lent.{Reached}
use Rattle.walk.proofs.Counts.{ends_scaled}
use Rattle.walk.proofs.AroundLaws.{ends_ordered}
use Rattle.inside.specs.Stages.{in_edges_of}
use Rattle.inside.proofs.Compared.{edges_told}
use Rattle.inside.proofs.InReach.{ends_reach}
use Rattle.inside.proofs.InBoxes.{met}
use Rattle.inside.proofs.inside_at.Goals as goal
use Rattle.inside.proofs.inside_at.Goals.{Else-not-in_edges}

-- of the line at its place: its ends lie within the box's edges, and so it is within reach
within : (c : Else-not-in_edges) → let l = line_at c.args.coords.now c.args.place in
    in_edges_of (ends_of l.p0 l.p1).s0 (ends_of l.p0 l.p1).s1 (edges_of c.args.b) ≡ true
within c =
    rw (c.in_edges.ensures, c.edges_of-g.ensures, c.ends_at-t.ensures.0, c.ends_at-t.ensures.1) at c.if-not-in_edges.false

checked : (c : Else-not-in_edges) → let l = line_at c.args.coords.now c.args.place in
    Reached l.p0 l.p1
unfolding line_at
checked c =
    let at = c.args.place * line_floats in
    let l = line_at c.args.coords.now c.args.place in
    let known = c.type_inv.coords in
    ends_reach l.p0 l.p1 c.args.b c.requires.0 (known at) (known (at + 1)) (known (at + 2)) (known (at + 3))
    (edges_told (ends_of l.p0 l.p1).s0 (ends_of l.p0 l.p1).s1 c.args.b (within c))

pub paced-requires : goal.paced-requires
paced-requires c =
    let l = line_at c.args.coords.now c.args.place in
    let n = ends_scaled l.p0 l.p1 (checked (goal.at.paced-requires c).Else-not-in_edges) in
    let o = ends_ordered l.p0 l.p1 (checked (goal.at.paced-requires c).Else-not-in_edges) in
    (rw c.ends_at-t.ensures.0 n.0, rw c.ends_at-t.ensures.1 n.1, rw (c.ends_at-t.ensures.0, c.ends_at-t.ensures.1) o)

pub returns : goal.returns
returns c =
    met (line_at c.args.coords.now c.args.place) c.args.b c.paced.result (checked (goal.at.returns c).Else-not-in_edges) (within (goal.at.returns c).Else-not-in_edges)
    (rw (c.ends_at-t.ensures.0, c.ends_at-t.ensures.1) at c.paced.ensures)
