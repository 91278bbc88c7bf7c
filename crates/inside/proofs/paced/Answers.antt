-- `inside::paced` meets its contract. Assumes nothing.
use mathlib.Core.Path.{◌≡◌, ◌∙◌}
use Rattle.exact.proofs.Bounds.{near_within}
use Rattle.walk.specs.Setup.{counts_of}
use Rattle.walk.proofs.AroundLaws.{both_span, counts_are}
use Rattle.inside.specs.Stages.{pace_of, paced_of}
use Rattle.inside.proofs.paced.Goals as goal

pub floor_near-top-requires : goal.floor_near-top-requires
floor_near-top-requires c = near_within _ c.requires.0.in_y

pub edges_around-around-requires : goal.edges_around-around-requires
edges_around-around-requires c = (c.requires.0, c.requires.1, c.requires.2, c.floor_near-top.ensures)

pub flat-requires : goal.flat-requires
flat-requires c =
    (c.requires.0, c.requires.1, c.floor_near-top.ensures)

pub returns-then-flat : goal.returns-then-flat
unfolding paced_of
returns-then-flat c = rw (rw c.flat.ensures at c.if-flat.true)

pub count_steps-k-requires : goal.count_steps-k-requires
count_steps-k-requires c = both_span _ _ c.edges_around-around.ensures

pub rise-a-requires : goal.rise-a-requires
rise-a-requires c = both_span _ _ c.edges_around-around.ensures

pub returns : goal.returns
unfolding paced_of pace_of
returns c =
    let k : c.count_steps-k.result ≡ counts_of c.args.s0 c.args.s1 = c.count_steps-k.ensures ∙ counts_are _ _ c.edges_around-around.ensures in
    rw (
      rw c.flat.ensures at c.if-flat.false,
      c.rise-a.ensures,
      counts_are _ _ c.edges_around-around.ensures,
      c.start-b.ensures,
      c.incline-m.ensures,
      k,
    )
