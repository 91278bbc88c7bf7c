-- `setup::setup` meets its contract. Assumes nothing.
use mathlib.Core.Path.{◌≡◌, ◌∙◌}
use Rattle.walk.specs.Setup.{counts_of, walk_on}
use Rattle.walk.proofs.AroundLaws.{both_span, counts_are}
use Rattle.setup.proofs.setup.Goals as goal

pub count_steps-k-requires : goal.count_steps-k-requires
count_steps-k-requires c = both_span _ _ c.edges_around-g.ensures

pub rise-a-requires : goal.rise-a-requires
rise-a-requires c = both_span _ _ c.edges_around-g.ensures

pub returns : goal.returns
unfolding walk_on
returns c =
    let k : c.count_steps-k.result ≡ counts_of c.args.e.s0 c.args.e.s1 = c.count_steps-k.ensures ∙ counts_are _ _ c.edges_around-g.ensures in
    rw (
      c.rise-a.ensures,
      counts_are _ _ c.edges_around-g.ensures,
      c.start-b.ensures,
      c.incline-m.ensures,
      k,
    )
