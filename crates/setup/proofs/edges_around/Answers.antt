-- `setup::edges_around` meets its contract. Assumes nothing.
use mathlib.Core.Path.{ap, ◌∙◌}
use lib.Ieee.{lt, neg}
use Rattle.float32.specs.Meaning.{floor_of, ceil_of}
use Rattle.float32.proofs.Magic.{ceil_turned}
use Rattle.exact.proofs.Bounds.{near_within, near_turned}
use Rattle.exact.proofs.Spans.{near_pick}
use Rattle.setup.proofs.edges_around.Goals as goal

pub floor_near-bottom-requires : goal.floor_near-bottom-requires
floor_near-bottom-requires c =
    rw c.pick.ensures (near_turned _ (near_pick (lt c.args.s0.y c.args.s1.y) c.args.s0.y c.args.s1.y c.requires.0.in_y c.requires.1.in_y))

pub floor_near-left-requires : goal.floor_near-left-requires
floor_near-left-requires c =
    rw c.pick-2.ensures (near_within _ (near_pick (lt c.args.s1.x c.args.s0.x) c.args.s0.x c.args.s1.x c.requires.0.in_x c.requires.1.in_x))

pub floor_near-right-requires : goal.floor_near-right-requires
floor_near-right-requires c =
    rw c.pick-3.ensures (near_turned _ (near_pick (lt c.args.s0.x c.args.s1.x) c.args.s0.x c.args.s1.x c.requires.0.in_x c.requires.1.in_x))

pub returns : goal.returns
returns c =
    record {
      start = c.requires.0;
      end = c.requires.1;
      ordered = c.requires.2;
      at_left = c.floor_near-left.ensures ∙ ap floor_of c.pick-2.ensures;
      at_right = ap neg c.floor_near-right.ensures ∙ ceil_turned _ ∙ ap ceil_of c.pick-3.ensures;
      at_top = c.requires.3;
      at_bottom = ap neg c.floor_near-bottom.ensures ∙ ceil_turned _ ∙ ap ceil_of c.pick.ensures;
    }
