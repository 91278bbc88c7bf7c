-- `few_steps::count_few` meets its contract.
-- Assumes nothing.
use mathlib.Core.Path.{refl, ◌∙◌}
use native.Mathlib.Omega.{arith}
use Rattle.acts.specs.Acts.{st_of}
use Rattle.few_steps.proofs.Fews.{gone_all, same_state}
use Rattle.few_steps.proofs.count_few.Goals as goal

pub go-taken-requires : goal.go-taken-requires
go-taken-requires c = c.requires

pub returns-then-taken-n : goal.returns-then-taken-n
returns-then-taken-n c = (refl, gone_all _ _ _ _ _ c.go-taken.result _ _ _ _ _ _ c.go-taken.ensures c.if-taken-n.true)

pub undo-requires : goal.undo-requires
undo-requires c =
    let g = c.go-taken.ensures in (
      omega (arith, g.within, c.requires.1),
      omega (arith, g.within, c.requires.4),
      c.go-taken.auto.notes ∙ c.requires.5,
      (st_of c.args.backs.now c.args.counts.now c.args.refs.now c.args.made, g.came),
    )

pub returns : goal.returns
returns c =
    same_state _ _ _ _ _ _ c.args.made
    (c.undo.ensures (st_of c.args.backs.now c.args.counts.now c.args.refs.now c.args.made) c.go-taken.ensures.came)
