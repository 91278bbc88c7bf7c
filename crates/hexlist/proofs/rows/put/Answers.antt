-- `hexlist::rows::put` meets its contract. Assumes nothing.
use mathlib.Core.Path.{ap, ◌∙◌}
use Rattle.hexlist.specs.Rows.{element_as}
use Rattle.hexlist.proofs.Loops.{put_none, put_turn, put_all}
use Rattle.hexlist.proofs.rows.put.Goals as goal

pub loop-i-init : goal.loop-i-init
loop-i-init g c = let a = c.args in put_none (element_as g.T.Element.value_of a.words.now a.base a.code) a.out.now

pub loop-i-preserved : goal.loop-i-preserved
loop-i-preserved g c =
    let a = c.args in
    let l = c.loop-i in
    put_turn (element_as g.T.Element.value_of a.words.now a.base a.code) c.index-out-i.result a.out.now l.out l.i _ l.invariant
    (c.of_word.ensures ∙ ap g.T.Element.value_of c.element.ensures)

pub returns : goal.returns
returns g c =
    let a = c.args in
    let l = c.loop-i in
    put_all (element_as g.T.Element.value_of a.words.now a.base a.code) a.out.now l.out l.i l.invariant (rw l.auto.out c.loop-i-test.false)
