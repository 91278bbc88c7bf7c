-- `own_count::words::own_hit` meets its contract.
-- Assumes nothing.
use mathlib.Core.List.{[]}
use mathlib.Core.Path.{refl, ap}
use Rattle.std.proofs.lemmas.Result.{err_from_is_err_and}
use Rattle.panel.specs.Verdict.{verdict_told}
use Rattle.acts.proofs.Laws.{own_below}
use Rattle.own_count.proofs.Ran.{turn_goes, turn_stops}
use mathlib.Core.List.{◌∷◌}
use Rattle.acts.specs.Acts.{visit, cross_acts, delta_of}
use Rattle.own_count.proofs.words.own_hit.Goals as goal

pub own_visit-requires : goal.own_visit-requires
own_visit-requires c = (own_below c.args.marks c.args.t c.args.n c.requires.0, c.requires.1)

pub returns-in_err-own_visit : goal.returns-in_err-own_visit
returns-in_err-own_visit c =
    let p = err_from_is_err_and c.from_residual.result c.from_residual.ensures.1 in
    rw (p.1, p.2)
    (λ i. turn_stops (delta_of c.args.up) (visit c.args.t i ∷ []) (cross_acts c.args.marks c.args.t) _ _ _ _ 1 _ refl (c.own_visit.ensures (delta_of c.args.up) i) _
    (ap verdict_told c.in_err-own_visit.was) 1)

pub returns : goal.returns
returns c =
    λ i. turn_goes (delta_of c.args.up) (visit c.args.t i ∷ []) (cross_acts c.args.marks c.args.t) _ _ _ _ 1 _ refl
    (c.own_visit.ensures (delta_of c.args.up) i) (ap verdict_told c.in_ok-own_visit.was) _ 0 1 _ refl c.own_cross.ensures
