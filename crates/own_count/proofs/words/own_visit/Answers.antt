-- `own_count::words::own_visit` meets its contract.
-- Assumes nothing.
use mathlib.Core.Path.{refl}
use lib.ListN.{get_or}
use Rattle.own_count.proofs.Ran.{visit_goes, visit_stops}
use Rattle.own_count.proofs.words.own_visit.Goals as goal

pub returns-then-w-ge-MOST_COUNT : goal.returns-then-w-ge-MOST_COUNT
returns-then-w-ge-MOST_COUNT c = λ δ i. visit_stops δ i c.args.n c.args.t c.args.work.now c.requires.0 c.requires.1 (get_or c.args.work.now c.args.t 0) refl c.if-w-ge-MOST_COUNT.true

pub returns : goal.returns
returns c = λ δ i. visit_goes δ i c.args.n c.args.t c.args.work.now c.requires.0 c.requires.1 (get_or c.args.work.now c.args.t 0) refl c.if-w-ge-MOST_COUNT.false
