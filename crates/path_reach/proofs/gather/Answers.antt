-- `path_reach::gather` meets its contract. The loop's invariant: what is left to gather, from what the room holds, makes what all lines make.
-- Assumes nothing.
use mathlib.Core.Path.{sym, ◌∙◌}
use native.Mathlib.Omega.{arith}
use lib.ListN.{length}
use Rattle.panel.proofs.LimitLaws.{small}
use Rattle.end_tiles.proofs.LineLaws.{each_line}
use Rattle.path_reach.proofs.WordLaws.{gather_turn, gather_end}
use Rattle.path_reach.proofs.gather.Goals as goal

pub reach_line-requires : goal.reach_line-requires
reach_line-requires c =
    let s = c.args in
    let l = c.loop-l in (
      omega arith,
      omega (arith, c.requires.0),
      omega (arith, c.requires.1, l.invariant.0),
      each_line s.path_nos.now s.coords.now s.n (length s.path_nos.now) 0 c.requires.2 l.l (omega arith) (omega arith),
    )

pub overflow_cast-l : goal.overflow_cast-l
overflow_cast-l c =
    let s = c.args in
    let l = c.loop-l in
    let ok = each_line s.path_nos.now s.coords.now s.n (length s.path_nos.now) 0 c.requires.2 l.l (omega arith) (omega arith) in
    omega (arith, ok.numbered, small.lines)

pub loop-l-preserved : goal.loop-l-preserved
loop-l-preserved c =
    let s = c.args in
    let l = c.loop-l in (
      c.reach_line.auto.work ∙ l.invariant.0,
      rw c.reach_line.ensures (sym (gather_turn s.path_nos.now s.coords.now (length s.path_nos.now) l.l l.work (omega arith)) ∙ l.invariant.1),
    )

pub returns : goal.returns
returns c =
    let s = c.args in
    let l = c.loop-l in
    sym (gather_end s.path_nos.now s.coords.now (length s.path_nos.now) l.l l.work (omega arith)) ∙ l.invariant.1
