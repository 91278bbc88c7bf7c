-- `path_count::runs::ones_if` meets its contract.
-- Assumes nothing.
use Prim.Native.Nat.{◌+◌, ◌/◌, ◌≤◌}
use native.Mathlib.Omega.{arith}
use lib.ListN.{length}
use Rattle.panel.specs.Widths.{ref_words}
use Rattle.acts.specs.Acts.{st_of}
use Rattle.path_count.proofs.Batches.{ones_left}
use Rattle.path_count.proofs.runs.ones_if.Goals as goal

pub returns : goal.returns
returns c =
    let a = c.args in
    let n = c.count_ones-n in
    let h : a.s.lines + n.result ≤ a.end = omega (arith, c.requires.1, n.ensures.0) in (
      omega arith,
      h,
      λ bs. ones_left a.path_nos.now a.coords.now a.paths.now (length a.refs.now / ref_words) a.base a.s.lines a.end n.result
          (st_of bs a.counts.now a.refs.now a.s.refs) _ h (n.ensures.2 bs),
    )
