-- `near::Listing::on_columns` meets its contract. The loop's invariant: those kept, and those to be kept of the paths left, are those of the
-- columns. Assumes nothing.
use mathlib.Core.Path.{◌∙◌}
use mathlib.Core.Bool.{Bool}
use Prim.Native.Nat.{ℕ}
use native.Mathlib.Omega.{arith}
use lib.ListN.{drop}
use Rattle.panel.specs.Paths.{path_at}
use Rattle.near.specs.Near.{has_columns, column_paths}
use Rattle.near.proofs.NearLaws.{keep_end, list_end}
use Rattle.near.proofs.Listing.on_columns.Goals as goal

pub returns : goal.returns
unfolding column_paths
returns c =
    let a = c.args in
    let l = c.loop-p in
    let f : ℕ → Bool = λ q. has_columns (path_at a.paths.now q) a.from a.to in
    record {
      few = omega arith;
      same = keep_end f l.self.numbers l.m (drop l.p-index a.list.now) (list_end a.list.now l.p-index (omega arith)) ∙ l.invariant.1;
    }
