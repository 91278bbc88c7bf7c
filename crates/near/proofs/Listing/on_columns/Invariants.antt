use mathlib.Core.Path.{◌≡◌}
use mathlib.Core.List.{◌++◌}
use Prim.Native.Nat.{◌≤◌}
use lib.ListN.{take, drop}
use Rattle.panel.specs.Paths.{path_at}
use Rattle.near.specs.Near.{kept, has_columns}
use Rattle.near.proofs.Listing.on_columns.Given as goal

abbrev pub invariant-loop-p : goal.invariant-loop-p
invariant-loop-p l =
    (l.m ≤ l.p-index)
    × (take l.m l.self.numbers ++ kept (λ q. has_columns (path_at l.paths q) l.from l.to) (drop l.p-index l.list) ≡ kept (λ q. has_columns (path_at l.paths q) l.from l.to) l.list)
