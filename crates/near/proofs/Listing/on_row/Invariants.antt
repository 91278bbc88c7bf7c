use mathlib.Core.Path.{◌≡◌}
use mathlib.Core.List.{◌++◌}
use Prim.Native.Nat.{◌-◌, ◌≤◌}
use lib.ListN.{take}
use Rattle.lists.specs.Sums.{from}
use Rattle.panel.specs.Paths.{path_at, path_count}
use Rattle.near.specs.Near.{kept, has_row}
use Rattle.near.proofs.Listing.on_row.Given as goal

abbrev pub invariant-loop-p : goal.invariant-loop-p
invariant-loop-p l =
    (l.n ≡ path_count l.paths) × (l.m ≤ l.p)
    × (take l.m l.self.numbers ++ kept (λ q. has_row (path_at l.paths q) l.y) (from l.p (l.n - l.p)) ≡ kept (λ q. has_row (path_at l.paths q) l.y) (from 0 (path_count l.paths)))
