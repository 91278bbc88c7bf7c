use mathlib.Core.List.{List}
use Prim.Native.Nat.{ℕ}
use lib.Ieee.{Float}
use Rattle.tile_rows.specs.Rows.{of_row}
use Rattle.one_row.specs.declared.Way.{Way}
use Rattle.one_row.specs.declared.Row.{Row}
use Rattle.ranges.proofs.Turn.{Done}
use Rattle.tile_rows.proofs.rows.Rows.put.Given as goal

-- of one list: how far it is
abbrev pub Told : (Row → Float) → Way → Float → ℕ → List Float → List Float → Type 0
Told f w yt yi l₀ l = Done (of_row f w yt) 0 yi l₀ l

abbrev pub invariant-loop-yi : goal.invariant-loop-yi
invariant-loop-yi l =
    Told (λ (r : Row). r.y) l.w l.yt l.yi l.initial.self.ys l.self.ys
    × Told (λ (r : Row). r.y0) l.w l.yt l.yi l.initial.self.y0s l.self.y0s
    × Told (λ (r : Row). r.y1) l.w l.yt l.yi l.initial.self.y1s l.self.y1s
    × Told (λ (r : Row). r.dy) l.w l.yt l.yi l.initial.self.dys l.self.dys
    × Told (λ (r : Row). r.edge) l.w l.yt l.yi l.initial.self.edges l.self.edges
