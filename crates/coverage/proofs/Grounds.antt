-- What a fill that may be made has: its segments are all among those lent. Assumes nothing.
use mathlib.Core.Path.{◌≡◌}
use mathlib.Core.List.{List}
use Prim.Native.Nat.{ℕ, ◌+◌, ◌*◌, ◌/◌, ◌≤◌}
use native.Mathlib.Omega.{arith}
use lib.ListN.{length}
use lib.Ieee.{Float}
use borrow.Author.Tests.{leb-true}
use Rattle.panel.specs.Widths.{segment_floats}
use Rattle.panel.proofs.CheckLaws.{all_ok}
use Rattle.panel.specs.Verdict.{Fine}
use Rattle.coverage.specs.Ground.{ground_checks, ground_of}

pub ground_room : (segs : List Float) (first n : ℕ) → ground_of segs first n ≡ Fine → segment_floats * (first + n) ≤ length segs
ground_room segs first n e =
    let h : first + n ≤ length segs / segment_floats = leb-true _ _ (all_ok (ground_checks segs first n) e).0 in
    omega arith
