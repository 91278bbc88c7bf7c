-- `narrow::four_added` meets its contract. Assumes nothing.
use mathlib.Core.Path.{◌≡◌, refl}
use mathlib.Core.List.{List}
use Prim.Native.Nat.{ℕ, ◌+◌}
use lib.Ieee.{Float}
use Rattle.narrow.specs.Narrow.{pixel_added, four_added}
use Rattle.one_row.specs.declared.Reach.{Reach}
use Rattle.narrow.proofs.four_added.Goals as goal

by_four : (p : Reach) (edge dy : Float) (area : List Float) (at : ℕ) (cols : List Float) (g : ℕ) (n0 n1 n2 n3 : Float) → n0 ≡ pixel_added p edge dy area at cols g
    → n1 ≡ pixel_added p edge dy area (at + 1) cols (g + 1) → n2 ≡ pixel_added p edge dy area (at + 2) cols (g + 2) → n3 ≡ pixel_added p edge dy area (at + 3) cols (g + 3)
    → record { n0 = n0; n1 = n1; n2 = n2; n3 = n3 } ≡ four_added p edge dy area at cols g
unfolding four_added
by_four p edge dy area at cols g n0 n1 n2 n3 a b c d = rw (a, b, c, d) refl

pub returns : goal.returns
returns c =
    let a = c.args in
    by_four a.p a.edge a.dy a.area.now a.at a.cols.now a.g _ _ _ _ c.pixel_added-n0.ensures c.pixel_added-n1.ensures
    c.pixel_added-n2.ensures c.pixel_added-n3.ensures
