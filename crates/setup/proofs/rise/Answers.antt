-- `setup::rise` meets its contract: the steps in floats are the whole numbers' floats. Assumes nothing.
use mathlib.Core.Path.{◌≡◌, refl, sym, ap, ◌∙◌}
use lib.Ieee.{Float, binary32, add, sub, mul}
use Rattle.float32.specs.Meaning.{floor_of}
use Rattle.util.specs.Constants.{one}
use Rattle.walk.specs.Num.{float}
use Rattle.walk.specs.Around.{counts_by}
use Rattle.walk.specs.Setup.{a_of}
use Rattle.setup.proofs.InFloats.{columns_told, last_told}
use Rattle.setup.proofs.rise.Goals as goal
use Rattle.setup.proofs.rise.Goals.{After-floor}

-- the columns, and the floor at the last step
columns : (c : After-floor) → let a = c.args in float (counts_by a.g.left a.g.right a.g.top a.g.bottom).count_x ≡ sub binary32 c.apart-count_x.result one
columns c =
    let a = c.args in
    sym (columns_told a.g.left a.g.right a.g.top a.g.bottom c.apart-count_x.result c.apart.result c.requires.0 c.requires.1 c.apart-count_x.ensures c.apart.ensures)

floored : (c : After-floor) → let a = c.args in
    floor_of (add binary32 (mul binary32 (mul binary32 a.m.dx a.m.idxdy) (sub binary32 (float (counts_by a.g.left a.g.right a.g.top a.g.bottom).count) one)) a.b)
    ≡ c.floor.result
floored c =
    let a = c.args in
    ap (λ (x : Float). floor_of (add binary32 (mul binary32 (mul binary32 a.m.dx a.m.idxdy) x) a.b))
    (sym (last_told a.g.left a.g.right a.g.top a.g.bottom c.apart-count_x.result c.apart.result c.requires.0 c.requires.1 c.apart-count_x.ensures c.apart.ensures))
    ∙ sym c.floor.ensures

pub returns-then-robust_err : goal.returns-then-robust_err
unfolding a_of
returns-then-robust_err c = rw (floored (goal.at.returns-then-robust_err c).After-floor, columns (goal.at.returns-then-robust_err c).After-floor, c.if-robust_err.true, c.copysign.ensures) refl

pub returns : goal.returns
unfolding a_of
returns c = rw (floored (goal.at.returns c).After-floor, columns (goal.at.returns c).After-floor, c.if-robust_err.false) refl
