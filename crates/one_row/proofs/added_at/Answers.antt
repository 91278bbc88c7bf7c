-- `one_row::added_at` meets its contract. Assumes nothing.
use mathlib.Core.Path.{◌≡◌, refl}
use lib.Ieee.{Float, binary32, add, sub, mul, div}
use Rattle.float32.specs.Meaning.{min_of, max_of}
use Rattle.util.specs.Constants.{zero, half, one, epsilon}
use Rattle.one_row.specs.Column.{added_at}
use Rattle.one_row.specs.declared.Reach.{Reach}
use Rattle.one_row.proofs.added_at.Goals as goal

-- what was clipped: the left end, the right one up to 1, that from 0 on, and the left one from 0 on
by_steps : (p : Reach) (edge dy x u b c d : Float) → u ≡ min_of (sub binary32 p.left x) one → b ≡ min_of (sub binary32 p.right x) one → c ≡ max_of b zero
    → d ≡ max_of (sub binary32 u epsilon) zero
    → add binary32 edge
    (mul binary32
    (div binary32 (sub binary32 (add binary32 b (mul binary32 half (sub binary32 (mul binary32 d d) (mul binary32 c c)))) (sub binary32 u epsilon)) (sub binary32 (sub binary32 p.right x) (sub binary32 u epsilon)))
    dy)
    ≡ added_at p edge dy x
unfolding added_at
by_steps p edge dy x u b c d q r s t = rw (t, s, r, q) refl

pub returns : goal.returns
returns c =
    let a = c.args in
    by_steps a.p a.edge a.dy a.x _ _ _ _ c.up_to_one-xmin.ensures c.up_to_one-b.ensures
    c.from_zero-c.ensures c.from_zero-d.ensures
