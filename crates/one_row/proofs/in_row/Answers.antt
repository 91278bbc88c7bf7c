-- `one_row::in_row` meets its contract: 0 is not above 1, so the two choices may be made one after the other. Assumes nothing.
use mathlib.Core.Path.{◌≡◌, refl}
use mathlib.Core.Bool.{Bool, true, false, cond}
use lib.Ieee.{Float, lt, le, of_bits}
use Rattle.float32.specs.Meaning.{clamp_of}
use Rattle.util.specs.Constants.{zero, one}
use Rattle.one_row.proofs.in_row.Goals as goal

ends : le zero one ≡ true
unfolding of_bits le lt
ends = refl

zero_stays : lt one zero ≡ false
unfolding of_bits lt
zero_stays = refl

by_two : (x a b : Float) → a ≡ cond (lt x zero) zero x → b ≡ cond (lt one a) one a → b ≡ clamp_of x zero one
unfolding clamp_of
by_two x a b p q = rw (q, p, ends) (go (lt x zero))
  where
    go : (t : Bool) → cond (lt one (cond t zero x)) one (cond t zero x) ≡ cond t zero (cond (lt one x) one x)
    go true = rw zero_stays refl
    go false = refl

pub returns : goal.returns
returns c = by_two c.args.x _ _ c.pick-high.ensures c.pick.ensures
