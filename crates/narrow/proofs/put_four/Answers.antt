-- `narrow::put_four` meets its contract. Assumes nothing.
use mathlib.Core.Path.{refl}
use mathlib.Core.List.{List}
use Prim.Native.Nat.{ℕ, ◌+◌, ◌≤◌, ◌<◌}
use lib.ListN.{length, set, length-set}
use lib.Ieee.{Float}
use Rattle.narrow.specs.declared.Four.{Four}
use Rattle.narrow.specs.Narrow.{four_put}
use native.Mathlib.Omega.{arith}
use Rattle.narrow.proofs.put_four.Goals as goal

-- a list keeps its length
module _ (l : List Float) (at : ℕ) (f : Four) (room : at + 4 ≤ length l) where
  abbrev l₁ : List Float
  l₁ = set l at f.n0

  abbrev l₂ : List Float
  l₂ = set l₁ (at + 1) f.n1

  two : at + 1 < length l₁
  two = omega (arith, length-set l at f.n0)

  three : at + 2 < length l₂
  three = omega (arith, length-set l at f.n0, length-set l₁ (at + 1) f.n1)

  four : at + 3 < length (set l₂ (at + 2) f.n2)
  four = omega (arith, length-set l at f.n0, length-set l₁ (at + 1) f.n1, length-set l₂ (at + 2) f.n2)

pub bounds-area-at-2 : goal.bounds-area-at-2
bounds-area-at-2 c = two c.args.area.now c.args.at c.args.four c.requires

pub bounds-area-at-3 : goal.bounds-area-at-3
bounds-area-at-3 c = three c.args.area.now c.args.at c.args.four c.requires

pub bounds-area-at-4 : goal.bounds-area-at-4
bounds-area-at-4 c = four c.args.area.now c.args.at c.args.four c.requires

pub returns : goal.returns
unfolding four_put
returns c = refl
