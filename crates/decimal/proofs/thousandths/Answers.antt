use mathlib.Core.Path.{◌≡◌, sym, ap, ◌∙◌}
use mathlib.Core.Bool.{Bool, true, false}
use lib.Ieee.{Float, binary32, round, neg}
use Prim.Native.Nat.{ℕ}
use Rattle.decimal.proofs.Round.{round_neg}
use Rattle.decimal.proofs.thousandths.Goals as goal

with_sign : (s t : Bool) (n : ℕ) (x : Float) → x ≡ round binary32 s n 1000 → t ≡ s → x ≡ round binary32 t n 1000
with_sign s t n x e f = e ∙ ap (λ (u : Bool). round binary32 u n 1000) (sym f)

turned : (n : ℕ) (x : Float) → x ≡ round binary32 false n 1000 → neg x ≡ round binary32 true n 1000
turned n x e = ap neg e ∙ round_neg false n 1000

pub returns-then-minus : goal.returns-then-minus
returns-then-minus c = with_sign true _ _ _ (turned _ _ c.magnitude-x.ensures) c.if-minus.true

pub returns-else-minus : goal.returns-else-minus
returns-else-minus c = with_sign false _ _ _ c.magnitude-x.ensures c.if-minus.false
