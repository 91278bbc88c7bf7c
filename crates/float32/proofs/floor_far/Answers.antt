-- `float32::floor_far` meets its contract: the whole part, or the next number where x lies below it. Assumes nothing.
use mathlib.Core.Path.{◌≡◌, sym, ap, ◌∙◌}
use mathlib.Core.Bool.{true, false}
use lib.Dec.{T}
use lib.Ieee.{Float, binary32, fits, lt, sub, of_bits}
use Rattle.float32.specs.Meaning.{trunc_of, floor_of, unit}
use Rattle.float32.proofs.Tests.{yes}
use Rattle.float32.proofs.Floors.{floor_down, floor_stay}
use Rattle.float32.proofs.floor_far.Goals as goal

-- with t for what `trunc` gave
next : (x t : Float) → T (fits binary32 x) → t ≡ trunc_of x → lt x t ≡ true → sub binary32 t (unit false) ≡ floor_of x
next x t h e l = ap (λ (y : Float). sub binary32 y (unit false)) e ∙ floor_down x h (sym (ap (λ (t : Float). lt x t) e) ∙ l)

stay : (x t : Float) → T (fits binary32 x) → t ≡ trunc_of x → lt x t ≡ false → t ≡ floor_of x
stay x t h e l = e ∙ floor_stay x h (sym (ap (λ (t : Float). lt x t) e) ∙ l)

pub returns-then-x-t : goal.returns-then-x-t
unfolding of_bits
returns-then-x-t c = next c.args.x c.trunc-t.result (yes c.well_formed.0.1) c.trunc-t.ensures c.if-x-t.true

pub returns-else-x-t : goal.returns-else-x-t
returns-else-x-t c = stay c.args.x c.trunc-t.result (yes c.well_formed.0.1) c.trunc-t.ensures c.if-x-t.false
