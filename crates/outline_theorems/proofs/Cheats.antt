-- No cheat meets the call's promise: refusing all, one answer always, doing nothing. Assumes nothing.
use mathlib.Core.Path.{◌≡◌, refl, ap}
use mathlib.Core.List.{List, [], ◌∷◌}
use Prim.Native.Nat.{ℕ}
use native.Mathlib.Omega.{arith}
use lib.ListN.{get_or}
use lib.Ieee.{Float, nan, eq}
use Rattle.panel.specs.Refusals.{left_open}
use Rattle.panel.specs.Lines.{line_at}
use Rattle.panel.specs.Answer.{Answer, Done, Refused}
use Rattle.meeting.specs.First.{first_from}
use Rattle.outlines.specs.Outlines as Outlines
use Rattle.outlines.specs.Outlines.{same_bits, same_point, meets, last_of, back_from, first_open}
use Rattle.outlines.specs.Call.{first_bad, open_if, outlines_of, OutlinesMet}
use Rattle.call_theorems.specs.Cheats.{Shut, Refuses}
use Rattle.call_theorems.proofs.Cheats.{shut}
use Rattle.outline_theorems.proofs.Exact.{one_outlines}

-- one path: with no line; and with one whose ends are NaNs, so that it never comes back
abbrev OutlinesAt : (nos : List ℕ) (fs : List Float) → Answer → List ℕ → Type 0
OutlinesAt nos fs a w = OutlinesMet nos fs 1 (7 ∷ 7 ∷ []) a w

abbrev nowhere : List Float
nowhere = nan ∷ nan ∷ nan ∷ nan ∷ []

none_met : OutlinesAt [] [] Done (0 ∷ 0 ∷ [])
unfolding outlines_of first_bad first_open open_if first_from
none_met = refl

open_met : OutlinesAt (0 ∷ []) nowhere (Refused left_open 0) (0 ∷ 0 ∷ [])
unfolding outlines_of first_bad first_open open_if first_from Outlines.left_open back_from last_of meets same_point same_bits line_at eq
open_met = refl

pub outlines_shut : Shut Answer (List ℕ) Refuses (OutlinesAt [] []) (OutlinesAt (0 ∷ []) nowhere) (7 ∷ 7 ∷ [])
outlines_shut =
    shut Answer (List ℕ) Refuses (OutlinesAt [] []) (OutlinesAt (0 ∷ []) nowhere) (7 ∷ 7 ∷ []) Done (Refused left_open 0) (0 ∷ 0 ∷ []) (0 ∷ 0 ∷ [])
    (λ a b m n p q. one_outlines [] [] 1 (7 ∷ 7 ∷ []) a b m n p q) (λ a b m n p q. one_outlines (0 ∷ []) nowhere 1 (7 ∷ 7 ∷ []) a b m n p q)
    none_met open_met (λ h. h) tt (λ e. let z : ◌≡◌ {A = ℕ} 0 7 = ap (λ (w : List ℕ). get_or w 0 0) e in omega arith)
