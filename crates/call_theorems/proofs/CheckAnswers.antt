-- A check of another's tables: one answer only of what a caller in C or Rust sees; and no cheat meets its promise, saying yes to all or no to all among them.
-- Assumes nothing.
use mathlib.Core.Path.{◌≡◌, refl, sym, ap, ◌∙◌}
use mathlib.Core.List.{List, [], ◌∷◌}
use Prim.Native.Nat.{ℕ}
use native.Mathlib.Omega.{arith}
use lib.IntN.{ℤ}
use lib.ListN.{get_or, replicate}
use lib.Ieee.{Float}
use Rattle.panel.specs.Paths.{boxed}
use Rattle.panel.specs.Refusals.{not_whole}
use Rattle.tile_check.specs.Tables.{work_words, CheckMet}
use Rattle.tile_check.specs.Checked.{Checked, Yes, Reference, Refused}
use Rattle.groatpocket.specs.CallCheck.{CheckSeen, GpCheckMet}
use Rattle.theorems.specs.Starred.{floats_of}
use Rattle.check_theorems.proofs.Call.{one_check}
use Rattle.check_theorems.proofs.Examples.{looking, refs, counts, backs, stored}
use Rattle.call_theorems.specs.Cheats.{Shut, RefusesCheck}
use Rattle.call_theorems.proofs.Cheats.{shut}

pub one_gp_check : (nos : List ℕ) (coords : List Float) (paths rs cs : List ℕ) (bs : List ℤ) (ws : List ℕ) (room : ℕ) (work : List ℕ) (r s f g i j : ℕ) (w₁ w₂ : List ℕ)
    → GpCheckMet nos coords paths rs cs bs ws room work r f i w₁ → GpCheckMet nos coords paths rs cs bs ws room work s g j w₂
    → (r ≡ s) × (f ≡ g) × (i ≡ j) × (w₁ ≡ w₂)
one_gp_check nos coords paths rs cs bs ws room work r s f g i j w₁ w₂ p q =
    let e = p ∙ sym q in
    (ap (λ (x : CheckSeen). x.number) e, ap (λ (x : CheckSeen). x.found) e, ap (λ (x : CheckSeen). x.item) e, ap (λ (x : CheckSeen). x.work) e)

-- (8,8)-(8,24) over the box 0,0,2,2, with the tables that our own calls make of it, or with these references
abbrev CheckAt : (rs : List ℕ) → Checked → List ℕ → Type 0
CheckAt rs a w = CheckMet (0 ∷ []) (floats_of (8 ∷ 8 ∷ 8 ∷ 24 ∷ [])) (boxed 0 0 2 2 0) rs counts backs stored 2 (replicate (work_words 4 1 2) 7) a w

once_at : (rs : List ℕ) (a b : Checked) (v w : List ℕ) → CheckAt rs a v → CheckAt rs b w → (a ≡ b) × (v ≡ w)
once_at rs a b v w p q =
    one_check (0 ∷ []) (floats_of (8 ∷ 8 ∷ 8 ∷ 24 ∷ [])) (boxed 0 0 2 2 0) rs counts backs stored 2 (replicate (work_words 4 1 2) 7) a b v w p q

pub check_shut : Shut Checked (List ℕ) RefusesCheck (CheckAt refs) (CheckAt (0 ∷ [])) (replicate (work_words 4 1 2) 7)
unfolding looking
check_shut =
    shut Checked (List ℕ) RefusesCheck (CheckAt refs) (CheckAt (0 ∷ [])) (replicate (work_words 4 1 2) 7)
    Yes (Refused not_whole 0) (replicate (work_words 4 1 2) 0) (replicate (work_words 4 1 2) 7)
    (once_at refs) (once_at (0 ∷ []))
    refl refl (λ h. h) tt (λ e. let z : ◌≡◌ {A = ℕ} 0 7 = ap (λ (l : List ℕ). get_or l 0 0) e in omega arith)

-- no answer meets the promise of both, whatever is left: a yes to all, a no to all
pub neither_always : (a : Checked) (v w : List ℕ) → CheckAt refs a v → CheckAt (0 ∷ 0 ∷ 0 ∷ 0 ∷ []) a w → ⊥
unfolding looking
neither_always a v w p q =
    let y = (once_at refs a Yes v (replicate (work_words 4 1 2) 0) p refl).0 in
    let n = (once_at (0 ∷ 0 ∷ 0 ∷ 0 ∷ []) a (Reference 1) w (replicate (work_words 4 1 2) 0) q refl).0 in
    let both : Yes ≡ Reference 1 = sym y ∙ n in
    let z : ◌≡◌ {A = ℕ} 0 1 = cc in omega arith
