-- The shown part of a screen as bytes: one answer only, of the call and so of what a caller in C or Rust sees; and no cheat meets its promise. Assumes nothing.
use mathlib.Core.Path.{◌≡◌, refl, sym, ap, ◌∙◌}
use mathlib.Core.List.{List, [], ◌∷◌}
use Prim.Native.Nat.{ℕ}
use native.Mathlib.Omega.{arith}
use lib.ListN.{get_or, replicate}
use Rattle.present.specs.Pixels.{rows_of}
use Rattle.present.specs.Present.{Left, whole_of, present_of, PresentMet}
use Rattle.theorems.proofs.StarredTable.{computing}
use Rattle.call_theorems.specs.Cheats.{Once, Shut, RefusesNumber}
use Rattle.call_theorems.proofs.Cheats.{shut}

pub one_present : (pixels : List ℕ) (screen w h stride order : ℕ) (out : List ℕ) (r s : ℕ) (out₁ out₂ : List ℕ)
    → PresentMet pixels screen w h stride order out r out₁ → PresentMet pixels screen w h stride order out s out₂ → (r ≡ s) × (out₁ ≡ out₂)
one_present pixels screen w h stride order out r s out₁ out₂ p q = let e = p ∙ sym q in (ap (λ (x : Left). x.number) e, ap (λ (x : Left). x.bytes) e)

-- one pixel of a row of two, into bytes that held 9; and with a stride that is a byte too short
abbrev PresentAt : (stride : ℕ) → ℕ → List ℕ → Type 0
PresentAt stride r out = PresentMet (67305985 ∷ 7 ∷ []) 2 1 1 stride 0 (replicate 4 9) r out

once_at : (stride : ℕ) → Once ℕ (List ℕ) (PresentAt stride)
once_at stride a b m n p q = one_present (67305985 ∷ 7 ∷ []) 2 1 1 stride 0 (replicate 4 9) a b m n p q

pub present_shut : Shut ℕ (List ℕ) RefusesNumber (PresentAt 4) (PresentAt 3) (replicate 4 9)
unfolding computing present_of whole_of rows_of
present_shut =
    shut ℕ (List ℕ) RefusesNumber (PresentAt 4) (PresentAt 3) (replicate 4 9) 0 1 (1 ∷ 2 ∷ 3 ∷ 4 ∷ []) (replicate 4 9) (once_at 4) (once_at 3)
    refl refl (λ h. h) tt (λ e. let z : ◌≡◌ {A = ℕ} 1 9 = ap (λ (m : List ℕ). get_or m 0 0) e in omega arith)
