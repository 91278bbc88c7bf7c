-- What the check of a step says and notes.
-- Assumes nothing.
use mathlib.Core.Path.{◌≡◌, refl, sym, ap, ◌∙◌, subst}
use mathlib.Core.Bool.{Bool, true, false, cond}
use mathlib.Core.List.{List}
use Prim.Native.Nat.{ℕ, ◌+◌, ◌-◌, ◌≤◌, ◌<◌}
use native.Mathlib.Nat.{le_refl}
use native.Mathlib.Omega.{arith}
use lib.Dec.{leb}
use lib.ListN.{length}
use lib.IntN.{ℤ}
use lib.Ieee.{Float}
use borrow.Author.Tests.{leb-true, leb-false}
use Rattle.panel.specs.Refusals.{outside}
use Rattle.panel.specs.declared.kinds.Path.{Path}
use Rattle.panel.specs.Verdict.{Verdict}
use Rattle.panel.specs.Verdict.{Fine, Against}
use Rattle.walk.specs.Step.{last_z_word}
use Rattle.walk.specs.declared.kinds.Pace.{Pace}
use Rattle.acts.specs.Acts.{Hit, on, off, check_no, step_acts}
use Rattle.acts.proofs.Laws.{check_off}
use Rattle.hits.specs.Steps.{hit_at}
use Rattle.hits.specs.Notes.{Told, note_words, OnTiles}
use Rattle.hits.proofs.StepLaws.{next_below, Hitting, hitting}
use Rattle.hits.proofs.NoteLaws.{word_told}
use Rattle.walk_steps.specs.Checks.{seen_of, word_by, noted_of, noted_to}
use Rattle.walk_steps.specs.Noted.{Passed as NotedPassed, Against as NotedAgainst}
use Rattle.walk_steps.specs.Seen.{Passed, Against as SeenAgainst}

-- what the check of a step says, taken apart
pub seen_passed : (v : Verdict) (u z : Float) → seen_of v u ≡ Passed z → (v ≡ Fine) × (z ≡ u)
seen_passed Fine u z e = (refl, cc)
seen_passed (Against n) u z e = let q : ◌≡◌ {A = ℕ} 0 1 = cc in absurd (omega arith)

pub seen_against : (v : Verdict) (u : Float) (n : ℕ) → seen_of v u ≡ SeenAgainst n → v ≡ Against n
seen_against Fine u n e = let q : ◌≡◌ {A = ℕ} 0 1 = cc in absurd (omega arith)
seen_against (Against m) u n e = let q : m ≡ n = cc in ap Against q

-- ---- what is noted

pub noted_passed : (v : Verdict) (u z : Float) (w k : ℕ) → noted_of v u w ≡ NotedPassed z k → (v ≡ Fine) × (z ≡ u) × (k ≡ w)
noted_passed Fine u z w k e = (refl, cc, cc)
noted_passed (Against n) u z w k e = let q : ◌≡◌ {A = ℕ} 0 1 = cc in absurd (omega arith)

pub noted_against : (v : Verdict) (u : Float) (w n : ℕ) → noted_of v u w ≡ NotedAgainst n → v ≡ Against n
noted_against Fine u w n e = let q : ◌≡◌ {A = ℕ} 0 1 = cc in absurd (omega arith)
noted_against (Against m) u w n e = let q : m ≡ n = cc in ap Against q

-- a step that passes its check is on a tile, and so its word tells
pub step_noted : (w : Pace) (b : Path) (i : ℕ) (δ : ℤ) (bs : List ℤ) (cs : List ℕ) → OnTiles b (length bs) (length cs) → check_no δ (step_acts (hit_at w b i) i) bs cs ≡ Fine
    → Told (hit_at w b i) (word_by (hit_at w b i)) (length bs)
step_noted w b i δ bs cs o e = go (hit_at w b i) refl
  where
    below : (n : ℕ) (c : Bool) → Hitting w b i n c → cond c (n + 1) n < length bs
    below n c a =
        let h : cond c (a.t.0 + 1) a.t.0 < length bs = omega (arith, next_below w b i a.t a.x a.y a.z a.fell (last_z_word w i) c a.marks, o.within, o.paired) in
        subst (λ (m : ℕ). cond c (m + 1) m < length bs) a.number h

    go : (h : Hit) → hit_at w b i ≡ h → Told (hit_at w b i) (word_by (hit_at w b i)) (length bs)
    go off f = let v : Against outside ≡ Fine = check_off δ (hit_at w b i) i bs cs f ∙ e in let q : ◌≡◌ {A = ℕ} 0 1 = cc in absurd (omega arith)
    go (on n c) f = subst (λ (h : Hit). Told h (word_by h) (length bs)) (sym f) (word_told n c (length bs) (below n c (hitting w b i n c f)))

pub not_fine : (n : ℕ) → Against n ≡ Fine → ⊥
not_fine n e = let q : ◌≡◌ {A = ℕ} 0 1 = cc in omega arith

-- the end of the steps that are noted lies in the walk
pub noted_end : (a b : ℕ) → a ≤ b → (a ≤ noted_to a b) × (noted_to a b ≤ b) × (noted_to a b - a ≤ note_words)
noted_end a b h = go (leb (b - a) note_words) refl
  where
    go : (c : Bool) → leb (b - a) note_words ≡ c → (a ≤ cond c b (a + note_words)) × (cond c b (a + note_words) ≤ b) × (cond c b (a + note_words) - a ≤ note_words)
    go true e = (h, le_refl b, leb-true (b - a) note_words e)
    go false e = let g = leb-false (b - a) note_words e in (omega arith, omega arith, omega arith)
