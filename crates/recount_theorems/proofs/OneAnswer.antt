-- One answer only: what meets a recount's promise is fixed by it, answer and contents alike. Assumes nothing.
use mathlib.Core.Path.{◌≡◌, sym, ap, ◌∙◌}
use mathlib.Core.List.{List}
use Prim.Native.Nat.{ℕ}
use native.Mathlib.Omega.{arith}
use lib.IntN.{ℤ}
use lib.Ieee.{Float}
use Rattle.new_lines.specs.Own.{paper_of}
use Rattle.new_lines.specs.Recounted.{Recounted, Done, Refused}
use Rattle.kept_range.specs.Kept.{Out, out_of}
use Rattle.recount.specs.Recount.{RecountMet}

recounted_once : (a b : Recounted) → paper_of a ≡ paper_of b → a ≡ b
recounted_once (Done m) (Done n) e = let q : m ≡ n = cc in ap Done q
recounted_once (Done m) (Refused n i k) e = let z : ◌≡◌ {A = ℕ} 0 1 = cc in absurd (omega arith)
recounted_once (Refused n i k) (Done m) e = let z : ◌≡◌ {A = ℕ} 0 1 = cc in absurd (omega arith)
recounted_once (Refused n i k) (Refused m j l) e =
    let x : n ≡ m = cc in
    let y : i ≡ j = cc in
    let z : k ≡ l = cc in
    rw (x, y, z)

pub one_recount : (p : ℕ) (line_nos nos : List ℕ) (coords : List Float) (paths : List ℕ) (bs : List ℤ) (cs rs : List ℕ) (kb : List ℤ) (kc : List ℕ)
    → (r : Recounted) (bs₁ : List ℤ) (cs₁ rs₁ : List ℕ) (kb₁ : List ℤ) (kc₁ : List ℕ) → RecountMet p line_nos nos coords paths bs cs rs kb kc r bs₁ cs₁ rs₁ kb₁ kc₁
    → (q : Recounted) (bs₂ : List ℤ) (cs₂ rs₂ : List ℕ) (kb₂ : List ℤ) (kc₂ : List ℕ) → RecountMet p line_nos nos coords paths bs cs rs kb kc q bs₂ cs₂ rs₂ kb₂ kc₂
    → (r ≡ q) × (bs₁ ≡ bs₂) × (cs₁ ≡ cs₂) × (rs₁ ≡ rs₂) × (kb₁ ≡ kb₂) × (kc₁ ≡ kc₂)
one_recount p line_nos nos coords paths bs cs rs kb kc r bs₁ cs₁ rs₁ kb₁ kc₁ d q bs₂ cs₂ rs₂ kb₂ kc₂ e =
    let same : out_of r bs₁ cs₁ rs₁ kb₁ kc₁ ≡ out_of q bs₂ cs₂ rs₂ kb₂ kc₂ = d ∙ sym e in (
      recounted_once r q (ap (λ (o : Out). o.paper) same),
      ap (λ (o : Out). o.backs) same,
      ap (λ (o : Out). o.counts) same,
      ap (λ (o : Out). o.refs) same,
      ap (λ (o : Out). o.kept_backs) same,
      ap (λ (o : Out). o.kept_counts) same,
    )
