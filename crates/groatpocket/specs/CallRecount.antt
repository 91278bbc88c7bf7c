-- What a caller sees of a recount, and the same read off what its definition leaves. Definitions only.
use Rattle.std.specs.Prelude.{ℕ, ◌≡◌, List, [], ◌∷◌, ℤ, Float}
use Rattle.recount.specs.Recount as Recount

-- the number, the item's, the references made; then all that was lent to be changed
pub record RecountSeen : Type 0 where
  pub number : ℕ
  pub at : ℕ
  pub made : ℕ
  pub backs : List ℤ
  pub counts : List ℕ
  pub refs : List ℕ
  pub kept_backs : List ℤ
  pub kept_counts : List ℕ

abbrev pub recount_lent : ℕ → ℕ → ℕ → List ℤ → List ℕ → List ℕ → List ℤ → List ℕ → RecountSeen
recount_lent n i m bs cs rs kb kc = record { number = n; at = i; made = m; backs = bs; counts = cs; refs = rs; kept_backs = kb; kept_counts = kc }

-- read off the paper
abbrev pub recount_paper : List ℕ → List ℤ → List ℕ → List ℕ → List ℤ → List ℕ → RecountSeen
recount_paper [] bs cs rs kb kc = recount_lent 0 0 0 bs cs rs kb kc
recount_paper (n ∷ []) bs cs rs kb kc = recount_lent n 0 0 bs cs rs kb kc
recount_paper (n ∷ m ∷ []) bs cs rs kb kc = recount_lent n 0 m bs cs rs kb kc
recount_paper (n ∷ i ∷ m ∷ more) bs cs rs kb kc = recount_lent n i m bs cs rs kb kc

abbrev pub recount_seen : Recount.Out → RecountSeen
recount_seen o = recount_paper o.paper o.backs o.counts o.refs o.kept_backs o.kept_counts

-- the call's promise: what a caller sees is what the recount's definition leaves
abbrev pub GpRecountMet : (p : ℕ) (line_nos nos : List ℕ) (coords : List Float) (paths : List ℕ) (bs : List ℤ) (cs rs : List ℕ) (kb : List ℤ) (kc : List ℕ) → ℕ → ℕ → ℕ
    → (bs' : List ℤ) (cs' rs' : List ℕ) (kb' : List ℤ) (kc' : List ℕ) → Type 0
GpRecountMet p line_nos nos coords paths bs cs rs kb kc r at made bs' cs' rs' kb' kc' =
    recount_lent r at made bs' cs' rs' kb' kc' ≡ recount_seen (Recount.recounted_of p line_nos nos coords paths bs cs rs kb kc)
