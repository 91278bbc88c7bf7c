-- What a caller sees of a frame, and the same read off what its definition leaves. Definitions only.
use Rattle.std.specs.Prelude.{ℕ, ◌≡◌, List, [], ◌∷◌, ℤ, Float}
use Rattle.panel.specs.Pieces.{Pieces}
use Rattle.frame.specs.Frame as Frame

-- the number, the stage's, the item's, lines and references counted
pub record Told : Type 0 where
  pub number : ℕ
  pub stage : ℕ
  pub item : ℕ
  pub lines : ℕ
  pub made : ℕ

abbrev pub told_of : ℕ → ℕ → ℕ → ℕ → ℕ → Told
told_of n at i l m = record { number = n; stage = at; item = i; lines = l; made = m }

-- read off the paper
abbrev pub told_on : List ℕ → Told
told_on [] = told_of 0 0 0 0 0
told_on (n ∷ []) = told_of n 0 0 0 0
told_on (n ∷ l ∷ []) = told_of n 0 0 l 0
told_on (n ∷ l ∷ m ∷ []) = told_of n 0 0 l m
told_on (n ∷ at ∷ i ∷ l ∷ []) = told_of n at i l 0
told_on (n ∷ at ∷ i ∷ l ∷ m ∷ more) = told_of n at i l m

-- and all that was lent to be changed
pub record FrameSeen : Type 0 where
  pub told : Told
  pub backs : List ℤ
  pub stored : List ℕ
  pub tally : List ℕ
  pub refs : List ℕ
  pub pieces : Pieces

abbrev pub frame_lent : Told → List ℤ → List ℕ → List ℕ → List ℕ → Pieces → FrameSeen
frame_lent t bs ts ks rs p = record { told = t; backs = bs; stored = ts; tally = ks; refs = rs; pieces = p }

abbrev pub frame_seen : Frame.Out → FrameSeen
frame_seen o = frame_lent (told_on o.paper) o.backs o.stored o.tally o.refs o.pieces

-- the call's promise: what a caller sees is what the frame's definition leaves
abbrev pub GpFrameMet : (nos : List ℕ) (coords : List Float) (paths : List ℕ) (bs : List ℤ) (ts ks rs : List ℕ) (p : Pieces) → ℕ → ℕ → ℕ → ℕ → ℕ
    → (bs' : List ℤ) (ts' ks' rs' : List ℕ) (p' : Pieces) → Type 0
GpFrameMet nos coords paths bs ts ks rs p r stage item lines made bs' ts' ks' rs' p' =
    frame_lent (told_of r stage item lines made) bs' ts' ks' rs' p' ≡ frame_seen (Frame.frame_of nos coords paths bs ts ks rs p)
