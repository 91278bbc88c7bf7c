-- What a caller sees of a drawing, and the same read off what its definition leaves. Definitions only.
use Rattle.std.specs.Prelude.{ℕ, ◌≡◌, List, ℤ, Float}
use Rattle.panel.specs.Pieces.{Pieces}
use Rattle.draw.specs.Draw as Draw
use Rattle.groatpocket.specs.CallFrame.{Told, told_of, told_on}

-- told as a frame tells it, and all that was lent to be changed
pub record DrawSeen : Type 0 where
  pub told : Told
  pub backs : List ℤ
  pub stored : List ℕ
  pub tally : List ℕ
  pub refs : List ℕ
  pub pieces : Pieces
  pub words : List ℕ
  pub pixels : List ℕ

abbrev pub draw_lent : Told → List ℤ → List ℕ → List ℕ → List ℕ → Pieces → List ℕ → List ℕ → DrawSeen
draw_lent t bs ts ks rs p ws px = record { told = t; backs = bs; stored = ts; tally = ks; refs = rs; pieces = p; words = ws; pixels = px }

abbrev pub draw_seen : Draw.Out → DrawSeen
draw_seen o = draw_lent (told_on o.paper) o.backs o.stored o.tally o.refs o.pieces o.words o.pixels

-- the call's promise: what a caller sees is what the drawing's definition leaves
abbrev pub GpDrawMet : (nos : List ℕ) (coords : List Float) (paths paints : List ℕ) (bs : List ℤ) (ts ks rs : List ℕ) (p : Pieces) (width cols rows : ℕ)
    (ws px : List ℕ) → ℕ → ℕ → ℕ → ℕ → ℕ → (bs' : List ℤ) (ts' ks' rs' : List ℕ) (p' : Pieces) (ws' px' : List ℕ) → Type 0
GpDrawMet nos coords paths paints bs ts ks rs p width cols rows ws px r stage item lines made bs' ts' ks' rs' p' ws' px' =
    draw_lent (told_of r stage item lines made) bs' ts' ks' rs' p' ws' px' ≡ draw_seen (Draw.draw_of nos coords paths paints bs ts ks rs p width cols rows ws px)
