-- For each call: what a caller sees of it, and the same read off what the stage's definition leaves. Definitions only.
use Rattle.std.specs.Prelude.{ℕ, ◌≡◌, not, List, [], ◌∷◌, eqb, ℤ, Float}
use Rattle.coverage.specs.Fill as Fill
use Rattle.fine.specs.Fine as Fine
use Rattle.bands.specs.Bands as Bands
use Rattle.backdrop.specs.Backdrop as Backdrop
use Rattle.hand_out.specs.HandOut as HandOut
use Rattle.looks.specs.Look.{Lent}
use Rattle.path_tiling.specs.Tiling as Tiling
use Rattle.path_count.specs.Count as Count
use Rattle.panel.specs.Pieces.{Pieces}
use Rattle.panel.specs.Kinds.{running_of}
use Rattle.groatpocket.specs.Seen.{no, item, Seen, seen, SeenAt, seen_at}

-- the area
abbrev pub fill_seen : Fill.Filled → Seen (List Float)
fill_seen f = seen (no f.answer) f.area

-- the backdrops
abbrev pub backdrop_seen : Backdrop.Out → SeenAt (List ℤ)
backdrop_seen o = seen_at (no o.paper) (item o.paper) o.backs

-- the stored words and the tally
abbrev pub handed : ℕ → List ℕ → List ℕ → Seen (List ℕ × List ℕ)
handed n stored tally = seen {L = List ℕ × List ℕ} n (stored, tally)

abbrev pub hand_seen : HandOut.Out → Seen (List ℕ × List ℕ)
hand_seen o = handed (no o.paper) o.stored o.tally

-- the segments and their tags
abbrev pub tile_seen : Tiling.Tiled → SeenAt Pieces
tile_seen t = seen_at (no t.paper) (item t.paper) t.pieces

-- the pixels
abbrev pub fine_seen : Fine.Shown → SeenAt (List ℕ)
fine_seen s = seen_at (no s.answer) (item s.answer) s.pixels

-- ---- counting carries running numbers: on paper they stand last

-- the number, the item, lines and references so far; then backdrops, counts and references
pub record CountSeen : Type 0 where
  pub number : ℕ
  pub at : ℕ
  pub lines : ℕ
  pub made : ℕ
  pub backs : List ℤ
  pub counts : List ℕ
  pub refs : List ℕ

abbrev pub count_lent : ℕ → ℕ → ℕ → ℕ → List ℤ → List ℕ → List ℕ → CountSeen
count_lent n i l m bs cs rs = record { number = n; at = i; lines = l; made = m; backs = bs; counts = cs; refs = rs }

abbrev pub count_paper : List ℕ → List ℤ → List ℕ → List ℕ → CountSeen
count_paper [] bs cs rs = count_lent 0 0 0 0 bs cs rs
count_paper (n ∷ []) bs cs rs = count_lent n 0 0 0 bs cs rs
count_paper (n ∷ l ∷ []) bs cs rs = count_lent n 0 l 0 bs cs rs
count_paper (n ∷ l ∷ m ∷ []) bs cs rs = count_lent n 0 l m bs cs rs
count_paper (n ∷ i ∷ l ∷ m ∷ more) bs cs rs = count_lent n i l m bs cs rs

abbrev pub count_seen : Count.Told → CountSeen
count_seen t = count_paper t.paper t.backs t.counts t.refs

-- ---- the promises of these calls: what a caller sees is what the stage's definition leaves

-- even-odd where the flag isn't 0
abbrev pub GpFillMet : List Float → ℕ → ℕ → ℕ → ℤ → Float → Float → (area : List Float) → ℕ → (area' : List Float) → Type 0
GpFillMet segs first n flag backdrop x y area r area' = seen r area' ≡ fill_seen (Fill.fill_of segs first n (not (eqb flag 0)) backdrop x y area)

abbrev pub GpBackdropMet : (paths : List ℕ) (bs : List ℤ) → ℕ → ℕ → (bs' : List ℤ) → Type 0
GpBackdropMet paths bs r at bs' = seen_at r at bs' ≡ backdrop_seen (Backdrop.backdrop_of paths bs)

abbrev pub GpHandMet : ℕ → (ns kept : List ℕ) → ℕ → (ns' kept' : List ℕ) → Type 0
GpHandMet room ns kept r ns' kept' = handed r ns' kept' ≡ hand_seen (HandOut.hand_out_of room ns kept)

abbrev pub GpTileMet : ℕ → ℕ → Lent → (p : Pieces) → ℕ → ℕ → (p' : Pieces) → Type 0
GpTileMet from to L p r at p' = seen_at r at p' ≡ tile_seen (Tiling.tiled_of from to L p)

abbrev pub GpFineMet : List ℕ → List Float → ℕ → ℕ → ℕ → ℕ → ℕ → (pixels : List ℕ) → ℕ → ℕ → (pixels' : List ℕ) → Type 0
GpFineMet words segs width cols rows from to pixels r at pixels' = seen_at r at pixels' ≡ fine_seen (Fine.fine_of words segs width cols rows from to pixels)

-- a band is seen as fine is, with its own pixels
abbrev pub GpFineRowsMet : List ℕ → List Float → ℕ → ℕ → ℕ → ℕ → ℕ → (pixels : List ℕ) → ℕ → ℕ → (pixels' : List ℕ) → Type 0
GpFineRowsMet words segs width cols rows first end pixels r at pixels' = seen_at r at pixels' ≡ fine_seen (Bands.band_of words segs width cols rows first end pixels)

-- from the lines and references so far, l and m, to those afterwards, l' and m'
abbrev pub GpCountMet : ℕ → ℕ → ℕ → (nos : List ℕ) (coords : List Float) (paths : List ℕ) (bs : List ℤ) (cs rs : List ℕ) → ℕ → ℕ → ℕ → ℕ → (bs' : List ℤ) (cs' rs' : List ℕ) → Type 0
GpCountMet l m end nos coords paths bs cs rs r at l' m' bs' cs' rs' =
    count_lent r at l' m' bs' cs' rs' ≡ count_seen (Count.counted (running_of l m) end nos coords paths bs cs rs)
