-- What tiling leaves, a fill takes: where no reference that counting made was refused, each slot below their number holds a segment with both ends in
-- its tile and a finite y_edge. So it is never refused with 20. Assumes nothing.
use mathlib.Core.Path.{◌≡◌, sym, subst}
use mathlib.Core.List.{List, [], ◌∷◌}
use Prim.Native.Nat.{ℕ, ◌<◌}
use native.Mathlib.Decide.{ℕ_discrete}
use native.Mathlib.Omega.{arith}
use lib.Ieee.{Float}
use Rattle.panel.specs.Pieces.{Pieces}
use Rattle.lists.specs.Run.{All}
use Rattle.lists.specs.Occ.{occ, is_other}
use Rattle.panel.specs.Segments.{segment_at, Straight}
use Rattle.panel.specs.Answer.{Done}
use Rattle.path_tiling.specs.Tiling.{Write, Range, applied}
use Rattle.theorems.specs.Stray.{written_to, OwnWrite, NoStray}

module _ (nos : List ℕ) (coords : List Float) (paths cs rs : List ℕ) (m : ℕ) where
  -- a slot that is among those written holds what was written there
  among : (us : List Write) (l : List Float) (k : ℕ) → All (OwnWrite nos coords paths cs rs m) us → All (λ w. segment_at l w.slot ≡ w.segment) us
      → 0 < occ k (written_to us) → Straight (segment_at l k)
  among [] l k own kept h = absurd (omega arith)
  among (w ∷ us) l k own kept h = go (ℕ_discrete w.slot k) (among us l k own.1 kept.1)
    where
      go : Dec (w.slot ≡ k) → (0 < occ k (written_to us) → Straight (segment_at l k)) → Straight (segment_at l k)
      go (yes e) ih = subst (λ (i : ℕ). Straight (segment_at l i)) e (subst Straight (sym kept.0) own.0.straight)
      go (no e) ih = ih (omega (arith, is_other w.slot k e, h))

  pub tiled_straight : (p : Pieces) (r : Range) → NoStray nos coords paths cs rs m p r → r.answer ≡ Done
      → (k : ℕ) → k < m → Straight (segment_at (applied r.writes p).segments k)
  tiled_straight p r s e k h = among r.writes (applied r.writes p).segments k s.each s.kept (omega (arith, s.once e k h))
