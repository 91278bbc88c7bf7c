-- A segment that is kept lies in its tile: all four of its end values are within 0..16, whatever the walk and the step; and its y_edge is finite, so
-- that a fill takes it. Assumes nothing.
use Prim.Native.Nat.{ℕ}
use native.Mathlib.Omega.{arith}
use mathlib.Core.Path.{◌≡◌, refl, ap, subst, ◌∙◌}
use mathlib.Core.Logic.{◌⊎◌, inl, inr}
use mathlib.Core.Bool.{Bool, true, false, cond, ◌&&◌}
use lib.Ieee.{Float, binary32, mul, eq, of_bits}
use lib.Ieee.Scale.{finite}
use Rattle.util.specs.Constants.{zero, two, tile_side, epsilon, no_edge}
use Rattle.walk.specs.declared.kinds.Walk.{Walk}
use Rattle.panel.specs.Segments.{InTile, held_of, Straight}
use Rattle.panel.proofs.BoolLaws.{both}
use Rattle.panel.proofs.HeldLaws.{held_in, within_finite}
use Rattle.segment.specs.Clips.{make_of, edge_of, off_of, turn_of, segment_of, piece_of}
use Rattle.panel.specs.declared.segments.Segment.{Segment}
use Rattle.segment.specs.Piece.{Kept, Crooked}

kept_if : (t : Bool) (r s : Segment) → cond t (Kept r) Crooked ≡ Kept s → (t ≡ true) × (r ≡ s)
kept_if true r s e = (refl, cc)
kept_if false r s e = let z : ◌≡◌ {A = ℕ} 0 1 = cc in absurd (omega arith)

pub kept_in : (w : Walk) (i : ℕ) (z : Float) (x y : ℕ) (s : Segment) → piece_of w i z x y ≡ Kept s → InTile s.p0 × InTile s.p1
unfolding piece_of
kept_in w i z x y s e =
    let r = segment_of w i z x y in
    let k = kept_if (held_of r.p0 && held_of r.p1) r s e in
    let h = both (held_of r.p0) (held_of r.p1) k.0 in
    rw (← k.1) (held_in r.p0 h.0, held_in r.p1 h.1)

-- ---- y_edge is 1e9, or the height of one of the ends

abbrev EdgeFrom : Segment → Type 0
EdgeFrom s = (s.y_edge ≡ no_edge) ⊎ ((s.y_edge ≡ s.p0.y) ⊎ (s.y_edge ≡ s.p1.y))

edge_from : (x0 y0 x1 y1 : Float) → EdgeFrom (edge_of x0 y0 x1 y1)
unfolding edge_of make_of
edge_from x0 y0 x1 y1 = go (eq x0 zero) (eq x1 zero) (eq y0 zero) (eq y1 zero)
  where
    go : (a b c d : Bool)
        → EdgeFrom
        (cond a
        (cond b
        (cond c (make_of epsilon y0 epsilon tile_side no_edge) (make_of epsilon y0 (mul binary32 two epsilon) y0 no_edge))
        (cond c (make_of epsilon y0 x1 y1 no_edge) (make_of x0 y0 x1 y1 y0)))
        (cond b (cond d (make_of x0 y0 epsilon y1 no_edge) (make_of x0 y0 x1 y1 y1)) (make_of x0 y0 x1 y1 no_edge)))
    go true true true d = inl refl
    go true true false d = inl refl
    go true false true d = inl refl
    go true false false d = inr (inl refl)
    go false true c true = inl refl
    go false true c false = inr (inr refl)
    go false false c d = inl refl

turn_from : (down : Bool) (s : Segment) → EdgeFrom s → EdgeFrom (turn_of down s)
unfolding turn_of off_of
turn_from true s (inl e) = inl e
turn_from true s (inr (inl e)) = inr (inl e)
turn_from true s (inr (inr e)) = inr (inr e)
turn_from false s (inl e) = inl e
turn_from false s (inr (inl e)) = inr (inr e)
turn_from false s (inr (inr e)) = inr (inl e)

edge_finite : (s : Segment) → EdgeFrom s → InTile s.p0 → InTile s.p1 → finite s.y_edge ≡ true
edge_finite s (inl e) p q = ap finite e ∙ no_edge_lem
  where
    no_edge_lem : finite no_edge ≡ true
    no_edge_lem = unfold of_bits in refl
edge_finite s (inr (inl e)) p q = ap finite e ∙ within_finite s.p0.y p.top p.bottom
edge_finite s (inr (inr e)) p q = ap finite e ∙ within_finite s.p1.y q.top q.bottom

-- what tiling writes, a fill takes
pub kept_straight : (w : Walk) (i : ℕ) (z : Float) (x y : ℕ) (s : Segment) → piece_of w i z x y ≡ Kept s → Straight s
unfolding piece_of segment_of
kept_straight w i z x y s e =
    let h = kept_in w i z x y s e in
    let r = segment_of w i z x y in
    let k = kept_if (held_of r.p0 && held_of r.p1) r s e in
    let f : EdgeFrom s = subst EdgeFrom k.1 (turn_from w.e.is_down _ (edge_from _ _ _ _)) in
    record { from_end = h.0; to_end = h.1; edge = edge_finite s f h.0 h.1 }
