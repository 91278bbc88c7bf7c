-- An end that is held is in its tile, and no other is; so of a whole segment. Assumes nothing.
use mathlib.Core.Path.{◌≡◌, refl, sym, ◌∙◌}
use mathlib.Core.Bool.{Bool, true, false, ◌&&◌, false≢true}
use lib.Ieee.{Float, nan, inf, fin, of_bits, le}
use lib.Ieee.Scale.{finite}
use Rattle.util.specs.Constants.{zero, tile_side}
use Rattle.util.specs.declared.Vec2.{Vec2}
use Rattle.panel.specs.Segments.{InTile, held_of, straight_of, Straight}
use Rattle.panel.specs.declared.segments.Segment.{Segment}
use Rattle.panel.proofs.BoolLaws.{both}

pub held_in : (p : Vec2) → held_of p ≡ true → InTile p
unfolding held_of
held_in p e =
    let h = both (le zero p.x && le p.x tile_side) (le zero p.y && le p.y tile_side) e in
    let x = both (le zero p.x) (le p.x tile_side) h.0 in
    let y = both (le zero p.y) (le p.y tile_side) h.1 in
    record { left = x.0; right = x.1; top = y.0; bottom = y.1 }

pub in_held : (p : Vec2) → InTile p → held_of p ≡ true
unfolding held_of
in_held p h = rw (h.left, h.right, h.top, h.bottom)

pub held_not : (p : Vec2) → (InTile p → ⊥) → held_of p ≡ false
held_not p h = go (held_of p) refl
  where
    go : (b : Bool) → held_of p ≡ b → b ≡ false
    go true e = absurd (h (held_in p e))
    go false e = refl

-- what lies in 0..16 is finite
pub within_finite : (x : Float) → le zero x ≡ true → le x tile_side ≡ true → finite x ≡ true
unfolding le of_bits
within_finite nan l u = absurd (false≢true l)
within_finite (inf true) l u = absurd (false≢true l)
within_finite (inf false) l u = absurd (false≢true u)
within_finite (fin s m e) l u = refl

pub straight_is : (s : Segment) → straight_of s ≡ true → Straight s
unfolding straight_of
straight_is s e =
    let h = both (held_of s.p0 && held_of s.p1) (finite s.y_edge) e in
    let k = both (held_of s.p0) (held_of s.p1) h.0 in
    record { from_end = held_in s.p0 k.0; to_end = held_in s.p1 k.1; edge = h.1 }

pub is_straight : (s : Segment) → Straight s → straight_of s ≡ true
unfolding straight_of
is_straight s h = rw (in_held s.p0 h.from_end, in_held s.p1 h.to_end, h.edge)

pub not_straight : (s : Segment) → (Straight s → ⊥) → straight_of s ≡ false
not_straight s h = go (straight_of s) refl
  where
    go : (b : Bool) → straight_of s ≡ b → b ≡ false
    go true e = absurd (h (straight_is s e))
    go false e = refl

pub crooked_not : (s : Segment) → straight_of s ≡ false → Straight s → ⊥
crooked_not s e h = false≢true (sym e ∙ is_straight s h)
