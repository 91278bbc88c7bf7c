-- A reference leaves as many segments, and as many tags (one_long). Assumes nothing.
use Prim.Native.Nat.{ℕ}
use mathlib.Core.Path.{◌≡◌, refl, sym, ap, subst, ◌∙◌}
use lib.ListN.{length}
use Rattle.panel.specs.Pieces.{Pieces, placed}
use Rattle.panel.specs.Verdict.{Verdict}
use Rattle.panel.specs.declared.segments.Segment.{Segment}
use Rattle.panel.proofs.PieceLaws.{as_long, as_many}
use Rattle.looks.specs.One.{One, one, one_of}
use Rattle.looks.specs.Looked.{Look, Put, Empty, Against}

pub record AsLong (p q : Pieces) : Type 0 where
  pub segments : length q.segments ≡ length p.segments
  pub tags : length q.tags ≡ length p.tags

pub long_self : (p : Pieces) → AsLong p p
long_self p = record { segments = refl; tags = refl }

pub long_then : {p q r : Pieces} → AsLong p q → AsLong q r → AsLong p r
long_then a b = record { segments = b.segments ∙ a.segments; tags = b.tags ∙ a.tags }

pub long_placed : (slot : ℕ) (s : Segment) (tag : ℕ) (p : Pieces) → AsLong p (placed slot s tag p)
long_placed slot s tag p = record { segments = as_long slot s tag p; tags = as_many slot s tag p }

one_then : (tag : ℕ) (l : Look) (p : Pieces) → AsLong p (one_of tag l p).pieces
one_then tag (Put slot s) p = long_placed slot.0 s tag p
one_then tag Empty p = long_self p
one_then tag (Against why) p = long_self p

pub one_long : (tag : ℕ) (l : Look) (v : Verdict) (p q : Pieces) → one v q ≡ one_of tag l p → AsLong p q
one_long tag l v p q e = subst (AsLong p) (sym (ap (λ (o : One). o.pieces) e)) (one_then tag l p)
