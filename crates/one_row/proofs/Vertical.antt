-- A vertical segment goes down for its y_edge: signum of 0 is 1, so a y_edge lent inside the tile is kept, and not lost. Assumes nothing.
use Prim.Native.Nat.{ℕ}
use mathlib.Core.Path.{◌≡◌, refl, ap, ◌∙◌}
use lib.Dec.{T}
use lib.IntN.{pos}
use lib.Ieee.{Float, binary32, add, sub, mul, of_bits, of_int}
use lib.Ieee.Scale.{finite}
use Rattle.float32.specs.Meaning.{signum_of, clamp_of}
use Rattle.util.specs.Constants as Number
use Rattle.rounded.proofs.Zeros.{less_itself}
use Rattle.one_row.specs.Row.{way_of, row_of}
use Rattle.panel.specs.declared.segments.Segment.{Segment}

plus_sign : signum_of Number.zero ≡ Number.one
unfolding signum_of of_bits
plus_sign = refl

pub vertical_sign : (s : Segment) (xt : Float) → s.p1.x ≡ s.p0.x → T (finite s.p0.x) → (way_of s xt).sign ≡ Number.one
unfolding way_of
vertical_sign s xt e t = ap (λ (x : Float). signum_of (sub binary32 x s.p0.x)) e ∙ ap signum_of (less_itself s.p0.x t) ∙ plus_sign

-- what y_edge adds to the row yi: 1 times how much of the row lies below it
pub vertical_edge : (s : Segment) (xt yt : Float) (yi : ℕ) → s.p1.x ≡ s.p0.x → T (finite s.p0.x)
    → (row_of (way_of s xt) yt yi).edge ≡ mul binary32 Number.one (clamp_of (add binary32 (sub binary32 (add binary32 yt (of_int binary32 (pos yi))) s.y_edge) Number.one) Number.zero Number.one)
unfolding row_of way_of
vertical_edge s xt yt yi e t =
    ap (λ (x : Float). mul binary32 x (clamp_of (add binary32 (sub binary32 (add binary32 yt (of_int binary32 (pos yi))) s.y_edge) Number.one) Number.zero Number.one)) (vertical_sign s xt e t)
