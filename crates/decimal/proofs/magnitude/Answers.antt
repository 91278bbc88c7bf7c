use mathlib.Core.Path.{◌≡◌, refl, sym, ap, ◌∙◌, subst}
use mathlib.Core.Bool.{false}
use Prim.Native.Nat.{ℕ, ◌*◌, ◌^◌, ◌≤◌, ◌<◌}
use native.Mathlib.Nat.{le_trans}
use lib.Dec.{T, le→leb, lit<, lit≤}
use lib.Pow.{pow_pos, pow_mono}
use lib.IntN.{pos}
use lib.Ieee.{binary32, in_float, of_int, div, round, of_bits}
use lib.Ieee.Exact.{HasValue}
use lib.Ieee.Back.{round_whole}
use lib.Ieee.Nearest.{closest}
use Rattle.decimal.specs.Scale.{Scaled}
use Rattle.decimal.proofs.Round.{div_whole, by_scale}
use Rattle.decimal.proofs.magnitude.Goals as goal

fits_float : (n : ℕ) → n ≤ 2 ^ 24 → T (in_float binary32 (pos n))
unfolding in_float
fits_float n h = le→leb n (2 ^ 24) h

of_int_lem : (n : ℕ) → n ≤ 2 ^ 24 → HasValue (of_int binary32 (pos n)) false n 1
unfolding of_int
of_int_lem n h = round_whole binary32 false n h

thousand : HasValue (of_bits binary32 0x447a_0000) false 1000 1
unfolding of_bits
thousand = (refl, refl)

pub w_most : (n w : ℕ) → Scaled n w → w ≤ 2 ^ 24
w_most n w r = subst (λ (x : ℕ). x ≤ 2 ^ 24) (sym r.power) (le_trans (pow_mono r.most) (lit≤ tt))

pub w_pos : (n w : ℕ) → Scaled n w → 0 < w
w_pos n w r = subst (λ (x : ℕ). 0 < x) (sym r.power) (pow_pos r.digits)

small : (n : ℕ) → n ≤ 16777216 → div binary32 (of_int binary32 (pos n)) (of_bits binary32 0x447a_0000) ≡ round binary32 false n 1000
small n h = div_whole (of_int binary32 (pos n)) (of_bits binary32 0x447a_0000) n 1000 (lit< tt) (of_int_lem n h) thousand

large : (n w q : ℕ) → Scaled n w → q ≡ closest (n * w) 1000 → (q ≤ 2 ^ 24) × (div binary32 (of_int binary32 (pos q)) (of_int binary32 (pos w)) ≡ round binary32 false n 1000)
large n w q r e =
    let b = by_scale n w r in
    let l : q ≤ 2 ^ 24 = subst (λ (x : ℕ). x ≤ 2 ^ 24) (sym e) b.0 in (
      l,
      div_whole (of_int binary32 (pos q)) (of_int binary32 (pos w)) q w (w_pos n w r) (of_int_lem q l) (of_int_lem w (w_most n w r)) ∙ ap (λ (x : ℕ). round binary32 false x w) e ∙ sym b.1,
    )

pub int_to_float-result : goal.int_to_float-result
int_to_float-result c = fits_float _ c.if-n-le16777216.true

pub returns-then-n-le16777216 : goal.returns-then-n-le16777216
returns-then-n-le16777216 c = small _ c.if-n-le16777216.true

pub int_to_float-result-2 : goal.int_to_float-result-2
int_to_float-result-2 c = fits_float _ (large _ _ _ c.scale-w.ensures (rw (c.from.ensures, c.from-2.ensures) at c.nearest-q.ensures)).0

pub int_to_float-result-3 : goal.int_to_float-result-3
int_to_float-result-3 c = fits_float _ (w_most _ _ c.scale-w.ensures)

pub returns : goal.returns
returns c = (large _ _ _ c.scale-w.ensures (rw (c.from.ensures, c.from-2.ensures) at c.nearest-q.ensures)).1
