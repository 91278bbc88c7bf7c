-- A floor isn't above its number, a ceiling not below, and the floor's next whole number isn't either. Assumes nothing.
use mathlib.Core.Path.{◌≡◌, refl, sym, ap, ◌∙◌}
use mathlib.Core.Bool.{true, false}
use Prim.Native.Nat.{ℕ, ◌+◌, ◌-◌, ◌*◌, ◌/◌, ◌%◌, ◌≤◌, ◌<◌}
use native.Mathlib.Nat.{le_trans, le_of_eq, mul_right_comm, add-mul, one-mul, mul-le-mul_right, mod-lt, div-add-mod', div-mul-le_self, lt-div-mul-add}
use native.Mathlib.Omega.{arith}
use lib.Dec.{T}
use lib.IntN.{pos, neg_ℤ, ◌+ℤ◌}
use lib.Ieee.{Float, nan, inf, fin, binary32, up, down, lt, fits}
use lib.Ieee.Fits.{down_pos}
use lib.Ieee.Scale.{finite}
use borrow.Author.Tests.{le-ltb}
use Rattle.float32.specs.Meaning.{whole, up_div, floor_of, ceil_of}
use Rattle.float32.proofs.Floors.{lt_plus, gt_plus, lt_minus, gt_minus, trunc_exact, under}
use Rattle.float32.proofs.Laws.{up_exact}
use Rattle.exact.specs.Whole.{IsWhole, floor_z}
use Rattle.exact.proofs.Signs.{plus_of, minus_of, neg_plus, neg_minus, sum_parts}

-- ---- A / D taken up
up_reach : (A D : ℕ) → 0 < D → A ≤ up_div A D * D
up_reach A D p = go (up_div A D * D) ((A + (D - 1)) % D) (div-add-mod' (A + (D - 1)) D) (mod-lt (A + (D - 1)) p)
  where
    go : (x r : ℕ) → x + r ≡ A + (D - 1) → r < D → A ≤ x
    go x r e l = omega arith

up_least : (A D : ℕ) → up_div A D * D ≤ A + (D - 1)
up_least A D = div-mul-le_self (A + (D - 1)) D

-- ---- floor and ceiling
pub floor_not_above : (x : Float) → T (fits binary32 x) → T (finite x) → lt x (floor_of x) ≡ false
unfolding floor_of
floor_not_above nan h f = absurd f
floor_not_above (inf s) h f = absurd f
floor_not_above (fin false m e) h f = lt_plus m e (whole false (m * up e / down e)) (m * up e / down e) (trunc_exact false m e h) ∙ under (m * up e) (down e)
floor_not_above (fin true m e) h f =
    let u = up_div (m * up e) (down e) in
    lt_minus m e (whole true u) u (up_exact true m e h) ∙ le-ltb (u * down e) (m * up e) (up_reach (m * up e) (down e) (down_pos e))

pub ceil_not_below : (x : Float) → T (fits binary32 x) → T (finite x) → lt (ceil_of x) x ≡ false
unfolding ceil_of
ceil_not_below nan h f = absurd f
ceil_not_below (inf s) h f = absurd f
ceil_not_below (fin false m e) h f =
    let u = up_div (m * up e) (down e) in
    gt_plus m e (whole false u) u (up_exact false m e h) ∙ le-ltb (u * down e) (m * up e) (up_reach (m * up e) (down e) (down_pos e))
ceil_not_below (fin true m e) h f = gt_minus m e (whole true (m * up e / down e)) (m * up e / down e) (trunc_exact true m e h) ∙ under (m * up e) (down e)

-- ---- the whole number after the floor
above : (A D B d k q : ℕ) → A < q * D + D → B ≡ k * d → k ≡ q + 1 → A * d ≤ B * D
above A D B d k q h b e =
    let l : A ≤ k * D = omega (arith, ap (λ (z : ℕ). z * D) e, add-mul q 1 D, one-mul D) in
    le_trans (mul-le-mul_right d l) (le_of_eq (mul_right_comm k D d ∙ ap (λ (z : ℕ). z * D) (sym b)))

below : (A D B d k u : ℕ) → 0 < D → u * D ≤ A + (D - 1) → B ≡ k * d → u ≡ k + 1 → B * D ≤ A * d
below A D B d k u p h b e =
    let l : k * D ≤ A = omega (arith, ap (λ (z : ℕ). z * D) e, add-mul k 1 D, one-mul D) in
    le_trans (le_of_eq (ap (λ (z : ℕ). z * D) b ∙ mul_right_comm k d D)) (mul-le-mul_right d l)

plus_next : (q k : ℕ) → pos q +ℤ pos 1 ≡ pos k → k ≡ q + 1
plus_next q k e = omega (arith, ap plus_of e, sum_parts (pos q) (pos 1))

no_next : (q k : ℕ) → pos q +ℤ pos 1 ≡ neg_ℤ (pos k) → ⊥
no_next q k e = omega (arith, ap plus_of e, sum_parts (pos q) (pos 1), neg_plus (pos k))

minus_next : (u k : ℕ) → neg_ℤ (pos u) +ℤ pos 1 ≡ neg_ℤ (pos k) → u ≡ k + 1
minus_next u k e = omega (arith, ap plus_of e, ap minus_of e, sum_parts (neg_ℤ (pos u)) (pos 1), neg_plus (pos k), neg_minus (pos k), neg_plus (pos u), neg_minus (pos u))

pub next_not_below : (x y : Float) → T (finite x) → IsWhole y (floor_z x +ℤ pos 1) → lt y x ≡ false
unfolding lt floor_z
next_not_below nan y f w = absurd f
next_not_below (inf s) y f w = absurd f
next_not_below (fin s m e) nan f w = absurd w
next_not_below (fin s m e) (inf t) f w = absurd w
next_not_below (fin false m e) (fin true b d) f w = absurd (no_next (m * up e / down e) w.0 w.2)
next_not_below (fin true m e) (fin false b d) f w = refl
next_not_below (fin false m e) (fin false b d) f w =
    le-ltb (b * up d * down e) (m * up e * down d)
    (above (m * up e) (down e) (b * up d) (down d) w.0 (m * up e / down e) (lt-div-mul-add (down_pos e)) w.1 (plus_next (m * up e / down e) w.0 w.2))
next_not_below (fin true m e) (fin true b d) f w =
    le-ltb (m * up e * down d) (b * up d * down e)
    (below (m * up e) (down e) (b * up d) (down d) w.0 (up_div (m * up e) (down e)) (down_pos e) (up_least (m * up e) (down e)) w.1 (minus_next (up_div (m * up e) (down e)) w.0 w.2))
