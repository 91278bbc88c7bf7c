-- The walk's z, at every step of a checked line: where it is finite, it lies from -1 to two more than the step's number. Assumes nothing.
--     line_bounded     a and b of a checked line
--     z_least, z_most  z of a step, of such a and b
use mathlib.Core.Path.{◌≡◌, sym, ap, ◌∙◌, subst}
use mathlib.Core.Bool.{Bool, true, false, cond, true≢false}
use mathlib.Core.Logic.{◌⊎◌, inl, inr}
use Prim.Native.Nat.{ℕ, ◌+◌, ◌*◌, ◌^◌, ◌≤◌}
use native.Mathlib.Nat.{le_trans, le_of_eq, add-mul, one-mul, mul-one, zero-mul, mul_assoc, mul_comm, mul_right_comm, mul-pos, mul-le-mul_right}
use native.Mathlib.Omega.{arith}
use lib.Dec.{T, eqb, lit≤}
use lib.IntN.{pos}
use lib.Ieee.{Float, nan, inf, fin, binary32, up, down, unlike, add, mul, of_int}
use lib.Ieee.Fits.{down_pos}
use lib.Ieee.Exact.{HasValue}
use lib.Ieee.Scale.{finite}
use Rattle.float32.specs.Meaning.{up_div, sign_of}
use Rattle.float32.proofs.Whole.{whole_value}
use Rattle.float32.proofs.Laws.{up_most}
use Rattle.util.specs.declared.Vec2.{Vec2}
use Rattle.exact.specs.Whole.{floor_z, Small}
use Rattle.exact.proofs.Exact.{floor_finite}
use Rattle.exact.proofs.Bounds.{small_round, small_finite, floor_small}
use Rattle.exact.proofs.Signs.{plus_of, minus_of, abs_parts, neg_minus}
use Rattle.walk.specs.Num.{float}
use Rattle.walk.specs.Setup.{ends_of, counts_of, slope_of, b_of, walk_on}
use Rattle.walk.specs.Page.{line_of, by_parts}
use Rattle.walk.specs.Lent.{Reached}
use Rattle.walk.specs.Step.{z_at}
use Rattle.walk.specs.declared.kinds.Walk.{Walk}
use Rattle.walk.proofs.Counts.{ends_scaled}
use Rattle.walk.proofs.AroundLaws.{ends_ordered}
use Rattle.walk.proofs.StepTiles.{z_whole}
use Rattle.errors.specs.Sizes.{AtMost, Plus}
use Rattle.errors.proofs.Sizes.{add_small}
use Rattle.errors.proofs.Signs.{round_plus, add_plus, mul_plus, add_low}
use Rattle.errors.proofs.Slopes.{Lean, Start, rise_lean, start_in}

-- ---- a and b
pub record Bounded (a b : Float) : Type 0 where
  pub lean : T (finite a) → Lean a
  pub start : Start b

on_bounded : (p0 p1 : Vec2) → Reached p0 p1 → Bounded (walk_on (ends_of p0 p1)).pace.a (walk_on (ends_of p0 p1)).pace.b
unfolding walk_on
on_bounded p0 p1 h =
    let s0 = (ends_of p0 p1).s0 in
    let s1 = (ends_of p0 p1).s1 in
    let c = ends_scaled p0 p1 h in
    let o = ends_ordered p0 p1 h in
    record { lean = rise_lean s0 s1 c.0 c.1 o (counts_of s0 s1) (b_of (slope_of s0 s1) s0); start = start_in s0 s1 c.0 c.1 o }

pub line_bounded : (p0 p1 : Vec2) → Reached p0 p1 → Bounded (line_of p0 p1).pace.a (line_of p0 p1).pace.b
line_bounded p0 p1 h = subst (λ (w : Walk). Bounded w.pace.a w.pace.b) (by_parts p0 p1) (on_bounded p0 p1 h)

-- ---- a step's number as a float
number_value : (i : ℕ) → i ≤ 2 ^ 24 → HasValue (float i) false i 1
unfolding of_int
number_value i h = whole_value false i h

number_plus : (i : ℕ) → sign_of (float i) ≡ false
unfolding of_int
number_plus i = round_plus i 1

-- ---- a i
-- A / D is 1 + 2 ^ -22 at most, so A / D times i is i + 1 at most
grow : (A D i : ℕ) → A * 4194304 ≤ 4194305 * D → i ≤ 4194304 → A * i ≤ (i + 1) * D
grow A D i h l =
    let g : A * i * 4194304 ≤ 4194305 * (D * i) = le_trans (le_of_eq (mul_right_comm A i 4194304)) (le_trans (mul-le-mul_right i h) (le_of_eq (mul_assoc 4194305 D i))) in
    omega (arith, mul-le-mul_right D l, mul_comm D i, add-mul i 1 D, one-mul D)

shrink : (A D i : ℕ) → A * 4194304 ≤ 1 * D → i ≤ 4194304 → A * i ≤ 1 * D
shrink A D i h l = omega (arith, mul-le-mul_right A l, mul_comm i A, mul_comm 4194304 A)

-- A / D times B / E, where B / E is i
over : (A D B E i N : ℕ) → A * i ≤ N * D → B * 1 ≡ i * E → A * B ≤ N * (D * E)
over A D B E i N h e =
    le_trans (le_of_eq (ap (λ (z : ℕ). A * z) (sym (mul-one B) ∙ e) ∙ sym (mul_assoc A i E)))
    (le_trans (mul-le-mul_right E h) (le_of_eq (mul_assoc N D E)))

times_small : (a f : Float) (p i N : ℕ) → N ≤ 2 ^ 24 → AtMost a p 4194304 → HasValue f false i 1
    → ((A D : ℕ) → A * 4194304 ≤ p * D → A * i ≤ N * D) → Small (mul binary32 a f) N
unfolding mul
times_small nan f p i N n h v g = absurd h
times_small (inf s) f p i N n h v g = absurd h
times_small (fin s m e) nan p i N n h v g = absurd v
times_small (fin s m e) (inf t) p i N n h v g = absurd v
times_small (fin s m e) (fin t b d) p i N n h v g =
    small_round (unlike s t) (m * up e * (b * up d)) (down e * down d) N (mul-pos (down_pos e) (down_pos d)) n
    (over (m * up e) (down e) (b * up d) (down d) i N (g (m * up e) (down e) h) v.1)

-- ---- floors
pub floor_plus : (x : Float) → Plus x → minus_of (floor_z x) ≤ 0
unfolding floor_z sign_of
floor_plus nan p = lit≤ tt
floor_plus (inf s) p = lit≤ tt
floor_plus (fin false m e) p = lit≤ tt
floor_plus (fin true m e) (inl p) = absurd (true≢false p)
floor_plus (fin true m e) (inr p) =
    let u = up_div (m * up e) (down e) in
    let z : m * up e ≤ 0 * down e = omega (arith, ap (λ (k : ℕ). k * up e) p, zero-mul (up e)) in
    omega (arith, up_most (m * up e) (down e) 0 (down_pos e) z, neg_minus (pos u))

-- ---- what is finite was made of what is finite
no : (b u : Bool) → T (finite (cond b nan (inf u))) → ⊥
no true u f = f
no false u f = f

factor_finite : (x y : Float) → T (finite (mul binary32 x y)) → T (finite x)
unfolding mul
factor_finite nan y f = absurd f
factor_finite (inf s) nan f = absurd f
factor_finite (inf s) (inf t) f = absurd f
factor_finite (inf s) (fin t n d) f = absurd (no (eqb n 0) (unlike s t) f)
factor_finite (fin s m e) y f = tt

part_finite : (x y : Float) (N : ℕ) → Small y N → T (finite (add binary32 x y)) → T (finite x)
unfolding add
part_finite nan y N h f = absurd f
part_finite (inf s) nan N h f = absurd f
part_finite (inf s) (inf t) N h f = absurd h
part_finite (inf s) (fin t n d) N h f = absurd f
part_finite (fin s m e) y N h f = tt

-- ---- z
module _ (a b : Float) (w : Bounded a b) (i : ℕ) (few : i ≤ 2 ^ 22) (f : T (finite (z_at a b (float i)))) where
  abbrev v : Float
  v = add binary32 (mul binary32 a (float i)) b

  a_lean : Lean a
  unfolding z_at
  a_lean = w.lean (factor_finite a (float i) (part_finite (mul binary32 a (float i)) b 1 w.start.most (floor_finite v f)))

  product_small : Small (mul binary32 a (float i)) (i + 1)
  product_small = times_small a (float i) 4194305 i (i + 1) (omega arith) a_lean.most (number_value i (omega arith)) (λ A D h. grow A D i h few)

  pub z_most : plus_of (z_whole a b (float i)) ≤ i + 2
  z_most = omega (arith, floor_small v (i + 1 + 1) (add_small (mul binary32 a (float i)) b (i + 1) 1 (omega arith) product_small w.start.most), abs_parts (floor_z v))

  pub z_least : minus_of (z_whole a b (float i)) ≤ 1
  z_least = go a_lean.low
    where
      low : Plus v ⊎ Small v 1 → minus_of (floor_z v) ≤ 1
      low (inl p) = omega (arith, floor_plus v p)
      low (inr s) = omega (arith, floor_small v 1 s, abs_parts (floor_z v))

      go : (sign_of a ≡ false) ⊎ AtMost a 1 4194304 → minus_of (floor_z v) ≤ 1
      go (inl s) = omega (arith, floor_plus v (add_plus (mul binary32 a (float i)) b (mul_plus a (float i) (inl s) (inl (number_plus i))) w.start.plus))
      go (inr s) =
          low
          (add_low (mul binary32 a (float i)) b (times_small a (float i) 1 i 1 (lit≤ tt) s (number_value i (omega arith)) (λ A D h. shrink A D i h few)) (small_finite b 1 w.start.most)
          w.start.plus)
