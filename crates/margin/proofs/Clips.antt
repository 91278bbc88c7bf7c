-- A line in a box with a margin isn't clipped: its steps are those below its count. Assumes nothing.
--     clip_few     the clipped walk's last step number is the line's count at most
use mathlib.Core.Path.{◌≡◌, sym, ◌∙◌, subst}
use mathlib.Core.Bool.{false}
use mathlib.Core.Logic.{◌⊎◌, inl, inr}
use Prim.Native.Nat.{ℕ, ◌+◌, ◌*◌, ◌/◌, ◌^◌, ◌≤◌, max}
use native.Mathlib.Omega.{arith}
use lib.Dec.{lit<}
use lib.Ieee.{Float, lt, of_int}
use lib.Ieee.Exact.{HasValue}
use borrow.Author.Tests.{le-ltb}
use Rattle.float32.specs.Meaning.{min_of, max_of}
use Rattle.float32.proofs.MinMax.{min_picks, max_picks}
use Rattle.float32.proofs.Whole.{whole_value}
use Rattle.util.specs.declared.Vec2.{Vec2}
use Rattle.panel.specs.declared.kinds.Path.{Path}
use Rattle.panel.proofs.LimitLaws.{small}
use Rattle.walk.specs.Num.{float}
use Rattle.walk.specs.Setup.{ends_of, walk_on}
use Rattle.walk.specs.Page.{line_of, by_parts}
use Rattle.walk.specs.Lent.{Reached}
use Rattle.walk.specs.Step.{Boxed}
use Rattle.walk.specs.declared.kinds.Walk.{Walk}
use Rattle.clip.specs.Clip.{first_step_of, last_step_of, rows_of, by_left_of, by_right_of, cols_of, clip_of}
use Rattle.clip.specs.declared.Clip.{Clip}
use Rattle.clip.specs.Page.{clipped_of, by_parts as clip_parts}
use Rattle.margin.specs.Room.{Inside}
use Rattle.margin.proofs.Ends.{value_lt, value_scale}
use Rattle.margin.proofs.Margin.{Roomy, ends_roomy}

number_value : (i : ℕ) → i ≤ 2 ^ 24 → HasValue (float i) false i 1
unfolding of_int
number_value i h = whole_value false i h

-- an edge against a coordinate of n 2 ^ -23ths
not_before : (x : Float) (n e : ℕ) → HasValue x false n 8388608 → e ≤ 2 ^ 24 → e ≤ n / 8388608 → lt x (float e) ≡ false
not_before x n e v b h =
    value_lt x (float e) n (e * 8388608) 8388608 (lit< tt) v (value_scale (float e) false e 8388608 (number_value e b)) ∙ le-ltb n (e * 8388608) (omega arith)

not_past : (x : Float) (n e : ℕ) → HasValue x false n 8388608 → e ≤ 2 ^ 24 → n / 8388608 + 1 ≤ e → lt (float e) x ≡ false
not_past x n e v b h =
    value_lt (float e) x (e * 8388608) n 8388608 (lit< tt) (value_scale (float e) false e 8388608 (number_value e b)) v ∙ le-ltb (e * 8388608) n (omega arith)

either : (a b m : Float) (P : Float → Type 0) → (m ≡ a) ⊎ (m ≡ b) → P a → P b → P m
either a b m P (inl e) p q = subst P (sym e) p
either a b m P (inr e) p q = subst P (sym e) q

module _ (w : Walk) (b : Path) (k : Boxed b) (r0 : Roomy b w.e.s0) (r1 : Roomy b w.e.s1) where
  x0_few : b.x0 ≤ 2 ^ 24
  x0_few = omega (arith, k.left, k.wide, small.edge)

  x1_few : b.x1 ≤ 2 ^ 24
  x1_few = omega (arith, k.wide, small.edge)

  top_clear : lt w.e.s0.y (float b.y0) ≡ false
  top_clear = not_before w.e.s0.y r0.gy.S b.y0 r0.gy.is (omega (arith, k.top, k.high, small.edge)) (omega (arith, r0.top))

  bottom_clear : lt (float b.y1) w.e.s1.y ≡ false
  bottom_clear = not_past w.e.s1.y r1.gy.S b.y1 r1.gy.is (omega (arith, k.high, small.edge)) (omega (arith, r1.bottom))

  left_first : lt w.e.s0.x (float b.x0) ≡ false
  left_first = not_before w.e.s0.x r0.gx.S b.x0 r0.gx.is x0_few (omega (arith, r0.left))

  left_last : lt w.e.s1.x (float b.x0) ≡ false
  left_last = not_before w.e.s1.x r1.gx.S b.x0 r1.gx.is x0_few (omega (arith, r1.left))

  right_first : lt (float b.x1) w.e.s0.x ≡ false
  right_first = not_past w.e.s0.x r0.gx.S b.x1 r0.gx.is x1_few (omega (arith, r0.right))

  right_last : lt (float b.x1) w.e.s1.x ≡ false
  right_last = not_past w.e.s1.x r1.gx.S b.x1 r1.gx.is x1_few (omega (arith, r1.right))

  abbrev least : Float
  least = min_of w.e.s0.x w.e.s1.x

  abbrev most : Float
  most = max_of w.e.s0.x w.e.s1.x

  left_min : lt least (float b.x0) ≡ false
  left_min = either w.e.s0.x w.e.s1.x least (λ (x : Float). lt x (float b.x0) ≡ false) (min_picks w.e.s0.x w.e.s1.x) left_first left_last

  left_max : lt most (float b.x0) ≡ false
  left_max = either w.e.s0.x w.e.s1.x most (λ (x : Float). lt x (float b.x0) ≡ false) (max_picks w.e.s0.x w.e.s1.x) left_first left_last

  right_max : lt (float b.x1) most ≡ false
  right_max = either w.e.s0.x w.e.s1.x most (λ (x : Float). lt (float b.x1) x ≡ false) (max_picks w.e.s0.x w.e.s1.x) right_first right_last

  own : (clip_of w b).imax ≤ w.k.count
  unfolding clip_of rows_of cols_of by_left_of by_right_of first_step_of last_step_of
  own = rw (top_clear, bottom_clear, left_max, left_min, right_max) (larger w.k.count)
    where
      larger : (n : ℕ) → max 0 n ≤ n
      larger n = omega arith

  walk_few : (clipped_of w b).imax ≤ w.k.count
  walk_few = subst (λ (c : Clip). c.imax ≤ w.k.count) (clip_parts w b) own

on_few : (p0 p1 : Vec2) (b : Path) → Boxed b → Reached p0 p1 → Inside b p0 → Inside b p1 → (clipped_of (walk_on (ends_of p0 p1)) b).imax ≤ (walk_on (ends_of p0 p1)).k.count
on_few p0 p1 b k h d e = let r = ends_roomy b p0 p1 h d e in walk_few (walk_on (ends_of p0 p1)) b k (unfold walk_on in r.0) (unfold walk_on in r.1)

pub clip_few : (p0 p1 : Vec2) (b : Path) → Boxed b → Reached p0 p1 → Inside b p0 → Inside b p1 → (clipped_of (line_of p0 p1) b).imax ≤ (line_of p0 p1).k.count
clip_few p0 p1 b k h d e = subst (λ (w : Walk). (clipped_of w b).imax ≤ w.k.count) (by_parts p0 p1) (on_few p0 p1 b k h d e)
