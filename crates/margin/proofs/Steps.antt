-- How many steps a line has in a box with a margin: as many as tiles lie between its ends, across and down, and one. Assumes nothing.
--     steps_most_lem    the line's count
use mathlib.Core.Path.{◌≡◌, refl, subst}
use mathlib.Core.Bool.{Bool, true, false, cond}
use Prim.Native.Nat.{ℕ, ◌+◌, ◌-◌, ◌/◌, ◌≤◌}
use native.Mathlib.Omega.{arith}
use lib.Ieee.{le, lt, to_unsigned}
use Rattle.util.specs.Constants.{tile_scale}
use Rattle.util.specs.Vec.{scale_of}
use Rattle.util.specs.Span.{span_of}
use Rattle.util.specs.declared.Vec2.{Vec2}
use Rattle.panel.specs.declared.kinds.Path.{Path}
use Rattle.walk.specs.Setup.{Scaled, ends_of, counts_of, walk_on}
use Rattle.walk.specs.Page.{line_of, by_parts}
use Rattle.walk.specs.Lent.{Reached}
use Rattle.walk.specs.declared.kinds.Walk.{Walk}
use Rattle.walk.proofs.Counts.{ends_scaled}
use Rattle.walk.proofs.AroundLaws.{ends_ordered}
use Rattle.margin.specs.Room.{Inside, apart, steps_most}
use Rattle.margin.proofs.Lines.{tiles_few, rising, falling, cols_rising, cols_falling, rows_are, count_is}
use Rattle.margin.proofs.Margin.{Roomy, ends_roomy, cast-at, up_next}

module _ (b : Path) (s0 s1 : Vec2) (h0 : Scaled s0) (h1 : Scaled s1) (ordered : lt s1.y s0.y ≡ false) (r0 : Roomy b s0) (r1 : Roomy b s1) where
  cols : (r : Bool) → le s0.x s1.x ≡ r → span_of s0.x s1.x - 1 ≤ apart (r0.gx.S / 8388608) (r1.gx.S / 8388608)
  cols true e =
      let l = rising s0 s1 h0 h1 ordered r0.gx r1.gx r0.gy r1.gy e in
      let c = cols_rising s0 s1 h0 h1 ordered r0.gx r1.gx r0.gy r1.gy l in
      omega (arith, up_next r1.gx.S)
  cols false e =
      let l = falling s0 s1 h0 h1 ordered r0.gx r1.gx r0.gy r1.gy e in
      let c = cols_falling s0 s1 h0 h1 ordered r0.gx r1.gx r0.gy r1.gy (omega arith) in
      omega (arith, up_next r0.gx.S)

  rows : span_of s0.y s1.y - 1 ≤ apart (r0.gy.S / 8388608) (r1.gy.S / 8388608)
  rows =
      let c = rows_are s0 s1 h0 h1 ordered r0.gx r1.gx r0.gy r1.gy in
      omega (arith, up_next r1.gy.S)

  counts_most : (counts_of s0 s1).count ≤ apart (to_unsigned 32 s0.x) (to_unsigned 32 s1.x) + apart (to_unsigned 32 s0.y) (to_unsigned 32 s1.y) + 1
  counts_most =
      let x0 = cast-at s0.x r0.gx.S r0.gx.is (omega (arith, r0.gx.most, tiles_few)) in
      let x1 = cast-at s1.x r1.gx.S r1.gx.is (omega (arith, r1.gx.most, tiles_few)) in
      let y0 = cast-at s0.y r0.gy.S r0.gy.is (omega (arith, r0.gy.most, tiles_few)) in
      let y1 = cast-at s1.y r1.gy.S r1.gy.is (omega (arith, r1.gy.most, tiles_few)) in
      let c = cols (le s0.x s1.x) refl in
      let r = rows in
      rw (x0, x1, y0, y1) (omega (arith, count_is s0 s1 h0 h1 ordered r0.gx r1.gx r0.gy r1.gy))

-- whichever end is the upper one
either_way : (p0 p1 : Vec2) (n : ℕ)
    → n ≤ apart (to_unsigned 32 (ends_of p0 p1).s0.x) (to_unsigned 32 (ends_of p0 p1).s1.x) + apart (to_unsigned 32 (ends_of p0 p1).s0.y) (to_unsigned 32 (ends_of p0 p1).s1.y) + 1
    → n ≤ steps_most p0 p1
unfolding ends_of
either_way p0 p1 n h = go (le p0.y p1.y) h
  where
    T : Vec2 → ℕ
    T p = to_unsigned 32 (scale_of p tile_scale).x

    U : Vec2 → ℕ
    U p = to_unsigned 32 (scale_of p tile_scale).y

    go : (d : Bool) → n ≤ apart (T (cond d p0 p1)) (T (cond d p1 p0)) + apart (U (cond d p0 p1)) (U (cond d p1 p0)) + 1 → n ≤ apart (T p0) (T p1) + apart (U p0) (U p1) + 1
    go true k = k
    go false k = omega arith

on_most : (p0 p1 : Vec2) (b : Path) → Reached p0 p1 → Inside b p0 → Inside b p1 → (walk_on (ends_of p0 p1)).k.count ≤ steps_most p0 p1
unfolding walk_on
on_most p0 p1 b h d e =
    let c = ends_scaled p0 p1 h in
    let r = ends_roomy b p0 p1 h d e in
    either_way p0 p1 (counts_of (ends_of p0 p1).s0 (ends_of p0 p1).s1).count
    (counts_most b (ends_of p0 p1).s0 (ends_of p0 p1).s1 c.0 c.1 (ends_ordered p0 p1 h) r.0 r.1)

pub steps_most_lem : (p0 p1 : Vec2) (b : Path) → Reached p0 p1 → Inside b p0 → Inside b p1 → (line_of p0 p1).k.count ≤ steps_most p0 p1
steps_most_lem p0 p1 b h d e = subst (λ (w : Walk). w.k.count ≤ steps_most p0 p1) (by_parts p0 p1) (on_most p0 p1 b h d e)
