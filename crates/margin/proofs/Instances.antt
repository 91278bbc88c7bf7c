-- The premise can be met; and without the margin below, or on the left, a step is outside. By computation.
--     met      a line and every box from tile 0 to beyond its ends
--     unmet    the smallest line that was found whose step leaves its rows: over a box that ends with the line's last row it is refused
--     unmet_left   a line with no coordinate below 0 that every box refuses: its lower end lies in column 0
use mathlib.Core.Path.{◌≡◌, refl, sym, ap, ◌∙◌}
use mathlib.Core.Bool.{Bool, true, false, ◌&&◌}
use Prim.Native.Nat.{ℕ, ◌≤◌, ◌<◌}
use native.Mathlib.Omega.{arith}
use lib.Dec.{lit<}
use lib.IntN.{ℤ, pos, negsuc}
use lib.Ieee.{binary32, add, sub, mul, div, neg, round, le, lt, eq, ne, of_int, of_bits, to_signed, to_unsigned, is_nan}
use lib.Ieee.Scale.{finite}
use Rattle.float32.specs.Meaning.{floor_of, ceil_of, abs_of, min_of, max_of, signed, sign_of}
use Rattle.util.specs.Span.{span_of}
use Rattle.util.specs.declared.Vec2.{Vec2}
use Rattle.panel.specs.Limits.{coord_most, coord_bits}
use Rattle.panel.specs.declared.kinds.Path.{Path}
use Rattle.walk.specs.Num.{float, inside_of}
use Rattle.walk.specs.Setup.{ends_of}
use Rattle.walk.specs.Page.{line_of}
use Rattle.walk.specs.Skip.{flat_of}
use Rattle.walk.specs.Lent.{Reached}
use Rattle.walk.specs.Step.{Boxed, z_at, step_of}
use Rattle.walk.specs.declared.kinds.Walk.{Walk}
use Rattle.walk.specs.Stepped.{Refused}
use Rattle.walk.proofs.Boxes.{tile_no}
use Rattle.walk.proofs.StepTiles.{col_of, row_at}
use Rattle.margin.specs.Room.{tile_at, Inside, HasTile}
use Rattle.margin.proofs.Margin.{margin_tile}

unfoldable computing : ℕ
unfolding add sub mul div neg round le lt eq ne of_int of_bits to_signed to_unsigned is_nan floor_of ceil_of abs_of min_of max_of signed sign_of span_of coord_most coord_bits ends_of line_of flat_of z_at
computing = 0

-- ---- (20, 20) to (100, 60): tiles 1 to 6 across, 1 to 3 down
abbrev start : Vec2
start = record { x = of_bits binary32 0x41a0_0000; y = of_bits binary32 0x41a0_0000 }

abbrev end : Vec2
end = record { x = of_bits binary32 0x42c8_0000; y = of_bits binary32 0x4270_0000 }

start_tile : tile_at start.x ≡ 1
unfolding computing
start_tile = refl

end_tile : (tile_at end.x ≡ 6) × (tile_at end.y ≡ 3)
unfolding computing
end_tile = (refl, refl)

reached : Reached start end
unfolding computing
reached = refl

long : flat_of (ends_of start end).s0 (ends_of start end).s1 ≡ false
unfolding computing
long = refl

counted : (line_of start end).k.count ≡ 8
unfolding computing
counted = refl

module _ (b : Path) (k : Boxed b) (left : b.x0 ≡ 0) (top : b.y0 ≡ 0) (right : 8 ≤ b.x1) (bottom : 5 ≤ b.y1) where
  inside_start : Inside b start
  inside_start =
      let t = start_tile in
      record { left = omega arith; right = omega arith; top = omega arith; bottom = omega arith }

  inside_end : Inside b end
  inside_end =
      let t = end_tile in
      record { left = omega (arith, t.0); right = omega (arith, t.0); top = omega (arith, t.1); bottom = omega (arith, t.1) }

  -- all its eight steps have their tiles
  pub met : (i : ℕ) → i < 8 → HasTile (line_of start end).pace b i
  met i h = margin_tile start end b k reached inside_start inside_end long i (omega (arith, counted))

-- ---- bits 41ffffff 41fffffe to 42c00001 42000000: the line's last row is row 1, and its step 3 lies in row 2
abbrev low : Walk
low = line_of (record { x = of_bits binary32 0x41ff_ffff; y = of_bits binary32 0x41ff_fffe }) (record { x = of_bits binary32 0x42c0_0001; y = of_bits binary32 0x4200_0000 })

low_row : row_at low.pace.y0 3 (z_at low.pace.a low.pace.b (float 3)) ≡ pos 2
unfolding computing
low_row = refl

low_count : low.k.count ≡ 6
unfolding computing
low_count = refl

no_third : (p q r : Bool) → r ≡ false → (p && (q && r)) ≡ false
no_third true true r e = e
no_third true false r e = refl
no_third false q r e = refl

past_two : (lo hi : ℕ) → hi ≡ 2 → inside_of (pos 2) lo hi ≡ false
unfolding inside_of
past_two lo hi e = rw e (last (lib.Dec.leb lo 2))
  where
    last : (t : Bool) → (t && false) ≡ false
    last true = refl
    last false = refl

-- so over a box that ends below row 1 it is refused, wherever its other sides are
pub unmet : (b : Path) → b.y1 ≡ 2 → step_of low.pace b 3 ≡ Refused
unfolding step_of
unmet b e =
    let z = z_at low.pace.a low.pace.b (float 3) in
    let x = col_of low.pace.x0 low.pace.sign z in
    let y = row_at low.pace.y0 3 z in
    sym (tile_no b x y z (no_third (finite z) (inside_of x b.x0 b.x1) (inside_of y b.y0 b.y1) (ap (λ (v : ℤ). inside_of v b.y0 b.y1) low_row ∙ past_two b.y0 b.y1 e)))

-- ---- bits 4380abbd 417fff54 to 00000000 41800002: no coordinate is below 0, and its lower end lies in column 0. Its step 17 lies in column -1
abbrev west : Walk
west = line_of (record { x = of_bits binary32 0x4380_abbd; y = of_bits binary32 0x417f_ff54 }) (record { x = of_bits binary32 0; y = of_bits binary32 0x4180_0002 })

west_column : col_of west.pace.x0 west.pace.sign (z_at west.pace.a west.pace.b (float 17)) ≡ negsuc 0
unfolding computing
west_column = refl

west_count : west.k.count ≡ 18
unfolding computing
west_count = refl

no_second : (p q r : Bool) → q ≡ false → (p && (q && r)) ≡ false
no_second true q r e = rw e refl
no_second false q r e = refl

before_all : (lo hi : ℕ) → inside_of (negsuc 0) lo hi ≡ false
unfolding inside_of
before_all lo hi = refl

-- so it is refused over every box: from 0 on no margin is enough
pub unmet_left : (b : Path) → step_of west.pace b 17 ≡ Refused
unfolding step_of
unmet_left b =
    let z = z_at west.pace.a west.pace.b (float 17) in
    let x = col_of west.pace.x0 west.pace.sign z in
    let y = row_at west.pace.y0 17 z in
    sym (tile_no b x y z (no_second (finite z) (inside_of x b.x0 b.x1) (inside_of y b.y0 b.y1) (ap (λ (v : ℤ). inside_of v b.x0 b.x1) west_column ∙ before_all b.x0 b.x1)))
