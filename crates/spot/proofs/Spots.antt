-- A line, by its ends as they are lent, whose ends in tiles lie strictly within a tile of the box. Assumes nothing.
--     one_tile     it is walked in one step, on that tile
--     spot_met     what the tests and the tile by the guesses tell
--     held_real    the guesses are numbers
use Rattle.std.proofs.Common.{◌≡◌, ℕ, ◌+◌, ◌^◌, ◌<◌, ◌≤◌, Bool, true, false, cond, ◌&&◌, T, ℤ, pos, sym, refl, ap, ◌∙◌, subst, arith}
use mathlib.Core.Bool.{false≢true}
use lib.Ieee.{Float, nan, inf, fin, binary32, add, sub, lt, le, fits, is_nan, to_bits, to_signed}
use lib.Ieee.Fits.{add-fits, mul-fits}
use lib.Ieee.Scale.{finite}
use Rattle.float32.specs.Meaning.{floor_of, abs_of}
use Rattle.util.specs.Constants.{one, tile_scale}
use Rattle.util.specs.Vec.{scale_of}
use Rattle.util.specs.declared.Vec2.{Vec2}
use Rattle.panel.specs.Kinds.{tile_no_of}
use Rattle.panel.specs.Paths.{tile_of}
use Rattle.panel.specs.declared.kinds.Path.{Path}
use Rattle.panel.proofs.BoolLaws.{both}
use Rattle.panel.proofs.LimitLaws.{small}
use Rattle.exact.specs.Whole.{IsWhole}
use Rattle.exact.specs.Reach.{coord_tiles}
use Rattle.exact.proofs.Bounds.{small_finite}
use Rattle.exact.proofs.Limits.{far}
use Rattle.whole.specs.Bits.{zero_bits}
use Rattle.walk.specs.Num.{float}
use Rattle.walk.specs.Setup.{Scaled, ends_of, counts_of, slope_of, a_of, b_of, walk_on}
use Rattle.walk.specs.Page.{line_of, by_parts}
use Rattle.walk.specs.Lent.{Reached}
use Rattle.walk.specs.Step.{Boxed, Within, z_at, tile_in, step_of}
use Rattle.walk.specs.declared.kinds.Walk.{Walk}
use Rattle.walk.specs.Stepped.{Tile}
use Rattle.walk.proofs.AroundLaws.{ends_ordered}
use Rattle.walk.proofs.Counts.{ends_scaled}
use Rattle.walk.proofs.Lines.{skipped, walks}
use Rattle.walk.proofs.StepTiles.{z_fits}
use Rattle.spot.specs.Spot.{OneTile, SpotMet}
use Rattle.spot.specs.Tests.{short, shift, shifted_of, stretch_of, between_of, long_of, held_of, At, AtMet, Real}
use Rattle.spot.specs.Place.{Spot}
use Rattle.spot.specs.Place.{In, Other}
use Rattle.spot.specs.declared.Stretch.{Stretch}
use Rattle.spot.proofs.InTile.{Off, off_edge, off_span, off_reach}
use Rattle.spot.proofs.Guess.{guess_is, guess_next, both_off}
use Rattle.spot.proofs.Apart.{stretch_is}
use Rattle.spot.proofs.Slope.{Spotted, turned_round, a_small, b_starts, z_none}
use Rattle.spot.proofs.OneStep.{column_cast, row_cast, tile_here}
use Rattle.spot.proofs.NoClip.{not_flat, not_beyond, not_clipped}

whole_finite : (z : Float) (n : ℤ) → IsWhole z n → T (finite z)
whole_finite nan n h = h
whole_finite (inf s) n h = h
whole_finite (fin s m e) n h = tt

module _ (p0 p1 : Vec2) (b : Path) (k : Boxed b) (x y : ℕ) (w : Within b x y) (h : Spotted (scale_of p0 tile_scale) (scale_of p1 tile_scale) x y) where
  x_few : x + 1 ≤ coord_tiles
  x_few = omega (arith, w.col_most, k.wide, far.reach)

  y_few : y + 1 ≤ coord_tiles
  y_few = omega (arith, w.row_most, k.high, far.reach)

  in_reach : Reached p0 p1
  in_reach =
      rw (off_reach p0.x x h.start_x x_few, off_reach p0.y y h.start_y y_few, off_reach p1.x x h.end_x x_few, off_reach p1.y y h.end_y y_few)
      refl

  -- whichever end is the upper one
  abbrev s0 : Vec2
  s0 = (ends_of p0 p1).s0

  abbrev s1 : Vec2
  s1 = (ends_of p0 p1).s1

  ends : Spotted s0 s1 x y
  unfolding ends_of
  ends = go (le p0.y p1.y)
    where
      go : (d : Bool) → Spotted (scale_of (cond d p0 p1) tile_scale) (scale_of (cond d p1 p0) tile_scale) x y
      go true = h
      go false = turned_round (scale_of p0 tile_scale) (scale_of p1 tile_scale) x y h

  checked : Scaled s0 × Scaled s1
  checked = ends_scaled p0 p1 in_reach

  ordered : lt s1.y s0.y ≡ false
  ordered = ends_ordered p0 p1 in_reach

  goes : skipped p0 p1 b ≡ false
  goes = rw (not_flat s0 s1 x y ends b k w ordered, not_beyond s0 s1 x y ends b k w) refl

  -- ---- of the stages
  on_count : (walk_on (ends_of p0 p1)).k.count ≡ 1
  unfolding walk_on counts_of
  on_count =
      rw (off_span s0.x s1.x x ends.start_x ends.end_x (omega (arith, x_few, far.tiles)), off_span s0.y s1.y y ends.start_y ends.end_y (omega (arith, y_few, far.tiles)))
      refl

  on_top : (walk_on (ends_of p0 p1)).pace.on_top ≡ false
  unfolding walk_on slope_of
  on_top = off_edge s0.y y ends.start_y (omega (arith, y_few, far.tiles))

  abbrev a : Float
  a = a_of (slope_of s0 s1) (counts_of s0 s1) (b_of (slope_of s0 s1) s0)

  abbrev z : Float
  z = z_at a (b_of (slope_of s0 s1) s0) (float 0)

  z_is : IsWhole z (pos 0)
  z_is =
      z_none a (b_of (slope_of s0 s1) s0) (small_finite a 1048577 (a_small s0 s1 x y ends ordered (counts_of s0 s1) (b_of (slope_of s0 s1) s0)))
      (b_starts s0 s1 checked.0 checked.1 ordered)

  z_fit : T (fits binary32 z)
  z_fit = z_fits a (b_of (slope_of s0 s1) s0) (float 0)

  on_falls : step_of (walk_on (ends_of p0 p1)).pace b 0 ≡ Tile (tile_no_of (tile_of b x y)) x y (z_at (walk_on (ends_of p0 p1)).pace.a (walk_on (ends_of p0 p1)).pace.b (float 0))
  unfolding walk_on step_of slope_of
  on_falls =
      let col = column_cast s0.x x ends.start_x x_few z z_fit z_is (le s0.x s1.x) in
      let row = row_cast s0.y y ends.start_y y_few z z_fit z_is in
      ap (λ (c : ℤ). tile_in b c (to_signed 31 (sub binary32 (add binary32 (floor_of s0.y) (float 0)) z)) z) col
      ∙ ap (λ (r : ℤ). tile_in b (pos x) r z) row
      ∙ tile_here b x y w z (whole_finite z (pos 0) z_is)

  -- ---- of the line
  count_one : (line_of p0 p1).k.count ≡ 1
  count_one = subst (λ (v : Walk). v.k.count ≡ 1) (by_parts p0 p1) on_count

  start_is : (line_of p0 p1).e.s0 ≡ s0
  start_is = subst (λ (v : Walk). v.e.s0 ≡ s0) (by_parts p0 p1) (unfold walk_on in refl)

  end_is : (line_of p0 p1).e.s1 ≡ s1
  end_is = subst (λ (v : Walk). v.e.s1 ≡ s1) (by_parts p0 p1) (unfold walk_on in refl)

  pub one_tile : OneTile p0 p1 b x y
  one_tile = record {
    reached = in_reach;
    walked = sym (walks p0 p1 b (line_of p0 p1) goes (sym (by_parts p0 p1)));
    within = w;
    one_step_lem = count_one;
    below_top = subst (λ (v : Walk). v.pace.on_top ≡ false) (by_parts p0 p1) on_top;
    falls = subst (λ (v : Walk). step_of v.pace b 0 ≡ Tile (tile_no_of (tile_of b x y)) x y (z_at v.pace.a v.pace.b (float 0))) (by_parts p0 p1) on_falls;
    clipped = not_clipped s0 s1 x y ends b k w (line_of p0 p1) start_is end_is count_one;
  }

-- ---- what the tests tell
between_real : (t : Float) (g : Stretch) → between_of t g ≡ true → Real t
unfolding sub add lt is_nan
between_real nan g h = absurd (false≢true h)
between_real (inf s) g h = tt
between_real (fin s m e) g h = tt

pub held_real : (tx ty : Float) (g q : Stretch) → held_of tx ty g q ≡ true → Real tx × Real ty
held_real tx ty g q h =
    let c = both (between_of tx g && between_of ty q) (long_of g q) h in
    let d = both (between_of tx g) (between_of ty q) c.0 in
    (between_real tx g d.0, between_real ty q d.1)

-- both ends of a stretch, by the bits of the guess
ends_off : (u v t : Float) (n : ℕ) → T (fits binary32 u) → T (fits binary32 v) → T (fits binary32 t) → to_bits binary32 t ≡ zero_bits + n → n < 2 ^ 20
    → between_of t (stretch_of u v) ≡ true → Off u n × Off v n
ends_off u v t n f g k e l h =
    let c = both (lt (sub binary32 t shift) (cond (lt v u) v u)) (lt (cond (lt v u) u v) (add binary32 (sub binary32 t shift) one)) h in
    both_off u v n f g (omega arith)
    (subst (λ (y : Float). lt y (cond (lt v u) v u) ≡ true) (guess_is t n k e l) c.0)
    (subst (λ (y : Float). lt (cond (lt v u) u v) y ≡ true) (guess_next t n k e l) c.1)

module _ (p0 p1 : Vec2) (b : Path) (k : Boxed b) where
  abbrev u : Vec2
  u = scale_of p0 tile_scale

  abbrev v : Vec2
  v = scale_of p1 tile_scale

  abbrev tx : Float
  tx = shifted_of u.x

  abbrev ty : Float
  ty = shifted_of u.y

  spotted : held_of tx ty (stretch_of u.x v.x) (stretch_of u.y v.y) ≡ true → (x y : ℕ) → At tx ty b x y → Spotted u v x y
  spotted h x y d =
      let g = stretch_of u.x v.x in
      let q = stretch_of u.y v.y in
      let c = both (between_of tx g && between_of ty q) (long_of g q) h in
      let e = both (between_of tx g) (between_of ty q) c.0 in
      let ox = ends_off u.x v.x tx x (mul-fits binary32 p0.x tile_scale) (mul-fits binary32 p1.x tile_scale) (add-fits binary32 _ shift) d.column
      (omega (arith, d.within.col_most, k.wide, small.edge)) e.0 in
      let oy = ends_off u.y v.y ty y (mul-fits binary32 p0.y tile_scale) (mul-fits binary32 p1.y tile_scale) (add-fits binary32 _ shift) d.row
      (omega (arith, d.within.row_most, k.high, small.edge)) e.1 in
      record {
        start_x = ox.0;
        start_y = oy.0;
        end_x = ox.1;
        end_y = oy.1;
        long =
            subst (λ (z : Float). le short (add binary32 (abs_of (sub binary32 v.x u.x)) z) ≡ true) (stretch_is u.y v.y y oy.0 oy.1)
            (subst (λ (z : Float). le short (add binary32 z (sub binary32 q.most q.least)) ≡ true) (stretch_is u.x v.x x ox.0 ox.1) c.1);
      }

  pub spot_met : held_of tx ty (stretch_of u.x v.x) (stretch_of u.y v.y) ≡ true → (r : Spot) → AtMet tx ty b r → SpotMet p0 p1 b r
  spot_met h (In t x y) d = (d.0, one_tile p0 p1 b k x y d.1.within (spotted h x y d.1))
  spot_met h Other d = d
