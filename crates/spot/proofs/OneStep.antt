-- The step of a line whose ends lie strictly within one tile: its first column and row are the tile's, whichever way x goes, and z is 0. Assumes nothing.
use Rattle.std.proofs.Common.{◌≡◌, ℕ, ◌+◌, ◌^◌, ◌<◌, ◌≤◌, Bool, true, false, not, T, ℤ, pos, negsuc, ◌+ℤ◌, ◌-ℤ◌, neg_ℤ, nat_abs, sym, refl, ap, ◌∙◌, subst, arith, lit≤, lt-ltb, le-leb}
use lib.Ieee.{Float, nan, inf, fin, binary32, add, sub, mul, fits, to_signed}
use lib.Ieee.Exact.{HasValue}
use lib.Ieee.Fits.{mul-fits}
use lib.Ieee.Scale.{finite}
use Rattle.float32.specs.Meaning.{whole, floor_of, unit}
use Rattle.float32.proofs.Whole.{whole_value}
use Rattle.panel.specs.Kinds.{tile_no_of}
use Rattle.panel.specs.Paths.{tile_of}
use Rattle.panel.specs.declared.kinds.Path.{Path}
use Rattle.exact.specs.Whole.{IsWhole, floor_z, signed_z}
use Rattle.exact.specs.Reach.{coord_tiles, sign_at, x0_at}
use Rattle.exact.proofs.Limits.{far}
use Rattle.exact.proofs.Signs.{sum_parts, same_parts}
use Rattle.exact.proofs.Exact.{value_whole, whole_only, floor_whole, nat_whole, whole_cast, add_whole, sub_whole, sign_whole, neg_neg}
use Rattle.exact.proofs.Bounds.{x0_z, x0_is, sign_unit}
use Rattle.errors.specs.Sizes.{parts}
use Rattle.errors.proofs.Parts.{parts_pos}
use Rattle.margin.proofs.Ends.{times_unit, floor_turned}
use Rattle.walk.specs.Num.{float, cut_of, inside_of}
use Rattle.walk.specs.Step.{Within, tile_in}
use Rattle.walk.specs.Stepped.{Tile}
use Rattle.walk.proofs.Boxes.{ok_of, tile_yes}
use Rattle.spot.proofs.InTile.{Off, off_floor, off_up, off_small}

-- ---- the first column
value_finite : (v : Float) (t : Bool) (n c : ℕ) → HasValue v t n c → T (finite v)
value_finite nan t n c h = h
value_finite (inf s) t n c h = h
value_finite (fin s m e) t n c h = tt

module _ (s : Float) (t : ℕ) (o : Off s t) (few : t + 1 ≤ coord_tiles) where
  up_few : t + 1 ≤ 2 ^ 24
  up_few = omega (arith, few, far.tiles)

  floors : (r : Bool) (k : ℕ) → k ≤ 2 ^ 24 → floor_of (mul binary32 s (unit r)) ≡ whole r k → floor_z (mul binary32 s (unit r)) ≡ signed_z r k
  floors r k b e =
      let v = mul binary32 s (unit r) in
      let h = times_unit r s o.n parts o.fit o.is in
      whole_only (floor_of v) (floor_z v) (signed_z r k) (floor_whole v (mul-fits binary32 s (unit r)) (value_finite v r o.n parts h))
      (subst (λ (f : Float). IsWhole f (signed_z r k)) (sym e) (value_whole (whole r k) r k (whole_value r k b)))

  rising : floor_z (mul binary32 s (unit false)) ≡ pos t
  rising =
      let v = mul binary32 s (unit false) in
      floors false t (omega (arith, up_few))
      (off_floor v t (record { n = o.n; is = times_unit false s o.n parts o.fit o.is; fit = mul-fits binary32 s (unit false); low = o.low; high = o.high }))

  falling : floor_z (mul binary32 s (unit true)) ≡ neg_ℤ (pos (t + 1))
  falling =
      floors true (t + 1) up_few
      (floor_turned (mul binary32 s (unit true)) o.n parts parts_pos (times_unit true s o.n parts o.fit o.is) ∙ ap (whole true) (off_up s t o))

  less : pos (t + 1) +ℤ negsuc 0 ≡ pos t
  less = same_parts (pos (t + 1) +ℤ negsuc 0) (pos t) (omega (arith, sum_parts (pos (t + 1)) (negsuc 0)))

  more : pos t +ℤ pos 0 ≡ pos t
  more = same_parts (pos t +ℤ pos 0) (pos t) (omega (arith, sum_parts (pos t) (pos 0)))

  column_z : (r : Bool) → x0_z r s ≡ pos t
  column_z true = ap (λ (n : ℤ). n +ℤ pos 0) rising ∙ more
  column_z false = ap (λ (n : ℤ). neg_ℤ n +ℤ negsuc 0) falling ∙ ap (λ (n : ℤ). n +ℤ negsuc 0) (neg_neg (t + 1)) ∙ less

  column_whole : (r : Bool) → IsWhole (x0_at r s) (pos t)
  column_whole r = subst (λ (n : ℤ). IsWhole (x0_at r s) n) (column_z r) (x0_is coord_tiles far.tiles s (off_small s t coord_tiles o few) r)

  row_whole : IsWhole (floor_of s) (pos t)
  row_whole = subst (λ (f : Float). IsWhole f (pos t)) (sym (off_floor s t o)) (value_whole (whole false t) false t (whole_value false t (omega (arith, up_few))))

  -- with z, which is 0, added or taken away, they are cast without loss
  module _ (z : Float) (fit : T (fits binary32 z)) (w : IsWhole z (pos 0)) where
    still : (r : Bool) → IsWhole (mul binary32 (sign_at r) z) (pos 0)
    still r = subst (λ (u : Float). IsWhole (mul binary32 u z) (pos 0)) (sym (sign_unit r)) (go (not r))
      where
        go : (q : Bool) → IsWhole (mul binary32 (unit q) z) (pos 0)
        go false = sign_whole false z (pos 0) fit w
        go true = sign_whole true z (pos 0) fit w

    small : nat_abs (pos t +ℤ pos 0) ≤ 2 ^ 24
    small = subst (λ (n : ℤ). nat_abs n ≤ 2 ^ 24) (sym more) own
      where
        own : t ≤ 2 ^ 24
        own = omega (arith, up_few)

    pub column_cast : (r : Bool) → to_signed 31 (add binary32 (x0_at r s) (mul binary32 (sign_at r) z)) ≡ pos t
    column_cast r =
        whole_cast (add binary32 (x0_at r s) (mul binary32 (sign_at r) z)) (pos t +ℤ pos 0)
        (add_whole (x0_at r s) (mul binary32 (sign_at r) z) (pos t) (pos 0) (column_whole r) (still r) small)
        (omega (arith, small))
        ∙ more

    pub row_cast : to_signed 31 (sub binary32 (add binary32 (floor_of s) (float 0)) z) ≡ pos t
    row_cast =
        let y = add binary32 (floor_of s) (float 0) in
        let v : IsWhole y (pos t) = subst (λ (n : ℤ). IsWhole y n) more (add_whole (floor_of s) (float 0) (pos t) (pos 0) row_whole (nat_whole 0 (lit≤ tt)) small) in
        whole_cast (sub binary32 y z) (pos t -ℤ pos 0) (sub_whole y z (pos t) (pos 0) v w small) (omega (arith, small)) ∙ more

-- ---- the tile of the step
module _ (b : Path) (x y : ℕ) (h : Within b x y) (z : Float) (f : T (finite z)) where
  is_in : (n lo hi : ℕ) → lo ≤ n → n < hi → inside_of (pos n) lo hi ≡ true
  unfolding inside_of
  is_in n lo hi l u = rw (le-leb lo n l, lt-ltb n hi u) refl

  ok : ok_of b (pos x) (pos y) z ≡ true
  ok = rw (number z f, is_in x b.x0 b.x1 h.col_least h.col_most, is_in y b.y0 b.y1 h.row_least h.row_most) refl
    where
      number : (z : Float) → T (finite z) → finite z ≡ true
      number nan f = absurd f
      number (inf s) f = absurd f
      number (fin s m e) f = refl

  pub tile_here : tile_in b (pos x) (pos y) z ≡ Tile (tile_no_of (tile_of b x y)) x y z
  unfolding cut_of
  tile_here = sym (tile_yes b (pos x) (pos y) z ok)
