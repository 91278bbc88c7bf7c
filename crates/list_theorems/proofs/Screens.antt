-- Tiles put on the screen one after another, none refused: each pixel shows its own tile's colour, and those off the tiles stay. Assumes nothing.
use mathlib.Core.Path.{◌≡◌, refl, sym, ap, ◌∙◌}
use mathlib.Core.Bool.{Bool, true, false, cond, ◌&&◌}
use mathlib.Core.List.{List}
use Prim.Native.Nat.{ℕ, zero, suc, ◌+◌, ◌*◌, ◌/◌, ◌%◌, ◌<◌, ◌≤◌}
use native.Mathlib.Nat.{zero-mul, mul_comm, mul-le-mul_left, mul-suc, div-add-mod, div-eq_of_lt-le, mod-lt}
use native.Mathlib.Numerals.{add-one}
use native.Mathlib.Decide.{dec_lt, ℕ_discrete}
use native.Mathlib.Omega.{arith}
use lib.Dec.{ltb, eqb}
use lib.Ieee.{Float}
use borrow.Author.Tests.{lt-ltb, le-ltb, eq-eqb, ne_eqb, eqb-true}
use Rattle.lists.specs.Run.{done}
use Rattle.lists.specs.Grid.{mapi}
use Rattle.lists.specs.GridLaws.{mapi_mapi}
use Rattle.panel.specs.Verdict.{Verdict, Fine}
use Rattle.colours.specs.Colour.{pack_of}
use Rattle.commands.proofs.Acts.{mapi_cong, unchanged}
use Rattle.screen_rows.specs.Rows.{in_tile, place_of, put_tile, packed}
use Rattle.screen_tile.specs.Tile.{colour_at, ends_at, if_fine, tile_pixels}
use Rattle.fine.specs.Fine.{tiles_of}
use Rattle.fine.proofs.Ranges.{no_tiles, tile_goes}
use Rattle.list_theorems.specs.Painted.{column_of, row_of, shows_at, screen_of}

-- ---- a tile's number, its column and its row

number_is : (c t x y : ℕ) → x ≡ t % c → y ≡ t / c → c * y + x ≡ t
number_is c t x y p q = rw (p, q) (div-add-mod t c)

column_is : (c x y : ℕ) → x < c → ((c * y + x) / c ≡ y) × ((c * y + x) % c ≡ x)
column_is c x y h =
    let m : y * c ≡ c * y = mul_comm y c in
    let n : (y + 1) * c ≡ c * y + c = mul_comm (y + 1) c ∙ ap (λ (k : ℕ). c * k) (add-one y) ∙ mul-suc c y in
    let q : (c * y + x) / c ≡ y = div-eq_of_lt-le {k = y} c {m = c * y + x} (omega arith) (omega arith) in
    let d : c * ((c * y + x) / c) + (c * y + x) % c ≡ c * y + x = div-add-mod (c * y + x) c in
    let e : c * ((c * y + x) / c) ≡ c * y = ap (λ (k : ℕ). c * k) q in
    (q, omega arith)

neither : (a b : Bool) → (a ≡ true → b ≡ true → ⊥) → (a && b) ≡ false
neither true true f = absurd (f refl refl)
neither true false f = refl
neither false b f = refl

where_both : (a b : Bool) (u v r : ℕ) → (a ≡ true → b ≡ true → u ≡ v) → cond (a && b) u r ≡ cond (a && b) v r
where_both true true u v r f = f refl refl
where_both true false u v r f = refl
where_both false b u v r f = refl

-- below t + 1 and not t is below t
below : (n t : ℕ) → (n ≡ t → ⊥) → ltb n t ≡ ltb n (t + 1)
below n t e = go (dec_lt n t)
  where
    go : Dec (n < t) → ltb n t ≡ ltb n (t + 1)
    go (yes h) = rw (lt-ltb n t h, lt-ltb n (t + 1) (omega arith))
    go (no h) = rw (le-ltb n t (omega arith), le-ltb n (t + 1) (omega arith))

-- ---- one tile more

module _ (colour : ℕ → ℕ → ℕ → List Float) (w c : ℕ) where
  -- what shows at p after the tiles below t
  abbrev up_to : ℕ → ℕ → ℕ → ℕ
  up_to t p old = cond (ltb (column_of w p) c && ltb (c * row_of w p + column_of w p) t) (pack_of (colour (column_of w p) (row_of w p) (place_of w p))) old

  one_more : (x y t old new : ℕ) → 0 < c
      → cond (eqb x (t % c) && eqb y (t / c)) new (cond (ltb x c && ltb (c * y + x) t) new old) ≡ cond (ltb x c && ltb (c * y + x) (t + 1)) new old
  one_more x y t old new z = go (dec_lt x c) (ℕ_discrete (c * y + x) t)
    where
      go : Dec (x < c) → Dec (c * y + x ≡ t) → cond (eqb x (t % c) && eqb y (t / c)) new (cond (ltb x c && ltb (c * y + x) t) new old) ≡ cond (ltb x c && ltb (c * y + x) (t + 1)) new old
      go (yes h) (yes e) =
          let q = column_is c x y h in
          let a : x ≡ t % c = sym (rw e at q.1) in
          let b : y ≡ t / c = sym (rw e at q.0) in
          rw (eq-eqb x (t % c) a, eq-eqb y (t / c) b, lt-ltb x c h, lt-ltb (c * y + x) (t + 1) (omega arith))
      go (yes h) (no e) =
          let f : (eqb x (t % c) && eqb y (t / c)) ≡ false = neither (eqb x (t % c)) (eqb y (t / c)) (λ a b. e (number_is c t x y (eqb-true x (t % c) a) (eqb-true y (t / c) b))) in
          ap (λ (k : Bool). cond k new (cond (ltb x c && ltb (c * y + x) t) new old)) f ∙ ap (λ (k : Bool). cond (ltb x c && k) new old) (below (c * y + x) t e)
      go (no h) d =
          let m : t % c < c = mod-lt t z in
          rw (ne_eqb x (t % c) (λ e. absurd (omega arith)), le-ltb x c (omega arith))

  none_yet : (l : List ℕ) → l ≡ mapi (up_to 0) l
  none_yet l = unchanged 0 l ∙ mapi_cong 0 0 (λ p old. old) (up_to 0) l (λ p old h. go p old (ltb (column_of w p) c))
    where
      go : (p old : ℕ) (b : Bool) → old ≡ cond (b && ltb (c * row_of w p + column_of w p) 0) (pack_of (colour (column_of w p) (row_of w p) (place_of w p))) old
      go p old true = rw (le-ltb (c * row_of w p + column_of w p) 0 (omega arith))
      go p old false = refl

  -- all of the screen's tiles
  in_rows : (r x y old new : ℕ) → cond (ltb x c && ltb (c * y + x) (c * r)) new old ≡ cond (ltb x c && ltb y r) new old
  in_rows r x y old new = go (dec_lt x c) (dec_lt y r)
    where
      go : Dec (x < c) → Dec (y < r) → cond (ltb x c && ltb (c * y + x) (c * r)) new old ≡ cond (ltb x c && ltb y r) new old
      go (yes h) (yes k) =
          let a : c * (y + 1) ≤ c * r = mul-le-mul_left c (omega arith) in
          let b : c * (y + 1) ≡ c * y + c = ap (λ (n : ℕ). c * n) (add-one y) ∙ mul-suc c y in
          rw (lt-ltb (c * y + x) (c * r) (omega arith), lt-ltb y r k)
      go (yes h) (no k) =
          let a : c * r ≤ c * y = mul-le-mul_left c (omega arith) in
          rw (le-ltb (c * y + x) (c * r) (omega arith), le-ltb y r (omega arith))
      go (no h) d = rw (le-ltb x c (omega arith))

  all_tiles : (r : ℕ) (l : List ℕ) → mapi (up_to (c * r)) l ≡ screen_of colour w c r l
  unfolding screen_of
  all_tiles r l = mapi_cong 0 0 (up_to (c * r)) (shows_at colour w c r) l (λ p old h. in_rows r (column_of w p) (row_of w p) old (pack_of (colour (column_of w p) (row_of w p) (place_of w p))))

  -- ---- the run over them
  module _ (ws : List ℕ) (segs : List Float) (n : ℕ) (ok : (t : ℕ) → t < n → ends_at ws segs t ≡ Fine) (is : (t : ℕ) → t < n → (k : ℕ) → colour_at ws segs t k ≡ colour (t % c) (t / c) k) where
    put_next : (t : ℕ) (l : List ℕ) → 0 < c → t < n → tile_pixels ws segs t w (t % c) (t / c) (mapi (up_to t) l) ≡ mapi (up_to (t + 1)) l
    unfolding tile_pixels put_tile
    put_next t l z h =
        let new = packed (colour_at ws segs t) w in
        ap (λ (v : Verdict). if_fine v (put_tile new w (t % c) (t / c) (mapi (up_to t) l)) (mapi (up_to t) l)) (ok t h)
        ∙ mapi_mapi (λ p old. cond (in_tile w (t % c) (t / c) p) (new p old) old) (up_to t) l
        ∙ mapi_cong 0 0 (λ p old. cond (in_tile w (t % c) (t / c) p) (new p (up_to t p old)) (up_to t p old)) (up_to (t + 1)) l (λ p old b. at p old)
      where
        at : (p old : ℕ) → cond (in_tile w (t % c) (t / c) p) (pack_of (colour_at ws segs t (place_of w p))) (up_to t p old) ≡ up_to (t + 1) p old
        at p old =
            let x = column_of w p in
            let y = row_of w p in
            where_both (eqb x (t % c)) (eqb y (t / c)) (pack_of (colour_at ws segs t (place_of w p))) (pack_of (colour x y (place_of w p))) (up_to t p old)
            (λ a b. ap pack_of (is t h (place_of w p) ∙ sym (ap (λ (u : ℕ). colour u (t / c) (place_of w p)) (eqb-true x (t % c) a)) ∙ sym
            (ap (λ (u : ℕ). colour x u (place_of w p)) (eqb-true y (t / c) b))))
            ∙ one_more x y t old (pack_of (colour x y (place_of w p))) z

    tiles_put : (m t : ℕ) (l : List ℕ) → 0 < c → t + m ≡ n → tiles_of ws segs w c t n (mapi (up_to t) l) ≡ done (mapi (up_to n) l)
    tiles_put zero t l z e =
        let f : t ≡ n = omega arith in
        no_tiles ws segs w c t n (mapi (up_to t) l) (omega arith) ∙ ap (λ (k : ℕ). done (mapi (up_to k) l)) f
    tiles_put (suc m) t l z e =
        let h : t < n = omega arith in
        tile_goes ws segs w c t n (mapi (up_to t) l) h (sym (ok t h)) ∙ ap (tiles_of ws segs w c (t + 1) n) (put_next t l z h) ∙ tiles_put m (t + 1) l z (omega arith)

-- all tiles of a screen, none refused
pub tiles_shown : (colour : ℕ → ℕ → ℕ → List Float) (w c r : ℕ) (ws : List ℕ) (segs : List Float) (pixels : List ℕ) → ((t : ℕ) → t < c * r → ends_at ws segs t ≡ Fine)
    → ((t : ℕ) → t < c * r → (k : ℕ) → colour_at ws segs t k ≡ colour (t % c) (t / c) k) → tiles_of ws segs w c 0 (c * r) pixels ≡ done (screen_of colour w c r pixels)
tiles_shown colour w c r ws segs pixels ok is = ap (tiles_of ws segs w c 0 (c * r)) (none_yet colour w c pixels) ∙ go (dec_lt 0 c) ∙ ap done (all_tiles colour w c r pixels)
  where
    go : Dec (0 < c) → tiles_of ws segs w c 0 (c * r) (mapi (up_to colour w c 0) pixels) ≡ done (mapi (up_to colour w c (c * r)) pixels)
    go (yes z) = tiles_put colour w c ws segs (c * r) ok is (c * r) 0 pixels z (omega arith)
    go (no z) =
        let e : c ≡ 0 = omega arith in
        let n : c * r ≡ 0 = rw e (zero-mul r) in
        no_tiles ws segs w c 0 (c * r) (mapi (up_to colour w c 0) pixels) (omega arith) ∙ ap (λ (k : ℕ). done (mapi (up_to colour w c k) pixels)) (sym n)
