-- Where a tile's rows lie on the screen: a row's pixels are those in the tile's columns on that row of the screen. Assumes nothing.
use mathlib.Core.Path.{◌≡◌, refl, sym, ap, subst, ◌∙◌}
use mathlib.Core.Bool.{Bool, true, false, cond, ◌&&◌}
use mathlib.Core.List.{List}
use mathlib.Core.Logic.{⊎_elim}
use Prim.Native.Nat.{ℕ, ◌+◌, ◌-◌, ◌*◌, ◌/◌, ◌%◌, ◌<◌, ◌≤◌}
use native.Mathlib.Nat.{add-mul, one-mul, mul_comm, mul-le-mul_left, mul-suc, div-eq_of_lt-le, div-add-mod, mod-lt, eq-or-lt_of_le}
use native.Mathlib.Numerals.{add-one}
use native.Mathlib.Omega.{arith}
use lib.Dec.{leb, ltb, eqb}
use borrow.Author.Tests.{le-leb, lt-leb, lt-ltb, le-ltb, eq-eqb, ne_eqb, eqb-true}
use Rattle.lists.specs.Grid.{mapi, within}
use Rattle.lists.specs.GridLaws.{le_or_lt, mapi_mapi}
use Rattle.commands.proofs.Acts.{mapi_cong, unchanged}
use lib.Ieee.{Float}
use Rattle.colours.specs.Colour.{pack_of}
use Rattle.sides.specs.Tile.{tile_width, tile_height}
use Rattle.screen_rows.specs.Rows.{in_tile, place_of, row_at, put_tile, packed, GivesAt}

-- w * Y + r, with r below w
divided : (w Y r : ℕ) → r < w → ((w * Y + r) / w ≡ Y) × ((w * Y + r) % w ≡ r)
divided w Y r h =
    let c : Y * w ≡ w * Y = mul_comm Y w in
    let m : (Y + 1) * w ≡ w * Y + w = add-mul Y 1 w ∙ ap (λ (z : ℕ). Y * w + z) (one-mul w) ∙ ap (λ (z : ℕ). z + w) c in
    let q : (w * Y + r) / w ≡ Y = div-eq_of_lt-le {k = Y} w {m = w * Y + r} (omega arith) (omega arith) in
    let d : w * ((w * Y + r) / w) + (w * Y + r) % w ≡ w * Y + r = div-add-mod (w * Y + r) w in
    let e : w * ((w * Y + r) / w) ≡ w * Y = ap (λ (z : ℕ). w * z) q in
    (q, omega arith)

none : (a b c : Bool) → (a ≡ true → b ≡ true → c ≡ true → ⊥) → ((a && b) && c) ≡ false
none true true true f = absurd (f refl refl refl)
none true true false f = refl
none true false c f = refl
none false b c f = refl

-- a row of the tile lies in the pixels
pub row_room : (w tx ty y n : ℕ) → y < tile_height → tile_width * tx + tile_width ≤ w → w * (tile_height * ty + tile_height) ≤ n → row_at w tx ty y + tile_width ≤ n
row_room w tx ty y n hy hw h =
    let a : w * (tile_height * ty + y + 1) ≤ w * (tile_height * ty + tile_height) = mul-le-mul_left w (omega arith) in
    let b : w * (tile_height * ty + y + 1) ≡ w * (tile_height * ty + y) + w = ap (λ (k : ℕ). w * k) (add-one (tile_height * ty + y)) ∙ mul-suc w (tile_height * ty + y) in
    omega arith

module _ (w tx ty y : ℕ) (hy : y < tile_height) (hw : tile_width * tx + tile_width ≤ w) where
  -- the pixel x of the row
  in_row : (x : ℕ) → x < tile_width → ((row_at w tx ty y + x) / w ≡ tile_height * ty + y) × ((row_at w tx ty y + x) % w ≡ tile_width * tx + x)
  in_row x hx =
      let Y = tile_height * ty + y in
      let e : w * Y + (tile_width * tx + x) ≡ row_at w tx ty y + x = omega arith in
      subst (λ (p : ℕ). (p / w ≡ Y) × (p % w ≡ tile_width * tx + x)) e (divided w Y (tile_width * tx + x) (omega arith))

  pub place_in_row : (x : ℕ) → x < tile_width → place_of w (row_at w tx ty y + x) ≡ tile_width * y + x
  place_in_row x hx = let h = in_row x hx in rw (h.0, h.1) (omega arith)

  -- a row whose words are told by their columns, of colours that are told by the tile's pixel
  pub by_colours : (f : ℕ → List Float) (gives : ℕ → ℕ → Type 0) → ((x word : ℕ) → x < tile_width → gives x word → word ≡ pack_of (f (tile_width * y + x)))
      → GivesAt gives (row_at w tx ty y) (packed f w)
  by_colours f gives e x word old h given = e x word h given ∙ ap (λ (k : ℕ). pack_of (f k)) (sym (place_in_row x h))

  pub inside : (p : ℕ) → row_at w tx ty y ≤ p → p < row_at w tx ty y + tile_width → (p % w / tile_width ≡ tx) × (p / w / tile_height ≡ ty) × (p / w % tile_height ≡ y)
  inside p lo hi =
      let x = p - row_at w tx ty y in
      let e : row_at w tx ty y + x ≡ p = omega arith in
      let h = subst (λ (z : ℕ). (z / w ≡ tile_height * ty + y) × (z % w ≡ tile_width * tx + x)) e (in_row x (omega arith)) in
      (rw h.1 (omega arith), rw h.0 (omega arith), rw h.0 (omega arith))

  back : (p : ℕ) → p % w / tile_width ≡ tx → p / w / tile_height ≡ ty → p / w % tile_height ≡ y → (row_at w tx ty y ≤ p) × (p < row_at w tx ty y + tile_width)
  back p a b c =
      let q : p / w ≡ tile_height * ty + y = omega arith in
      let d : w * (p / w) + p % w ≡ p = div-add-mod p w in
      let e : w * (p / w) ≡ w * (tile_height * ty + y) = ap (λ (z : ℕ). w * z) q in
      (omega arith, omega arith)

  row_is : (p : ℕ) → (leb (row_at w tx ty y) p && ltb p (row_at w tx ty y + tile_width)) ≡ (in_tile w tx ty p && eqb (p / w % tile_height) y)
  row_is p =
      ⊎_elim
      (λ (lo : row_at w tx ty y ≤ p).
      ⊎_elim
      (λ (out : row_at w tx ty y + tile_width ≤ p). rw (le-leb _ _ lo, le-ltb _ _ out) (sym (none _ _ _ (λ a b c. after p out (eqb-true _ _ a) (eqb-true _ _ b) (eqb-true _ _ c)))))
      (λ (hi : p < row_at w tx ty y + tile_width). let h = inside p lo hi in rw (le-leb _ _ lo, lt-ltb _ _ hi, eq-eqb _ _ h.0, eq-eqb _ _ h.1, eq-eqb _ _ h.2))
      (le_or_lt (row_at w tx ty y + tile_width) p))
      (λ (out : p < row_at w tx ty y). rw (lt-leb _ _ out) (sym (none _ _ _ (λ a b c. before p out (eqb-true _ _ a) (eqb-true _ _ b) (eqb-true _ _ c)))))
      (le_or_lt (row_at w tx ty y) p)
    where
      after : (p : ℕ) → row_at w tx ty y + tile_width ≤ p → p % w / tile_width ≡ tx → p / w / tile_height ≡ ty → p / w % tile_height ≡ y → ⊥
      after p out a b c = let h = back p a b c in omega (arith, h.1)

      before : (p : ℕ) → p < row_at w tx ty y → p % w / tile_width ≡ tx → p / w / tile_height ≡ ty → p / w % tile_height ≡ y → ⊥
      before p out a b c = let h = back p a b c in omega (arith, h.0)

-- ---- the tile's first n rows
abbrev pub rows : (ℕ → ℕ → ℕ) → ℕ → ℕ → ℕ → ℕ → ℕ → ℕ → ℕ
rows new w tx ty n p old = cond (in_tile w tx ty p && ltb (p / w % tile_height) n) (new p old) old

one_more : (i : Bool) (r y old : ℕ) (f : ℕ → ℕ) → cond (i && eqb r y) (f (cond (i && ltb r y) (f old) old)) (cond (i && ltb r y) (f old) old) ≡ cond (i && ltb r (y + 1)) (f old) old
one_more false r y old f = refl
one_more true r y old f =
    ⊎_elim
    (λ (h : y ≤ r). ⊎_elim (λ (e : y ≡ r). rw (eq-eqb r y (sym e), le-ltb r y h, lt-ltb r (y + 1) (omega arith)))
    (λ (l : y < r). rw (ne_eqb r y (λ (e : r ≡ y). omega arith), le-ltb r y h, le-ltb r (y + 1) (omega arith))) (eq-or-lt_of_le h))
    (λ (h : r < y). rw (ne_eqb r y (λ (e : r ≡ y). omega arith), lt-ltb r y h, lt-ltb r (y + 1) (omega arith)))
    (le_or_lt y r)

module _ (new : ℕ → ℕ → ℕ) (w tx ty : ℕ) where
  pub no_rows : (l : List ℕ) → l ≡ mapi (rows new w tx ty 0) l
  no_rows l = unchanged 0 l ∙ mapi_cong 0 0 (λ p old. old) (rows new w tx ty 0) l (λ p old h. go p old (in_tile w tx ty p))
    where
      go : (p old : ℕ) (i : Bool) → old ≡ cond (i && ltb (p / w % tile_height) 0) (new p old) old
      go p old true = rw (le-ltb (p / w % tile_height) 0 (omega arith))
      go p old false = refl

  pub row_more : (y : ℕ) (l₀ l m : List ℕ) → y < tile_height → tile_width * tx + tile_width ≤ w → l ≡ mapi (rows new w tx ty y) l₀
      → m ≡ mapi (within (row_at w tx ty y) (row_at w tx ty y + tile_width) new) l → m ≡ mapi (rows new w tx ty (y + 1)) l₀
  row_more y l₀ l m hy hw inv e =
      let f = within (row_at w tx ty y) (row_at w tx ty y + tile_width) new in
      e ∙ ap (mapi f) inv ∙ mapi_mapi f (rows new w tx ty y) l₀
      ∙ mapi_cong 0 0 (λ p old. f p (rows new w tx ty y p old)) (rows new w tx ty (y + 1)) l₀
      (λ p old h. ap (λ (b : Bool). cond b (new p (rows new w tx ty y p old)) (rows new w tx ty y p old)) (row_is w tx ty y hy hw p) ∙ one_more (in_tile w tx ty p) (p / w % tile_height) y old (new p))

  pub all_rows : (n : ℕ) (l : List ℕ) → n ≡ tile_height → mapi (rows new w tx ty n) l ≡ put_tile new w tx ty l
  unfolding put_tile
  all_rows n l e =
      mapi_cong 0 0 (rows new w tx ty n) (λ p old. cond (in_tile w tx ty p) (new p old) old) l
      (λ p old h. go p old (in_tile w tx ty p) (mod-lt (p / w) (omega arith)))
    where
      go : (p old : ℕ) (i : Bool) → p / w % tile_height < tile_height → cond (i && ltb (p / w % tile_height) n) (new p old) old ≡ cond i (new p old) old
      go p old true h = rw (lt-ltb (p / w % tile_height) n (omega arith))
      go p old false h = refl
