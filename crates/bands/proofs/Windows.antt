-- A band is a window of the screen: with its pixels set among the screen's, its tiles leave there what the screen's own tiles leave. Assumes nothing.
use mathlib.Core.Path.{◌≡◌, refl, sym, ap, subst, ◌∙◌}
use mathlib.Core.Bool.{Bool, true, false, cond, ◌&&◌, false≢true}
use mathlib.Core.List.{List, [], ◌∷◌, ◌++◌}
use Prim.Native.Nat.{ℕ, zero, suc, ◌+◌, ◌-◌, ◌*◌, ◌/◌, ◌%◌, ◌<◌, ◌≤◌}
use native.Mathlib.Nat.{le_trans, add-zero, add-suc, add_comm, mul_comm, mul-add, mul-le-mul_left, not-le_of_lt, div-lt_iff_lt-mul, add-mul-div_right, add-mul-mod_self_right}
use native.Mathlib.Omega.{arith}
use lib.Dec.{eqb}
use lib.ListN.{length}
use lib.Ieee.{Float}
use borrow.Author.Tests.{eq-eqb, ne_eqb, eqb-true}
use Rattle.lists.specs.Run.{Step, taken, halted, Ran, done, refused, on_step, run}
use Rattle.lists.specs.Sums as Numbers
use Rattle.lists.specs.Grid.{map_from, mapi}
use Rattle.panel.specs.Verdict.{Verdict}
use Rattle.panel.specs.Verdict.{Fine, Against}
use Rattle.sides.specs.Tile.{tile_width, tile_height}
use Rattle.screen_rows.specs.Rows.{in_tile, place_of, put_tile, packed}
use Rattle.screen_tile.specs.Tile.{ends_at, colour_at, if_fine, tile_pixels}
use Rattle.fine.specs.Fine.{on_end, tile_step, tiles_of}
use Rattle.fine.proofs.Ranges.{some}
use Rattle.bands.specs.Bands.{band_step, band_tiles}
use Rattle.bands.proofs.BandLaws.{step_length}

-- ---- walks: what each record does to a state that is set among others, the walk does
abbrev map_step : {S T R : Type 0} → (T → S) → Step T R → Step S R
map_step h (taken s) = taken (h s)
map_step h (halted r) = halted r

abbrev pub map_ran : {S T R : Type 0} → (T → S) → Ran T R → Ran S R
map_ran h (done s) = done (h s)
map_ran h (refused s r) = refused (h s) r

module _ {S T R : Type 0} (f : ℕ → S → Step S R) (g : ℕ → T → Step T R) (h : T → S) (P : T → Type 0) (base most : ℕ) where
  pub run_through : ((k : ℕ) (s s' : T) → P s → g k s ≡ taken s' → P s') → ((k : ℕ) (s : T) → k < most → P s → f (base + k) (h s) ≡ map_step h (g k s))
      → (n j : ℕ) (s : T) → j + n ≤ most → P s → run f (Numbers.from (base + j) n) (h s) ≡ map_ran h (run g (Numbers.from j n) s)
  run_through keeps step zero j s b p = refl
  run_through keeps step (suc n) j s b p =
      ap (λ (o : Step S R). on_step o (h s) (run f (Numbers.from (suc (base + j)) n))) (step j s (omega arith) p)
      ∙ go (g j s) refl (λ s' q. ap (λ (m : ℕ). run f (Numbers.from m n) (h s')) (sym (add-suc base j)) ∙ run_through keeps step n (suc j) s' (omega arith) q)
    where
      go : (o : Step T R) → g j s ≡ o → ((s' : T) → P s' → run f (Numbers.from (suc (base + j)) n) (h s') ≡ map_ran h (run g (Numbers.from (suc j) n) s'))
          → on_step (map_step h o) (h s) (run f (Numbers.from (suc (base + j)) n)) ≡ map_ran h (on_step o s (run g (Numbers.from (suc j) n)))
      go (taken s') e ih = ih s' (keeps j s s' p e)
      go (halted r) e ih = refl

-- ---- lists that are changed at each place
module _ {A : Type 0} where
  from_append : (j : ℕ) (f : ℕ → A → A) (l m : List A) → map_from j f (l ++ m) ≡ map_from j f l ++ map_from (j + length l) f m
  unfolding map_from
  from_append j f [] m = ap (λ (n : ℕ). map_from n f m) (sym (add-zero j))
  from_append j f (x ∷ l) m =
      ap (◌∷◌ (f j x)) (from_append (suc j) f l m ∙ ap (λ (n : ℕ). map_from (suc j) f l ++ map_from n f m) (shift j (length l)))
    where
      shift : (a b : ℕ) → suc a + b ≡ a + suc b
      shift a b = omega arith

  -- no place of them is changed
  from_same : (j : ℕ) (f : ℕ → A → A) (l : List A) → ((k : ℕ) (x : A) → j ≤ k → k < j + length l → f k x ≡ x) → map_from j f l ≡ l
  unfolding map_from
  from_same j f [] h = refl
  from_same j f (x ∷ l) h =
      ap (λ (y : A). y ∷ map_from (suc j) f l) (h j x (omega arith) (omega arith))
      ∙ ap (◌∷◌ x) (from_same (suc j) f l (λ k y p q. h k y (omega (arith, p)) (omega (arith, q))))

  -- the same changes, counted from n
  from_shift : (n j : ℕ) (f g : ℕ → A → A) (l : List A) → ((k : ℕ) (x : A) → f (n + k) x ≡ g k x) → map_from (n + j) f l ≡ map_from j g l
  unfolding map_from
  from_shift n j f g [] h = refl
  from_shift n j f g (x ∷ l) h =
      ap (λ (y : A). y ∷ map_from (suc (n + j)) f l) (h j x)
      ∙ ap (◌∷◌ (g j x)) (ap (λ (m : ℕ). map_from m f l) (sym (add-suc n j)) ∙ from_shift n (suc j) f g l h)

-- ---- where a pixel of the window lies. w pixels to a row, so many rows of tiles above
module _ (w first : ℕ) (some_width : 0 < w) where
  in_row : (p : ℕ) → (w * (tile_height * first) + p) / w ≡ tile_height * first + p / w
  in_row p =
      ap (λ (n : ℕ). n / w) (add_comm (w * (tile_height * first)) p ∙ ap (λ (n : ℕ). p + n) (mul_comm w (tile_height * first)))
      ∙ add-mul-div_right p (tile_height * first) some_width ∙ add_comm (p / w) (tile_height * first)

  in_column : (p : ℕ) → (w * (tile_height * first) + p) % w ≡ p % w
  in_column p =
      ap (λ (n : ℕ). n % w) (add_comm (w * (tile_height * first)) p ∙ ap (λ (n : ℕ). p + n) (mul_comm w (tile_height * first)))
      ∙ add-mul-mod_self_right p (tile_height * first) w

  rows_down : (n : ℕ) → (tile_height * first + n) / tile_height ≡ first + n / tile_height
  rows_down n = omega arith

  row_of_tile : (n : ℕ) → (tile_height * first + n) % tile_height ≡ n % tile_height
  row_of_tile n = omega arith

  eqb_shift : (a b : ℕ) → eqb (first + a) (first + b) ≡ eqb a b
  eqb_shift a b = go (eqb a b) refl
    where
      go : (t : Bool) → eqb a b ≡ t → eqb (first + a) (first + b) ≡ t
      go true e = eq-eqb (first + a) (first + b) (ap (λ (n : ℕ). first + n) (eqb-true a b e))
      go false e = ne_eqb (first + a) (first + b) (λ q. let r : a ≡ b = omega (arith, q) in false≢true (sym e ∙ eq-eqb a b r))

  same_tile_lem : (tx ty p : ℕ) → in_tile w tx (first + ty) (w * (tile_height * first) + p) ≡ in_tile w tx ty p
  same_tile_lem tx ty p = rw (in_row p, in_column p, rows_down (p / w), eqb_shift (p / w / tile_height) ty)

  same_place : (p : ℕ) → place_of w (w * (tile_height * first) + p) ≡ place_of w p
  same_place p = rw (in_row p, in_column p, row_of_tile (p / w))

  -- of a tile in the window no pixel lies above it, and none below
  not_in : (a b : Bool) → b ≡ false → (a && b) ≡ false
  not_in true b e = e
  not_in false b e = refl

  above_it : (tx ty p : ℕ) → p < w * (tile_height * first) → in_tile w tx (first + ty) p ≡ false
  above_it tx ty p h =
      let q : p / w < tile_height * first = (div-lt_iff_lt-mul some_width).1 (subst (λ (n : ℕ). p < n) (mul_comm w (tile_height * first)) h) in
      not_in (eqb (p % w / tile_width) tx) _ (ne_eqb (p / w / tile_height) (first + ty) (λ e. omega (arith, e, q)))

  below_it : (tx ty p : ℕ) → w * (tile_height * (first + ty) + tile_height) ≤ p → in_tile w tx (first + ty) p ≡ false
  below_it tx ty p h =
      not_in (eqb (p % w / tile_width) tx) _ (ne_eqb (p / w / tile_height) (first + ty) (λ e.
      let q : p / w < tile_height * (first + ty) + tile_height = omega (arith, e) in
      absurd (not-le_of_lt (subst (λ (n : ℕ). p < n) (mul_comm (tile_height * (first + ty) + tile_height) w) ((div-lt_iff_lt-mul some_width).0 q)) h)))

-- ---- a tile, among pixels above and below the window
module _ (w first : ℕ) (some_width : 0 < w) (up mine down : List ℕ) (high : length up ≡ w * (tile_height * first)) where
  put_among : (colour : ℕ → List Float) (tx ty : ℕ) → w * (tile_height * ty + tile_height) ≤ length mine
      → put_tile (packed colour w) w tx (first + ty) (up ++ (mine ++ down)) ≡ up ++ (put_tile (packed colour w) w tx ty mine ++ down)
  unfolding put_tile
  put_among colour tx ty room =
      let F : ℕ → ℕ → ℕ = λ p old. cond (in_tile w tx (first + ty) p) (packed colour w p old) old in
      let G : ℕ → ℕ → ℕ = λ p old. cond (in_tile w tx ty p) (packed colour w p old) old in
      let n = w * (tile_height * first) in
      from_append 0 F up (mine ++ down)
      ∙ ap (λ (l : List ℕ). l ++ map_from (0 + length up) F (mine ++ down))
      (from_same 0 F up (λ p old a b. ap (λ (t : Bool). cond t (packed colour w p old) old) (above_it w first some_width tx ty p (omega (arith, b, high)))))
      ∙ ap (λ (l : List ℕ). up ++ l)
      (ap (λ (m : ℕ). map_from m F (mine ++ down)) (start (length up) n high)
      ∙ from_append (n + 0) F mine down
      ∙ ap (λ (l : List ℕ). l ++ map_from (n + 0 + length mine) F down) (from_shift n 0 F G mine (λ p old. within_it colour tx ty p old))
      ∙ ap (λ (l : List ℕ). mapi G mine ++ l)
      (from_same (n + 0 + length mine) F down
      (λ p old a b. ap (λ (t : Bool). cond t (packed colour w p old) old) (below_it w first some_width tx ty p (deep ty p (length mine) room a)))))
    where
      start : (a n : ℕ) → a ≡ n → 0 + a ≡ n + 0
      start a n e = omega arith

      within_it : (colour : ℕ → List Float) (tx ty p old : ℕ)
          → cond (in_tile w tx (first + ty) (w * (tile_height * first) + p)) (packed colour w (w * (tile_height * first) + p) old) old
          ≡ cond (in_tile w tx ty p) (packed colour w p old) old
      within_it colour tx ty p old = rw (same_tile_lem w first some_width tx ty p, same_place w first some_width p)

      deep : (ty p n : ℕ) → w * (tile_height * ty + tile_height) ≤ n → w * (tile_height * first) + 0 + n ≤ p → w * (tile_height * (first + ty) + tile_height) ≤ p
      deep ty p n a b =
          let e : tile_height * (first + ty) + tile_height ≡ tile_height * first + (tile_height * ty + tile_height) = omega arith in
          let d : w * (tile_height * (first + ty) + tile_height) ≡ w * (tile_height * first) + w * (tile_height * ty + tile_height) =
          ap (λ (m : ℕ). w * m) e ∙ mul-add w (tile_height * first) (tile_height * ty + tile_height) in
          omega (arith, d, a, b)

  pub tile_among : (ws : List ℕ) (segs : List Float) (t tx ty : ℕ) → w * (tile_height * ty + tile_height) ≤ length mine
      → tile_pixels ws segs t w tx (first + ty) (up ++ (mine ++ down)) ≡ up ++ (tile_pixels ws segs t w tx ty mine ++ down)
  unfolding tile_pixels
  tile_among ws segs t tx ty room = go (ends_at ws segs t)
    where
      go : (v : Verdict) → if_fine v (put_tile (packed (colour_at ws segs t) w) w tx (first + ty) (up ++ (mine ++ down))) (up ++ (mine ++ down))
          ≡ up ++ (if_fine v (put_tile (packed (colour_at ws segs t) w) w tx ty mine) mine ++ down)
      go Fine = put_among (colour_at ws segs t) tx ty room
      go (Against n) = refl

-- ---- a band's tiles, among pixels above and below it
module _ (ws : List ℕ) (segs : List Float) (w cols first rows : ℕ) (up down : List ℕ) (high : length up ≡ w * (tile_height * first)) (wide : tile_width * cols ≤ w) where
  screen_row : (k : ℕ) → 0 < cols → (cols * first + k) / cols ≡ first + k / cols
  screen_row k h =
      ap (λ (n : ℕ). n / cols) (add_comm (cols * first) k ∙ ap (λ (n : ℕ). k + n) (mul_comm cols first))
      ∙ add-mul-div_right k first h ∙ add_comm (k / cols) first

  screen_column : (k : ℕ) → (cols * first + k) % cols ≡ k % cols
  screen_column k =
      ap (λ (n : ℕ). n % cols) (add_comm (cols * first) k ∙ ap (λ (n : ℕ). k + n) (mul_comm cols first))
      ∙ add-mul-mod_self_right k first cols

  among_step : (k : ℕ) (mine : List ℕ) → k < cols * rows → w * (tile_height * rows) ≤ length mine
      → tile_step ws segs w cols (cols * first + k) (up ++ (mine ++ down)) ≡ map_step (λ (m : List ℕ). up ++ (m ++ down)) (band_step ws segs w cols (cols * first) k mine)
  unfolding tile_step band_step
  among_step k mine h n =
      let z : 0 < cols = some cols rows k h in
      let y : k / cols < rows = (div-lt_iff_lt-mul z).1 (subst (λ (m : ℕ). k < m) (mul_comm cols rows) h) in
      let u : w * (tile_height * (k / cols) + tile_height) ≤ length mine = le_trans (mul-le-mul_left w (omega arith)) n in
      let t = cols * first + k in
      ap (on_end (ends_at ws segs t) t)
      (ap (λ (c : ℕ). tile_pixels ws segs t w c (t / cols) (up ++ (mine ++ down))) (screen_column k)
      ∙ ap (λ (r : ℕ). tile_pixels ws segs t w (k % cols) r (up ++ (mine ++ down))) (screen_row k z)
      ∙ tile_among w first (omega arith) up mine down high ws segs t (k % cols) (k / cols) u)
      ∙ go (ends_at ws segs t) t (tile_pixels ws segs t w (k % cols) (k / cols) mine)
    where
      go : (v : Verdict) (t : ℕ) (m : List ℕ) → on_end v t (up ++ (m ++ down)) ≡ map_step (λ (m : List ℕ). up ++ (m ++ down)) (on_end v t m)
      go Fine t m = refl
      go (Against n) t m = refl

  pub among : (mine : List ℕ) → w * (tile_height * rows) ≤ length mine
      → tiles_of ws segs w cols (cols * first) (cols * first + cols * rows) (up ++ (mine ++ down))
      ≡ map_ran (λ (m : List ℕ). up ++ (m ++ down)) (band_tiles ws segs w cols (cols * first) 0 (cols * rows) mine)
  unfolding tiles_of band_tiles
  among mine n =
      let f = tile_step ws segs w cols in
      let a : cols * first ≡ cols * first + 0 = omega arith in
      let b : cols * first + cols * rows - cols * first ≡ cols * rows = omega arith in
      let g = band_step ws segs w cols (cols * first) in
      let z : cols * rows ≡ cols * rows - 0 = omega arith in
      ap (λ (m : ℕ). run f (Numbers.from (cols * first) m) (up ++ (mine ++ down))) b
      ∙ ap (λ (m : ℕ). run f (Numbers.from m (cols * rows)) (up ++ (mine ++ down))) a
      ∙ run_through f g (λ (m : List ℕ). up ++ (m ++ down)) (λ (m : List ℕ). length m ≡ length mine) (cols * first) (cols * rows)
      (λ k p q h e. step_length ws segs w cols (cols * first) (length mine) k p q h e)
      (λ k p h e. among_step k p h (subst (λ (m : ℕ). w * (tile_height * rows) ≤ m) (sym e) n))
      (cols * rows) 0 mine (omega arith) refl
      ∙ ap (λ (m : ℕ). map_ran (λ (m : List ℕ). up ++ (m ++ down)) (run g (Numbers.from 0 m) mine)) z
