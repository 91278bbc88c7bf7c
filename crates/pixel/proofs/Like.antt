-- One pixel, asked for by itself, is what fill and fine leave there, and is refused where they refuse, with their number. Assumes nothing.
use mathlib.Core.Path.{◌≡◌, refl, sym, ap, ◌∙◌}
use mathlib.Core.Bool.{Bool, true, false, cond, ◌&&◌}
use mathlib.Core.List.{List}
use Prim.Native.Nat.{ℕ, zero, suc, ◌+◌, ◌-◌, ◌*◌, ◌/◌, ◌%◌, ◌<◌, ◌≤◌}
use native.Mathlib.Nat.{div-add-mod}
use native.Mathlib.Omega.{arith}
use lib.Dec.{eqb}
use lib.IntN.{ℤ}
use lib.ListN.{length, get_or}
use lib.Ieee.{Float, nan}
use borrow.Author.Tests.{lt-ltb, leb-true, eq-eqb, ne_eqb, eqb-true}
use Rattle.lists.specs.Run.{Ran, done, refused}
use Rattle.panel.specs.Checks.{first_no, unless}
use Rattle.panel.specs.Kinds.{paper_of}
use Rattle.panel.proofs.CheckLaws.{all_ok, none_fails}
use Rattle.panel.specs.Answer.{Done}
use Rattle.panel.specs.Verdict.{Verdict}
use Rattle.panel.specs.Verdict.{Fine, Against}
use Rattle.sides.specs.Tile.{tile_width, tile_height, tile_size}
use Rattle.coverage.specs.Coverage.{pixel_of, coverage_of}
use Rattle.coverage.specs.Fill.{fill_checks, fill_of, if_fine as or_old}
use Rattle.coverage.proofs.Bounds.{cover_at}
use Rattle.colours.specs.Colour.{pack_of}
use Rattle.screen_rows.specs.Rows.{in_tile, place_of, put_tile, packed}
use Rattle.screen_tile.specs.Tile.{ends_at, colour_at, if_fine, tile_pixels}
use Rattle.fine.specs.Fine.{fine_checks, Shown, No, tiles_of, shown_of, unless_no as screen_unless, fine_of}
use Rattle.screen_rows.proofs.Places.{inside, place_in_row, row_room}
use Rattle.fine.proofs.Ranges.{on_screen_lem, no_tiles, tile_stops, tile_goes}
use Rattle.fine.proofs.Screens.{outside_kept, inside_put, tile_length}
use Rattle.pixel.specs.Place.{place_at, place_checks}
use Rattle.pixel.specs.Answers.{Paper, answered, refused_by, unless_no}
use Rattle.pixel.specs.Coverage.{coverage_at_of}
use Rattle.pixel.specs.Colour.{whole_checks, under_list, colour_at_of}
use Rattle.pixel.specs.Like.{by_answer, filled_at, screen_place, shown_at, CameTo}
use Rattle.pixel.proofs.Places.{place_below}

placed : (column row : ℕ) → column < tile_width → row < tile_height → first_no (place_checks column row) ≡ Fine
placed column row h k = none_fails (place_checks column row) (lt-ltb column tile_width h, (lt-ltb row tile_height k, tt))

-- ---- beside fill, of an area that has a tile's size
pub like_fill : (segs : List Float) (first n : ℕ) (eo : Bool) (z : ℤ) (xt yt : Float) (area : List Float) (column row : ℕ) → length area ≡ tile_size
    → column < tile_width → row < tile_height
    → coverage_at_of segs first n eo z xt yt column row ≡ filled_at (fill_of segs first n eo z xt yt area) (place_at column row)
unfolding coverage_at_of fill_of
like_fill segs first n eo z xt yt area column row e h k =
    ap (λ (v : Verdict). unless_no v (unless_no (first_no (fill_checks segs tile_size first n)) (answered (pixel_of segs first n eo z xt yt (place_at column row))))) (placed column row h k)
    ∙ ap (λ (m : ℕ). unless_no (first_no (fill_checks segs m first n)) (answered (pixel_of segs first n eo z xt yt (place_at column row)))) (sym e)
    ∙ go (first_no (fill_checks segs (length area) first n))
  where
    go : (v : Verdict) → unless_no v (answered (pixel_of segs first n eo z xt yt (place_at column row)))
        ≡ by_answer (paper_of (unless v 0 Done)) (get_or (or_old v (coverage_of segs first n eo z xt yt) area) (place_at column row) nan)
    go Fine = ap answered (sym (cover_at segs first n z xt yt eo (place_at column row) (place_below column row h k)))
    go (Against m) = refl

-- ---- beside fine, over any range of a screen's tiles that it takes

-- what a run over tiles says of tile t's pixel p, and whether it came so far
abbrev ran_says : Ran (List ℕ) No → ℕ → ℕ → Paper ℕ
ran_says (done px) t p = answered (get_or px p 0)
ran_says (refused px r) t p = cond (eqb r.tile t) (refused_by r.number) (answered (get_or px p 0))

abbrev Came : Ran (List ℕ) No → ℕ → Type 0
Came (done px) t = Unit {0}
Came (refused px r) t = t ≤ r.tile

module _ (ws : List ℕ) (segs : List Float) (w cols to t p : ℕ) (col : p % w / tile_width ≡ t % cols) (row : p / w / tile_height ≡ t / cols) where
  -- another tile leaves the pixel alone
  apart : (a : ℕ) → (a ≡ t → ⊥) → in_tile w (a % cols) (a / cols) p ≡ false
  apart a ne = neither _ _ (λ x y. ne (same (sym (eqb-true _ _ x) ∙ col) (sym (eqb-true _ _ y) ∙ row)))
    where
      neither : (x y : Bool) → (x ≡ true → y ≡ true → ⊥) → (x && y) ≡ false
      neither true true f = absurd (f refl refl)
      neither true false f = refl
      neither false y f = refl

      same : a % cols ≡ t % cols → a / cols ≡ t / cols → a ≡ t
      same x y = sym (div-add-mod a cols) ∙ rw (x, y) (div-add-mod t cols)

  kept : (a : ℕ) (px : List ℕ) → (a ≡ t → ⊥) → p < length px → get_or (tile_pixels ws segs a w (a % cols) (a / cols) px) p 0 ≡ get_or px p 0
  unfolding tile_pixels
  kept a px ne h = go (ends_at ws segs a)
    where
      go : (v : Verdict) → get_or (if_fine v (put_tile (packed (colour_at ws segs a) w) w (a % cols) (a / cols) px) px) p 0 ≡ get_or px p 0
      go Fine = outside_kept (packed (colour_at ws segs a) w) w (a % cols) (a / cols) p px h (apart a ne)
      go (Against n) = refl

  longer : (a : ℕ) (px : List ℕ) → p < length px → p < length (tile_pixels ws segs a w (a % cols) (a / cols) px)
  longer a px h = rw (tile_length ws segs a w (a % cols) (a / cols) px) h

  -- the tiles after t
  later : (m a : ℕ) (px : List ℕ) → t < a → a + m ≡ to → p < length px → ran_says (tiles_of ws segs w cols a to px) t p ≡ answered (get_or px p 0)
  later zero a px h e q = ap (λ (r : Ran (List ℕ) No). ran_says r t p) (no_tiles ws segs w cols a to px (omega arith))
  later (suc m) a px h e q = go (later m (a + 1) (tile_pixels ws segs a w (a % cols) (a / cols) px) (omega arith) (omega arith) (longer a px q)) (ends_at ws segs a) refl
    where
      go : (ran_says (tiles_of ws segs w cols (a + 1) to (tile_pixels ws segs a w (a % cols) (a / cols) px)) t p ≡ answered (get_or (tile_pixels ws segs a w (a % cols) (a / cols) px) p 0))
          → (v : Verdict) → ends_at ws segs a ≡ v → ran_says (tiles_of ws segs w cols a to px) t p ≡ answered (get_or px p 0)
      go ih Fine f =
          ap (λ (r : Ran (List ℕ) No). ran_says r t p) (tile_goes ws segs w cols a to px (omega arith) (sym f))
          ∙ ih ∙ ap answered (kept a px (λ z. absurd (omega arith)) q)
      go ih (Against n) f =
          ap (λ (r : Ran (List ℕ) No). ran_says r t p) (tile_stops ws segs w cols a to px n (omega arith) (sym f))
          ∙ ap (λ (b : Bool). cond b (refused_by n) (answered (get_or px p 0))) (ne_eqb a t (λ z. absurd (omega arith)))

  -- tile t itself
  drawn : (px : List ℕ) → p < length px → ends_at ws segs t ≡ Fine → get_or (tile_pixels ws segs t w (t % cols) (t / cols) px) p 0 ≡ pack_of (colour_at ws segs t (place_of w p))
  unfolding tile_pixels
  drawn px h e =
      ap (λ (v : Verdict). get_or (if_fine v (put_tile (packed (colour_at ws segs t) w) w (t % cols) (t / cols) px) px) p 0) e
      ∙ inside_put (packed (colour_at ws segs t) w) w (t % cols) (t / cols) p px h (rw (eq-eqb _ _ col, eq-eqb _ _ row))

  here : (px : List ℕ) → t < to → p < length px → ran_says (tiles_of ws segs w cols t to px) t p ≡ under_list ws segs t (place_of w p)
  unfolding under_list
  here px h q = go (ends_at ws segs t) refl
    where
      go : (v : Verdict) → ends_at ws segs t ≡ v → ran_says (tiles_of ws segs w cols t to px) t p ≡ unless_no (ends_at ws segs t) (answered (pack_of (colour_at ws segs t (place_of w p))))
      go Fine f =
          ap (λ (r : Ran (List ℕ) No). ran_says r t p) (tile_goes ws segs w cols t to px h (sym f))
          ∙ later (to - (t + 1)) (t + 1) (tile_pixels ws segs t w (t % cols) (t / cols) px) (omega arith) (omega arith) (longer t px q)
          ∙ ap answered (drawn px q f) ∙ sym (ap (λ (v : Verdict). unless_no v (answered (pack_of (colour_at ws segs t (place_of w p))))) f)
      go (Against n) f =
          ap (λ (r : Ran (List ℕ) No). ran_says r t p) (tile_stops ws segs w cols t to px n h (sym f))
          ∙ ap (λ (b : Bool). cond b (refused_by n) (answered (get_or px p 0))) (eq-eqb t t refl)
          ∙ sym (ap (λ (v : Verdict). unless_no v (answered (pack_of (colour_at ws segs t (place_of w p))))) f)

  -- the tiles before t
  earlier : (m a : ℕ) (px : List ℕ) → a + m ≡ t → t < to → p < length px → Came (tiles_of ws segs w cols a to px) t
      → ran_says (tiles_of ws segs w cols a to px) t p ≡ under_list ws segs t (place_of w p)
  earlier zero a px e h q c =
      let f : a ≡ t = omega arith in
      ap (λ (b : ℕ). ran_says (tiles_of ws segs w cols b to px) t p) f ∙ here px h q
  earlier (suc m) a px e h q c =
      go (earlier m (a + 1) (tile_pixels ws segs a w (a % cols) (a / cols) px) (omega arith) h (longer a px q)) (ends_at ws segs a) refl
    where
      go : (Came (tiles_of ws segs w cols (a + 1) to (tile_pixels ws segs a w (a % cols) (a / cols) px)) t
          → ran_says (tiles_of ws segs w cols (a + 1) to (tile_pixels ws segs a w (a % cols) (a / cols) px)) t p ≡ under_list ws segs t (place_of w p))
          → (v : Verdict) → ends_at ws segs a ≡ v → ran_says (tiles_of ws segs w cols a to px) t p ≡ under_list ws segs t (place_of w p)
      go ih Fine f =
          let g = tile_goes ws segs w cols a to px (omega arith) (sym f) in
          ap (λ (r : Ran (List ℕ) No). ran_says r t p) g ∙ ih (rw g at c)
      go ih (Against n) f =
          let b : t ≤ a = rw (tile_stops ws segs w cols a to px n (omega arith) (sym f)) at c in
          absurd (omega arith)

-- on paper
on_paper : (r : Ran (List ℕ) No) (t p : ℕ) → ran_says r t p ≡ shown_at (shown_of r) t p
on_paper (done px) t p = refl
on_paper (refused px r) t p = refl

off_paper : (r : Ran (List ℕ) No) (t : ℕ) → CameTo (shown_of r).answer t → Came r t
off_paper (done px) t c = tt
off_paper (refused px r) t c = c

-- the screen's checks pass, t is in the range, and no tile before it is refused
pub like_fine : (ws : List ℕ) (segs : List Float) (w cols rows from to : ℕ) (pixels : List ℕ) (t column row : ℕ)
    → first_no (fine_checks (length segs) w cols rows from to (length pixels)) ≡ Fine → from ≤ t → t < to → column < tile_width → row < tile_height
    → CameTo (fine_of ws segs w cols rows from to pixels).answer t
    → colour_at_of ws segs t column row ≡ shown_at (fine_of ws segs w cols rows from to pixels) t (screen_place w cols t column row)
unfolding colour_at_of fine_of
like_fine ws segs w cols rows from to pixels t column row e a b h k c =
    let ok = all_ok (fine_checks (length segs) w cols rows from to (length pixels)) e in
    let p = screen_place w cols t column row in
    let on = on_screen_lem w cols rows t (length pixels) (lt_of_le t to (cols * rows) b (leb-true _ _ ok.1.1.0)) (leb-true _ _ ok.1.1.1.0) (leb-true _ _ ok.1.1.1.1.0)
    (leb-true _ _ ok.1.1.1.1.1.0) in
    let q = inside w (t % cols) (t / cols) row k on.3 p (omega arith) (omega arith) in
    let l : p < length pixels = omega (arith, row_room w (t % cols) (t / cols) row (length pixels) k on.3 on.4) in
    let f = ap (λ (v : Verdict). screen_unless v pixels (shown_of (tiles_of ws segs w cols from to pixels))) e in
    ap (λ (v : Verdict). unless_no v (unless_no (first_no (whole_checks (length segs))) (under_list ws segs t (place_at column row)))) (placed column row h k)
    ∙ ap (λ (v : Verdict). unless_no v (under_list ws segs t (place_at column row))) (none_fails (whole_checks (length segs)) (ok.0, tt))
    ∙ ap (under_list ws segs t) (sym (place_in_row w (t % cols) (t / cols) row k on.3 column h))
    ∙ sym (earlier ws segs w cols to t p q.0 q.1 (t - from) from pixels (omega arith) b l (off_paper (tiles_of ws segs w cols from to pixels) t (rw f at c)))
    ∙ on_paper (tiles_of ws segs w cols from to pixels) t p ∙ sym (ap (λ (s : Shown). shown_at s t p) f)
  where
    lt_of_le : (x y z : ℕ) → x < y → y ≤ z → x < z
    lt_of_le x y z i j = omega arith
