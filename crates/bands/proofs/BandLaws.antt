-- A band's tiles: none, the first and then the rest; and that a band whose checks pass has its tiles on the screen. Assumes nothing.
use mathlib.Core.Path.{◌≡◌, refl, sym, ap, ◌∙◌}
use mathlib.Core.List.{List}
use Prim.Native.Nat.{ℕ, suc, ◌+◌, ◌-◌, ◌*◌, ◌/◌, ◌%◌, ◌<◌, ◌≤◌}
use native.Mathlib.Nat.{le_trans, le_of_eq, mul-add, mul-le-mul_left}
use native.Mathlib.Numerals.{add-one}
use native.Mathlib.Omega.{arith}
use lib.ListN.{length}
use lib.Ieee.{Float}
use Rattle.lists.specs.Run.{taken, done, refused, left, on_step, run, run_keeps}
use Rattle.lists.specs.Sums as Numbers
use Rattle.panel.specs.Limits.{most_tiles}
use Rattle.panel.specs.Verdict.{Verdict}
use Rattle.panel.specs.Verdict.{Fine, Against}
use Rattle.screen_tile.specs.Tile.{ends_at, tile_pixels}
use Rattle.fine.specs.Fine.{on_end}
use Rattle.fine.proofs.Screens.{tile_length}
use Rattle.bands.specs.Bands.{band_step, band_tiles}

-- the screen's tiles that a band ends with are at most as many as the screen has
pub tiles_fit : (cols rows first end : ℕ) → first ≤ end → end ≤ rows → cols * rows ≤ most_tiles → cols * first + cols * (end - first) ≤ most_tiles
tiles_fit cols rows first end p q h =
    let e : first + (end - first) ≡ end = omega arith in
    le_trans (le_of_eq (sym (mul-add cols first (end - first)) ∙ ap (λ (n : ℕ). cols * n) e)) (le_trans (mul-le-mul_left cols q) h)

module _ (ws : List ℕ) (segs : List Float) (w cols base : ℕ) where
  module _ (k to : ℕ) (pixels : List ℕ) where
    pub no_tiles : to ≤ k → band_tiles ws segs w cols base k to pixels ≡ done pixels
    unfolding band_tiles
    no_tiles h = let n : to - k ≡ 0 = omega arith in ap (λ (m : ℕ). run (band_step ws segs w cols base) (Numbers.from k m) pixels) n

    -- the first tile, and then the rest
    first : k < to → band_tiles ws segs w cols base k to pixels ≡ on_step (band_step ws segs w cols base k pixels) pixels (band_tiles ws segs w cols base (k + 1) to)
    unfolding band_tiles
    first h =
        let n : to - k ≡ suc (to - (k + 1)) = omega arith in
        ap (λ (m : ℕ). run (band_step ws segs w cols base) (Numbers.from k m) pixels) n
        ∙ ap (λ (m : ℕ). on_step (band_step ws segs w cols base k pixels) pixels (run (band_step ws segs w cols base) (Numbers.from m (to - (k + 1))))) (sym (add-one k))

    pub tile_stops : (n : ℕ) → k < to → Against n ≡ ends_at ws segs (base + k)
        → band_tiles ws segs w cols base k to pixels ≡ refused pixels (record { number = n; tile = base + k })
    unfolding band_step
    tile_stops n h e =
        first h
        ∙ ap (λ (v : Verdict). on_step (on_end v (base + k) (tile_pixels ws segs (base + k) w (k % cols) (k / cols) pixels)) pixels (band_tiles ws segs w cols base (k + 1) to))
        (sym e)

    pub tile_goes : k < to → Fine ≡ ends_at ws segs (base + k)
        → band_tiles ws segs w cols base k to pixels ≡ band_tiles ws segs w cols base (k + 1) to (tile_pixels ws segs (base + k) w (k % cols) (k / cols) pixels)
    unfolding band_step
    tile_goes h e =
        first h
        ∙ ap (λ (v : Verdict). on_step (on_end v (base + k) (tile_pixels ws segs (base + k) w (k % cols) (k / cols) pixels)) pixels (band_tiles ws segs w cols base (k + 1) to))
        (sym e)

  -- a tile that is taken leaves as many pixels, and so do all
  pub step_length : (n k : ℕ) (p q : List ℕ) → length p ≡ n → band_step ws segs w cols base k p ≡ taken q → length q ≡ n
  unfolding band_step
  step_length n k p q h e = go (ends_at ws segs (base + k)) e
    where
      go : (v : Verdict) → on_end v (base + k) (tile_pixels ws segs (base + k) w (k % cols) (k / cols) p) ≡ taken q → length q ≡ n
      go Fine f =
          let g : tile_pixels ws segs (base + k) w (k % cols) (k / cols) p ≡ q = cc in
          ap length (sym g) ∙ tile_length ws segs (base + k) w (k % cols) (k / cols) p ∙ h
      go (Against m) f = let z : ◌≡◌ {A = ℕ} 0 1 = cc in absurd (omega arith)

  pub band_length : (a b : ℕ) (pixels : List ℕ) → length (left (band_tiles ws segs w cols base a b pixels)) ≡ length pixels
  unfolding band_tiles
  band_length a b pixels =
      run_keeps (band_step ws segs w cols base) (λ l. length l ≡ length pixels) (λ k p q h e. step_length (length pixels) k p q h e) (Numbers.from a (b - a)) pixels refl
