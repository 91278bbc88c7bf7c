-- A range of screen tiles: none, the first and then the rest, and two one after the other. Assumes nothing.
use mathlib.Core.Path.{◌≡◌, sym, ap, subst, ◌∙◌}
use mathlib.Core.List.{List}
use Prim.Native.Nat.{ℕ, zero, suc, ◌+◌, ◌-◌, ◌*◌, ◌/◌, ◌%◌, ◌<◌, ◌≤◌}
use native.Mathlib.Nat.{mul_comm, zero-mul, mul-le-mul_left, mod-lt, mod-le, div-le_self, div-lt_iff_lt-mul, not-suc-le-zero}
use native.Mathlib.Numerals.{add-one}
use native.Mathlib.Omega.{arith}
use lib.Ieee.{Float}
use Rattle.lists.specs.Run.{done, refused, and_then, on_step, run, run_append}
use Rattle.lists.specs.Sums as Numbers
use Rattle.panel.specs.Limits.{most_tiles}
use Rattle.panel.specs.Verdict.{Verdict}
use Rattle.panel.specs.Verdict.{Fine, Against}
use Rattle.sides.specs.Tile.{tile_width, tile_height}
use Rattle.screen_tile.specs.Tile.{ends_at, tile_pixels}
use Rattle.fine.specs.Fine.{on_end, tile_step, tiles_of}

-- ---- a tile of a screen that was checked lies on it
pub some : (c r t : ℕ) → t < c * r → 0 < c
some zero r t h = absurd (not-suc-le-zero (subst (λ (k : ℕ). t < k) (zero-mul r) h))
some (suc c) r t h = omega arith

pub on_screen_lem : (w c r t n : ℕ) → t < c * r → c * r ≤ most_tiles → tile_width * c ≤ w → w * (tile_height * r) ≤ n
    → (t < most_tiles) × (t % c < most_tiles) × (t / c < most_tiles) × (tile_width * (t % c) + tile_width ≤ w) × (w * (tile_height * (t / c) + tile_height) ≤ n)
on_screen_lem w c r t n h k p q =
    let z : 0 < c = some c r t h in
    let y : t / c < r = (div-lt_iff_lt-mul z).1 (subst (λ (m : ℕ). t < m) (mul_comm c r) h) in
    let x : t % c < c = mod-lt t z in
    let d : t / c ≤ t = div-le_self t c in
    let m : t % c ≤ t = mod-le t c in
    let u : w * (tile_height * (t / c) + tile_height) ≤ w * (tile_height * r) = mul-le-mul_left w (omega arith) in
    (omega arith, omega arith, omega arith, omega arith, omega arith)

module _ (ws : List ℕ) (segs : List Float) (w cols : ℕ) where
  module _ (t to : ℕ) (pixels : List ℕ) where
    pub no_tiles : to ≤ t → tiles_of ws segs w cols t to pixels ≡ done pixels
    unfolding tiles_of
    no_tiles h = let n : to - t ≡ 0 = omega arith in ap (λ (k : ℕ). run (tile_step ws segs w cols) (Numbers.from t k) pixels) n

    -- the first tile, and then the rest
    first : t < to → tiles_of ws segs w cols t to pixels ≡ on_step (tile_step ws segs w cols t pixels) pixels (tiles_of ws segs w cols (t + 1) to)
    unfolding tiles_of
    first h =
        let n : to - t ≡ suc (to - (t + 1)) = omega arith in
        ap (λ (k : ℕ). run (tile_step ws segs w cols) (Numbers.from t k) pixels) n
        ∙ ap (λ (k : ℕ). on_step (tile_step ws segs w cols t pixels) pixels (run (tile_step ws segs w cols) (Numbers.from k (to - (t + 1))))) (sym (add-one t))

    pub tile_stops : (n : ℕ) → t < to → Against n ≡ ends_at ws segs t → tiles_of ws segs w cols t to pixels ≡ refused pixels (record { number = n; tile = t })
    unfolding tile_step
    tile_stops n h e =
        first h
        ∙ ap (λ (v : Verdict). on_step (on_end v t (tile_pixels ws segs t w (t % cols) (t / cols) pixels)) pixels (tiles_of ws segs w cols (t + 1) to)) (sym e)

    pub tile_goes : t < to → Fine ≡ ends_at ws segs t → tiles_of ws segs w cols t to pixels ≡ tiles_of ws segs w cols (t + 1) to (tile_pixels ws segs t w (t % cols) (t / cols) pixels)
    unfolding tile_step
    tile_goes h e =
        first h
        ∙ ap (λ (v : Verdict). on_step (on_end v t (tile_pixels ws segs t w (t % cols) (t / cols) pixels)) pixels (tiles_of ws segs w cols (t + 1) to)) (sym e)

  -- two ranges one after the other are one: a refusal in the first is kept
  pub two_ranges : (a b c : ℕ) (pixels : List ℕ) → a ≤ b → b ≤ c
      → tiles_of ws segs w cols a c pixels ≡ and_then (tiles_of ws segs w cols a b pixels) (tiles_of ws segs w cols b c)
  unfolding tiles_of
  two_ranges a b c pixels p q =
      let n : c - a ≡ b - a + (c - b) = omega arith in
      let m : a + (b - a) ≡ b = omega arith in
      let f = tile_step ws segs w cols in
      ap (λ (k : ℕ). run f (Numbers.from a k) pixels) n
      ∙ ap (λ (l : List ℕ). run f l pixels) (Numbers.from_add a (b - a) (c - b))
      ∙ run_append f (Numbers.from a (b - a)) (Numbers.from (a + (b - a)) (c - b)) pixels
      ∙ ap (λ (k : ℕ). and_then (run f (Numbers.from a (b - a)) pixels) (run f (Numbers.from k (c - b)))) m
