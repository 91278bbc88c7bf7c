-- `bands::tiles` meets its contract. The invariant: what is left, from the band's tile k with the present pixels, gives what the whole band gives.
-- Assumes nothing.
use mathlib.Core.Path.{◌≡◌, refl, sym, ap, subst, ◌∙◌}
use mathlib.Core.List.{List}
use Prim.Native.Nat.{ℕ, ◌+◌, ◌*◌, ◌/◌, ◌%◌, ◌≤◌, ◌<◌}
use lib.ListN.{length}
use lib.Ieee.{Float}
use Rattle.panel.specs.Limits.{most_tiles}
use Rattle.panel.specs.Answer.{Done, Refused}
use Rattle.panel.specs.Verdict.{Verdict, Fine, Against, verdict_told}
use Rattle.sides.specs.Tile.{tile_width, tile_height}
use Rattle.screen_rows.specs.Rows.{put_tile, packed}
use Rattle.screen_tile.specs.Tile.{ends_at, if_fine, colour_at, tile_pixels}
use Rattle.fine.specs.Fine.{shown, shown_of}
use Rattle.screen_tile.proofs.Room.{no_colour_length}
use Rattle.fine.proofs.Ranges.{some, on_screen_lem}
use Rattle.bands.specs.Bands.{band_tiles}
use Rattle.bands.proofs.BandLaws.{no_tiles, tile_stops, tile_goes}
use native.Mathlib.Omega.{arith}
use Rattle.bands.proofs.tiles.Goals as goal

-- a tile of the band lies on its rows
on_band : (w c r base k n : ℕ) → k < c * r → base + c * r ≤ most_tiles → tile_width * c ≤ w → w * (tile_height * r) ≤ n
    → (base + k < most_tiles) × (k % c < most_tiles) × (k / c < most_tiles) × (tile_width * (k % c) + tile_width ≤ w) × (w * (tile_height * (k / c) + tile_height) ≤ n)
on_band w c r base k n h m p q = let s = on_screen_lem w c r k n h (omega arith) p q in (omega arith, s.1, s.2, s.3, s.4)

module _ (ws : List ℕ) (segs : List Float) (w cols base to k : ℕ) (pixels₀ pixels : List ℕ) (inv : band_tiles ws segs w cols base k to pixels ≡ band_tiles ws segs w cols base 0 to pixels₀) where
  over : to ≤ k → shown Done pixels ≡ shown_of (band_tiles ws segs w cols base 0 to pixels₀)
  over h = ap shown_of (sym (no_tiles ws segs w cols base k to pixels h) ∙ inv)

  module _ (h : k < to) (v : Verdict) (after : List ℕ) (e : v ≡ ends_at ws segs (base + k)) (f : after ≡ tile_pixels ws segs (base + k) w (k % cols) (k / cols) pixels) where
    stop : (n : ℕ) → v ≡ Against n → shown (Refused n (base + k)) after ≡ shown_of (band_tiles ws segs w cols base 0 to pixels₀)
    unfolding tile_pixels
    stop n d =
        let s : Against n ≡ ends_at ws segs (base + k) = sym d ∙ e in
        ap (shown (Refused n (base + k))) (f ∙ ap (λ (x : Verdict). if_fine x (put_tile (packed (colour_at ws segs (base + k)) w) w (k % cols) (k / cols) pixels) pixels) (sym s))
        ∙ ap shown_of (sym (tile_stops ws segs w cols base k to pixels n h s) ∙ inv)

    go : v ≡ Fine → band_tiles ws segs w cols base (k + 1) to after ≡ band_tiles ws segs w cols base 0 to pixels₀
    go d = ap (band_tiles ws segs w cols base (k + 1) to) f ∙ sym (tile_goes ws segs w cols base k to pixels h (sym d ∙ e)) ∙ inv

pub loop-k-init : goal.loop-k-init
loop-k-init c = (refl, refl, ap length c.no_colour-rgba.ensures ∙ no_colour_length)

pub nonzero_rem-tx : goal.nonzero_rem-tx
nonzero_rem-tx c = some c.args.cols c.args.rows c.loop-k.k (omega arith)

pub nonzero_div-ty : goal.nonzero_div-ty
nonzero_div-ty c = some c.args.cols c.args.rows c.loop-k.k (omega arith)

pub tile-requires : goal.tile-requires
tile-requires c =
    let a = c.args in
    let l = c.loop-k in
    let h = on_band a.width a.cols a.rows a.base l.k _ (omega arith) c.requires.0 c.requires.1
    (subst (λ (n : ℕ). a.width * (tile_height * a.rows) ≤ n) (sym l.invariant.0) c.requires.2) in
    (h.0, h.1, h.2, h.3, h.4, l.invariant.2)

pub shape_of-pixels-in-Err : goal.shape_of-pixels-in-Err
shape_of-pixels-in-Err c = c.tile.auto.pixels ∙ c.loop-k.invariant.0

pub returns-in-Err : goal.returns-in-Err
returns-in-Err c =
    let a = c.args in
    let l = c.loop-k in
    let t = c.tile in
    rw c.at.ensures
    (stop a.words.now a.segments.now a.width a.cols a.base (a.cols * a.rows) l.k _ l.pixels l.invariant.1
    (omega arith) _ _ t.ensures.0 t.ensures.1 _ (ap verdict_told c.in-Err.is))

pub loop-k-preserved : goal.loop-k-preserved
loop-k-preserved c =
    let a = c.args in
    let l = c.loop-k in
    let t = c.tile in (
      t.auto.pixels ∙ l.invariant.0,
      go a.words.now a.segments.now a.width a.cols a.base (a.cols * a.rows) l.k _ l.pixels l.invariant.1
          (omega arith) _ _ t.ensures.0 t.ensures.1 (ap verdict_told c.in_default.is),
      t.ensures.2,
    )

pub shape_of-pixels : goal.shape_of-pixels
shape_of-pixels c = c.loop-k.invariant.0

pub returns : goal.returns
returns c =
    let a = c.args in
    let l = c.loop-k in
    over a.words.now a.segments.now a.width a.cols a.base (a.cols * a.rows) l.k _ l.pixels l.invariant.1 (omega arith)
