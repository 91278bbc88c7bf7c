-- `fine::tiles` meets its contract. The invariant: what is left, from tile t with the present pixels, gives what the whole gives. Assumes nothing.
use mathlib.Core.Path.{◌≡◌, refl, sym, ap, subst, ◌∙◌}
use mathlib.Core.List.{List}
use Prim.Native.Nat.{ℕ, ◌+◌, ◌*◌, ◌/◌, ◌%◌, ◌≤◌, ◌<◌}
use lib.ListN.{length}
use lib.Ieee.{Float}
use Rattle.panel.specs.Answer.{Done, Refused}
use Rattle.panel.specs.Verdict.{Verdict, Fine, Against, verdict_told}
use Rattle.sides.specs.Tile.{tile_height}
use Rattle.screen_rows.specs.Rows.{put_tile, packed}
use Rattle.screen_tile.specs.Tile.{ends_at, if_fine, colour_at, tile_pixels}
use Rattle.fine.specs.Fine.{shown, shown_of, tiles_of}
use Rattle.screen_tile.proofs.Room.{no_colour_length}
use Rattle.fine.proofs.Ranges.{some, on_screen_lem, no_tiles, tile_stops, tile_goes}
use native.Mathlib.Omega.{arith}
use Rattle.fine.proofs.tiles.Goals as goal

module _ (ws : List ℕ) (segs : List Float) (w cols from to t : ℕ) (pixels₀ pixels : List ℕ) (inv : tiles_of ws segs w cols t to pixels ≡ tiles_of ws segs w cols from to pixels₀) where
  over : to ≤ t → shown Done pixels ≡ shown_of (tiles_of ws segs w cols from to pixels₀)
  over h = ap shown_of (sym (no_tiles ws segs w cols t to pixels h) ∙ inv)

  module _ (h : t < to) (v : Verdict) (after : List ℕ) (e : v ≡ ends_at ws segs t) (f : after ≡ tile_pixels ws segs t w (t % cols) (t / cols) pixels) where
    stop : (n : ℕ) → v ≡ Against n → shown (Refused n t) after ≡ shown_of (tiles_of ws segs w cols from to pixels₀)
    unfolding tile_pixels
    stop n d =
        let s : Against n ≡ ends_at ws segs t = sym d ∙ e in
        ap (shown (Refused n t)) (f ∙ ap (λ (x : Verdict). if_fine x (put_tile (packed (colour_at ws segs t) w) w (t % cols) (t / cols) pixels) pixels) (sym s))
        ∙ ap shown_of (sym (tile_stops ws segs w cols t to pixels n h s) ∙ inv)

    go : v ≡ Fine → tiles_of ws segs w cols (t + 1) to after ≡ tiles_of ws segs w cols from to pixels₀
    go d = ap (tiles_of ws segs w cols (t + 1) to) f ∙ sym (tile_goes ws segs w cols t to pixels h (sym d ∙ e)) ∙ inv

pub loop-t-init : goal.loop-t-init
loop-t-init c = (refl, refl, ap length c.no_colour-rgba.ensures ∙ no_colour_length)

pub nonzero_rem-tx : goal.nonzero_rem-tx
nonzero_rem-tx c = some c.args.cols c.args.rows c.loop-t.t (omega arith)

pub nonzero_div-ty : goal.nonzero_div-ty
nonzero_div-ty c = some c.args.cols c.args.rows c.loop-t.t (omega arith)

pub tile-requires : goal.tile-requires
tile-requires c =
    let a = c.args in
    let l = c.loop-t in
    let h = on_screen_lem a.width a.cols a.rows l.t _ (omega arith) c.requires.2 c.requires.3
    (subst (λ (n : ℕ). a.width * (tile_height * a.rows) ≤ n) (sym l.invariant.0) c.requires.4) in
    (h.0, h.1, h.2, h.3, h.4, l.invariant.2)

pub shape_of-pixels-in-Err : goal.shape_of-pixels-in-Err
shape_of-pixels-in-Err c = c.tile.auto.pixels ∙ c.loop-t.invariant.0

pub returns-in-Err : goal.returns-in-Err
returns-in-Err c =
    let a = c.args in
    let l = c.loop-t in
    let e = c.tile.ensures in
    rw c.at.ensures
    (stop a.words.now a.segments.now a.width a.cols a.from a.to l.t _ l.pixels l.invariant.1
    (omega arith) _ _ e.0 e.1 _ (ap verdict_told c.in-Err.is))

pub loop-t-preserved : goal.loop-t-preserved
loop-t-preserved c =
    let a = c.args in
    let l = c.loop-t in
    let e = c.tile.ensures in (
      c.tile.auto.pixels ∙ l.invariant.0,
      go a.words.now a.segments.now a.width a.cols a.from a.to l.t _ l.pixels l.invariant.1
          (omega arith) _ _ e.0 e.1 (ap verdict_told c.in_default.is),
      e.2,
    )

pub shape_of-pixels : goal.shape_of-pixels
shape_of-pixels c = c.loop-t.invariant.0

pub returns : goal.returns
returns c =
    let a = c.args in
    over a.words.now a.segments.now a.width a.cols a.from a.to c.loop-t.t _ c.loop-t.pixels c.loop-t.invariant.1 (omega arith)
