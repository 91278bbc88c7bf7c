-- `screen_tile::tile` meets its contract. Assumes nothing.
use mathlib.Core.List.{[]}
use mathlib.Core.Path.{◌≡◌, refl, sym, ap, ◌∙◌}
use mathlib.Core.Bool.{Bool, cond}
use mathlib.Core.List.{List}
use Prim.Native.Nat.{ℕ, ◌+◌, ◌*◌, ◌/◌, ◌%◌, ◌<◌}
use native.Mathlib.Omega.{arith}
use lib.Ieee.{Float}
use Rattle.util.specs.Constants.{zero}
use Rattle.lists.specs.Grid.{tabulate}
use Rattle.lists.specs.GridLaws.{mapi_replicate, get_d_tabulate}
use Rattle.std.specs.Prelude.{Result, Ok, Err, IsErrAnd, Option, ⊤}
use Rattle.panel.specs.Refusals.{no_of}
use Rattle.panel.specs.declared.refusals.Refusal.{Refusal}
use Rattle.panel.specs.Verdict.{Verdict, Fine, Against, verdict_told}
use Rattle.sides.specs.Tile.{tile_width, tile_height, tile_size}
use Rattle.colours.specs.Colour.{composite_of, pack_of}
use Rattle.colours.specs.Layer.{meant}
use Rattle.commands.specs.Numbers.{start_of}
use Rattle.commands.specs.Pixel.{point, point_of, Ran, ran, run_of}
use Rattle.commands.specs.Alike.{same_colour}
use Rattle.run_list.specs.Stopped.{stopped}
use Rattle.run_list.specs.Stop.{Stop, stop_told}
use Rattle.commands.proofs.Acts.{mapi_cong}
use Rattle.commands.proofs.Signs.{all_alike}
use Rattle.screen_rows.specs.Rows.{in_tile, place_of, put_tile, packed, from_list}
use Rattle.screen_tile.specs.Tile.{clear, no_colour, tile_trace, ends_at, colour_at, if_fine, tile_pixels}
use Rattle.screen_tile.proofs.Openings.{goes_on, one_colour, put_one}
use borrow.Author.Rules.{rules}
use Rattle.screen_tile.proofs.tile.Goals as goal

module _ (ws : List ℕ) (segs : List Float) (t w tx ty : ℕ) (pixels : List ℕ) (v : Verdict) (p b : List (List Float)) (q : b ≡ no_colour) (e : ran v p ≡ run_of ws segs (start_of t) b) where
  outcome : ran v p ≡ ran (ends_at ws segs t) (tabulate tile_size (colour_at ws segs t))
  unfolding run_of tile_trace colour_at no_colour
  outcome =
      e ∙ ap (run_of ws segs (start_of t)) q
      ∙ ap (ran (ends_at ws segs t)) (mapi_replicate tile_size (λ k colour. (point_of segs k (tile_trace ws segs t) (point zero colour)).colour) clear)

  ended : v ≡ ends_at ws segs t
  ended = ap (λ (r : Ran). r.end) outcome

  place_small : (n m : ℕ) → tile_width * (n % tile_height) + m % tile_width < tile_size
  place_small n m = omega arith

  -- the list's colours are the pixels'
  colours : put_tile (from_list p w) w tx ty pixels ≡ put_tile (packed (colour_at ws segs t) w) w tx ty pixels
  unfolding put_tile
  colours =
      ap (λ (l : List (List Float)). put_tile (from_list l w) w tx ty pixels) (ap (λ (r : Ran). r.rgba) outcome)
      ∙ mapi_cong 0 0 (λ k old. cond (in_tile w tx ty k) (from_list (tabulate tile_size (colour_at ws segs t)) w k old) old)
      (λ k old. cond (in_tile w tx ty k) (packed (colour_at ws segs t) w k old) old) pixels
      (λ k old h. ap (λ (c : List Float). cond (in_tile w tx ty k) (pack_of c) old) (get_d_tabulate tile_size (colour_at ws segs t) (place_of w k) [] (place_small (k / w) (k % w))))

  done : (after : List ℕ) → v ≡ Fine → after ≡ put_tile (from_list p w) w tx ty pixels → (Fine ≡ ends_at ws segs t) × (after ≡ tile_pixels ws segs t w tx ty pixels)
  unfolding tile_pixels
  done after d h =
      let s : Fine ≡ ends_at ws segs t = sym d ∙ ended in
      (s, h ∙ colours ∙ ap (λ (x : Verdict). if_fine x (put_tile (packed (colour_at ws segs t) w) w tx ty pixels) pixels) s)

  refused : (k : ℕ) → v ≡ Against k → (Against k ≡ ends_at ws segs t) × (pixels ≡ tile_pixels ws segs t w tx ty pixels)
  unfolding tile_pixels
  refused k d =
      let s : Against k ≡ ends_at ws segs t = sym d ∙ ended in
      (s, ap (λ (x : Verdict). if_fine x (put_tile (packed (colour_at ws segs t) w) w tx ty pixels) pixels) s)

-- where the commands stopped, by the result that an arm knows
at_stop : (v s : Stop) (area : List Float) (rgba : List (List Float)) (r : Ran) → v ≡ s → stopped v area rgba ≡ r → stopped s area rgba ≡ r
at_stop v s area rgba r e h = ap (λ (z : Stop). stopped z area rgba) (sym e) ∙ h

-- a refusal that `?` hands on
handed_on : (r : Result ⊤ Refusal) (why : Refusal) → IsErrAnd r (λ e. e ≡ why) → verdict_told r ≡ Against (no_of why)
handed_on (Ok x) why h = absurd h
handed_on (Err e) why h = ap (λ (e : Refusal). Against (no_of e)) h

recoloured : (area fg fg' : List Float) (rgba : List (List Float)) (w tx ty : ℕ) (pixels after : List ℕ) → fg ≡ fg'
    → after ≡ put_tile (from_list (composite_of area fg rgba) w) w tx ty pixels → after ≡ put_tile (from_list (composite_of area fg' rgba) w) w tx ty pixels
recoloured area fg fg' rgba w tx ty pixels after e h = h ∙ ap (λ (z : List Float). put_tile (from_list (composite_of area z rgba) w) w tx ty pixels) e

pub returns-then-ends_at : goal.returns-then-ends_at
returns-then-ends_at c =
    let a = c.args in
    let o = c.begin-o.result in
    let px = c.begin-o.new.px in
    let e = one_colour a.words.now a.segments.now a.t o.at o.count o.area px c.begin-o.ensures.1
    (sym c.ends_at.ensures ∙ c.if-ends_at.true) in
    let d = done a.words.now a.segments.now a.t a.width a.tx a.ty a.pixels.now Fine (same_colour px) no_colour refl e _ refl
    (c.fill_tile.ensures ∙ put_one a.width a.tx a.ty _ px a.pixels.now c.pack.ensures) in
    (d.0, d.1, c.requires.5)

pub run-requires : goal.run-requires
run-requires c =
    let b = c.begin-o in
    (search rules, search rules, search rules, all_alike b.result.area _ c.same_area-area.ensures b.ensures.2)

pub put_last-requires : goal.put_last-requires
put_last-requires c =
    let p = c.requires in
    let e = c.run.ensures in
    (p.1, p.2, p.3, p.4, e.1, e.0, e.2)

pub returns-in-None : goal.returns-in-None
returns-in-None c =
    let a = c.args in
    let b = c.begin-o in
    let o = b.result in
    let r = c.start_rows in
    let e = goes_on a.words.now a.segments.now a.t o.at o.count o.area b.new.px b.ensures.1 _ _ _ c.same_area-area.ensures
    (ap (λ (f : List Bool). meant f r.new.rgba) c.all_flat-flat.ensures ∙ r.ensures.1)
    (at_stop _ _ _ _ _ (ap stop_told c.in_ok-last.was ∙ ap (λ (o : Option ℕ). stop_told (Ok o)) c.in-None.is) c.run.ensures.3) in
    let d = done a.words.now a.segments.now a.t a.width a.tx a.ty a.pixels.now Fine _ no_colour refl e _ refl c.put_tile.ensures in
    (d.0, d.1, c.run.ensures.1)

pub returns-in-Some : goal.returns-in-Some
returns-in-Some c =
    let a = c.args in
    let b = c.begin-o in
    let o = b.result in
    let r = c.start_rows in
    let e = goes_on a.words.now a.segments.now a.t o.at o.count o.area b.new.px b.ensures.1 _ _ _ c.same_area-area.ensures
    (ap (λ (f : List Bool). meant f r.new.rgba) c.all_flat-flat.ensures ∙ r.ensures.1)
    (at_stop _ _ _ _ _ (ap stop_told c.in_ok-last.was ∙ ap (λ (o : Option ℕ). stop_told (Ok o)) c.in-Some.is) c.run.ensures.3) in
    let d = done a.words.now a.segments.now a.t a.width a.tx a.ty a.pixels.now Fine _ no_colour refl e _ refl
    (recoloured _ _ _ _ a.width a.tx a.ty a.pixels.now _ c.colour.ensures c.put_last.ensures) in
    (d.0, d.1, c.run.ensures.1)

pub returns-in_err-last : goal.returns-in_err-last
returns-in_err-last c =
    let a = c.args in
    let b = c.begin-o in
    let o = b.result in
    let r = c.start_rows in
    let e = goes_on a.words.now a.segments.now a.t o.at o.count o.area b.new.px b.ensures.1 _ _ _ c.same_area-area.ensures
    (ap (λ (f : List Bool). meant f r.new.rgba) c.all_flat-flat.ensures ∙ r.ensures.1)
    (at_stop _ _ _ _ _ (ap stop_told c.in_err-last.was) c.run.ensures.3) in
    let d = refused a.words.now a.segments.now a.t a.width a.tx a.ty a.pixels.now _ _ no_colour refl e _ refl in
    (handed_on _ _ c.from_residual.ensures.1 ∙ d.0, d.1, c.run.ensures.1)
