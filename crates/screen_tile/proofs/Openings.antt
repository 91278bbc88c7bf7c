-- A tile whose first commands ran on one pixel for all: what is left comes to the same as the whole, and where END comes next, one word is every pixel.
-- Assumes nothing.
use mathlib.Core.Path.{◌≡◌, sym, ap, ◌∙◌}
use mathlib.Core.Bool.{true, cond}
use mathlib.Core.List.{List, []}
use Prim.Native.Nat.{ℕ, ◌+◌, ◌-◌, ◌*◌, ◌/◌, ◌%◌, ◌<◌}
use native.Mathlib.Omega.{arith}
use lib.ListN.{length, get_or-replicate, length-replicate}
use lib.Ieee.{Float}
use Rattle.util.specs.Constants.{zero}
use Rattle.panel.specs.Limits.{most_commands}
use Rattle.panel.specs.Verdict.{Fine}
use Rattle.sides.specs.Tile.{tile_width, tile_height, tile_size}
use Rattle.colours.specs.Colour.{pack_of}
use Rattle.commands.specs.Numbers.{start_of}
use Rattle.commands.specs.Moves.{Trace, trace_of}
use Rattle.commands.specs.Pixel.{Ran, ran, run_of}
use Rattle.commands.specs.Alike.{same_area, same_colour, run_from, left, ends_here}
use Rattle.commands.proofs.Acts.{mapi_cong}
use Rattle.commands.proofs.Traced.{left_starts}
use Rattle.commands.proofs.AlikeLaws.{run_is, run_ends, end_here}
use Rattle.screen_rows.specs.Rows.{in_tile, place_of, put_tile, from_list, one_word}
use Rattle.screen_tile.specs.Tile.{clear, no_colour}

module _ (ws : List ℕ) (segs : List Float) (t at count : ℕ) (area : Float) (px : List Float)
    (i : run_from segs (trace_of most_commands ws segs (start_of t)) zero (same_colour clear) ≡ run_from segs (trace_of (most_commands - count) ws segs at) area (same_colour px)) where
  whole : run_from segs (trace_of (most_commands - count) ws segs at) area (same_colour px) ≡ run_of ws segs (start_of t) no_colour
  unfolding no_colour same_colour
  whole = sym i ∙ run_is ws segs (start_of t) no_colour

  pub goes_on : (r : Ran) (areas : List Float) (b : List (List Float)) → areas ≡ same_area area → b ≡ same_colour px → r ≡ left segs (trace_of (most_commands - count) ws segs at) areas b
      → r ≡ run_of ws segs (start_of t) no_colour
  unfolding same_colour
  goes_on r areas b p q e =
      let t = trace_of (most_commands - count) ws segs at in
      e ∙ ap (λ (l : List Float). left segs t l b) p ∙ left_starts segs t area b (ap length q ∙ length-replicate tile_size px) ∙ ap (run_from segs t area) q ∙ whole

  pub one_colour : ends_here ws at ≡ true → ran Fine (same_colour px) ≡ run_of ws segs (start_of t) no_colour
  one_colour h =
      sym (run_ends segs Fine area (same_colour px)) ∙ ap (λ (x : Trace). run_from segs x area (same_colour px)) (sym (end_here ws segs at (most_commands - count) h)) ∙ whole

place_small : (n m : ℕ) → tile_width * (n % tile_height) + m % tile_width < tile_size
place_small n m = omega arith

pub put_one : (w tx ty word : ℕ) (px : List Float) (pixels : List ℕ) → word ≡ pack_of px → put_tile (one_word word) w tx ty pixels ≡ put_tile (from_list (same_colour px) w) w tx ty pixels
unfolding put_tile same_colour
put_one w tx ty word px pixels e =
    mapi_cong 0 0 (λ k old. cond (in_tile w tx ty k) word old) (λ k old. cond (in_tile w tx ty k) (from_list (same_colour px) w k old) old) pixels
    (λ k old h. ap (λ (n : ℕ). cond (in_tile w tx ty k) n old) (e ∙ ap pack_of (sym (get_or-replicate tile_size (place_of w k) px [] (place_small (k / w) (k % w))))))
