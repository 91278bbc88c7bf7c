-- A reference's places, read in the working room.
-- Assumes nothing.
use mathlib.Core.Path.{◌≡◌, sym, ap, ◌∙◌}
use mathlib.Core.List.{List}
use Prim.Native.Nat.{ℕ, ◌+◌, ◌<◌}
use native.Mathlib.Omega.{arith}
use lib.Dec.{leb}
use lib.ListN.{length, get_or, take}
use lib.Seq.{get_or-take}
use lib.Ieee.{Float}
use borrow.Author.Tests.{lt-leb}
use Rattle.lists.specs.Sums.{first_within}
use Rattle.panel.specs.Refs.{line_at}
use Rattle.made.specs.Made.{made_of}
use Rattle.made.specs.MadeAt.{Made}
use Rattle.made.specs.MadeAt.{At}
use Rattle.own_count.specs.View.{view_of, start_of}
use Rattle.own_count.proofs.LineLaws.{view_made}
use Rattle.tile_check.specs.Faults.{step_at, slice_at, made_ref, stray, stray_ref}
use Rattle.tile_check.specs.Keys.{KeyMet, sums_at, RoomHas}
use Rattle.tile_check.specs.Key.{Places}
use Rattle.tile_check.proofs.StartLaws.{made_told}
use Rattle.tile_check.proofs.RefLaws.{key_below}
use Rattle.tile_check.proofs.RoomLaws.{counted_most}

module _ (nos : List ℕ) (coords : List Float) (paths : List ℕ) (tiles m : ℕ) (ws refs : List ℕ) (j : ℕ) (found : Made)
    (is : found ≡ made_ref (made_of nos coords paths) refs j) where
  module _ (n t : ℕ) (e : found ≡ At n t) where
    at : made_of nos coords paths (line_at refs j) (step_at refs j) ≡ At n t
    at = sym is ∙ e

    stray_is : stray_ref (made_of nos coords paths) (take tiles ws) refs j ≡ leb (get_or (take tiles ws) t 0) (slice_at refs j)
    stray_is = ap (λ (r : Made). stray (take tiles ws) r (slice_at refs j)) at

    module _ (h : t < tiles) (slice : ℕ) (se : slice ≡ slice_at refs j) where
      read : stray_ref (made_of nos coords paths) (take tiles ws) refs j ≡ leb (get_or ws t 0) slice
      read = stray_is ∙ ap (λ (k : ℕ). leb k (slice_at refs j)) (get_or-take tiles ws t 0 h) ∙ ap (leb (get_or ws t 0)) (sym se)

      module _ (room : RoomHas nos coords paths tiles m ws) (g : slice < get_or ws t 0) (line : ℕ) (le : line ≡ line_at refs j) where
        pub line_there : line < length nos
        line_there = omega (arith, (made_told nos coords paths (line_at refs j) (step_at refs j) n t at).line_in)

        start_is : get_or ws (tiles + tiles + line) 0 ≡ start_of nos coords paths tiles (line_at refs j)
        start_is = room.starts line line_there ∙ ap (start_of nos coords paths tiles) le

        pub step_small : get_or ws (tiles + tiles + line) 0 + n < m
        step_small = omega (arith, start_is, key_below nos coords paths tiles (view_of tiles ws m) room.own (line_at refs j) (step_at refs j) n t at, view_made tiles ws m)

        pub slice_small : get_or ws (sums_at tiles (length nos) + t) 0 + slice < m
        slice_small =
            omega (arith, room.sums t h, first_within (take tiles ws) t, get_or-take tiles ws t 0 h, counted_most nos coords paths tiles m ws room.own)

        pub place_met : KeyMet (made_of nos coords paths) (start_of nos coords paths tiles) (take tiles ws) refs j
            (Places (get_or ws (tiles + tiles + line) 0 + n) (get_or ws (sums_at tiles (length nos) + t) 0 + slice))
        place_met = (
          read ∙ lt-leb (get_or ws t 0) slice g,
          rw (at, start_is),
          rw (at, room.sums t h, se),
        )
