-- The places of references that aren't stray are below the references that our own count makes. Assumes nothing.
use mathlib.Core.Path.{◌≡◌, ap}
use mathlib.Core.Bool.{false}
use mathlib.Core.List.{List}
use Prim.Native.Nat.{ℕ, ◌≤◌, ◌<◌}
use native.Mathlib.Omega.{arith}
use lib.ListN.{length, take}
use lib.Ieee.{Float}
use Rattle.lists.specs.Run.{done}
use Rattle.lists.specs.Sums.{first, first_within}
use Rattle.panel.specs.Limits.{most_slots}
use Rattle.panel.specs.Refs.{line_at}
use Rattle.made.specs.Made.{made_of}
use Rattle.made.specs.MadeAt.{Made}
use Rattle.own_count.specs.Own.{own_ran}
use Rattle.own_count.specs.View.{view_of, start_of}
use Rattle.own_count.proofs.LineLaws.{view_made}
use Rattle.tile_check.specs.Faults.{step_at, slice_at, made_ref, stray_ref}
use Rattle.tile_check.specs.Keys.{before_in, tile_in, step_key, slice_key}
use Rattle.tile_check.proofs.StartLaws.{own_most}
use Rattle.tile_check.proofs.RefLaws.{Ours, not_stray, key_below}
use Rattle.tile_check.proofs.RoomLaws.{counted_most}

module _ (nos : List ℕ) (coords : List Float) (paths : List ℕ) (tiles m : ℕ) (ws : List ℕ) (own : own_ran nos coords paths tiles ≡ done (view_of tiles ws m)) where
  pub made_most : m ≤ most_slots
  made_most = omega (arith, own_most nos coords paths tiles (length nos) (view_of tiles ws m) own, view_made tiles ws m)

  module _ (refs : List ℕ) (j : ℕ) (p : stray_ref (made_of nos coords paths) (take tiles ws) refs j ≡ false) where
    o : Ours (take tiles ws) (made_ref (made_of nos coords paths) refs j) (slice_at refs j)
    o = not_stray (take tiles ws) (made_ref (made_of nos coords paths) refs j) (slice_at refs j) p

    pub step_below : step_key (made_of nos coords paths) (start_of nos coords paths tiles) refs j < m
    step_below =
        omega (
          arith,
          key_below nos coords paths tiles (view_of tiles ws m) own (line_at refs j) (step_at refs j) o.before o.tile o.is_made,
          view_made tiles ws m,
          ap before_in o.is_made,
        )

    pub slice_below : slice_key (made_of nos coords paths) (take tiles ws) refs j < m
    slice_below =
        omega (
          arith,
          o.counted,
          first_within (take tiles ws) o.tile,
          counted_most nos coords paths tiles m ws own,
          ap (λ (r : Made). first (take tiles ws) (tile_in r)) o.is_made,
        )
