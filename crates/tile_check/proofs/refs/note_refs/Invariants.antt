use mathlib.Core.Path.{◌≡◌}
use mathlib.Core.Bool.{false}
use Prim.Native.Nat.{ℕ, ◌+◌, ◌<◌}
use lib.ListN.{length, take}
use Rattle.meeting.specs.Found.{KeptBelow}
use Rattle.made.specs.Made.{made_of}
use Rattle.own_count.specs.View.{start_of}
use Rattle.tile_check.specs.Faults.{stray_ref}
use Rattle.tile_check.specs.Keys.{KeysNoted, own_end}
use Rattle.tile_check.proofs.refs.note_refs.Given as goal

abbrev pub invariant-loop-j : goal.invariant-loop-j
invariant-loop-j l =
    KeptBelow (own_end l.tiles (length l.path_nos)) l.initial.work l.work
    × KeysNoted (made_of l.path_nos l.coords l.paths) (start_of l.path_nos l.coords l.paths l.tiles) (take l.tiles l.initial.work) l.refs l.work (own_end l.tiles (length l.path_nos)) (own_end l.tiles (length l.path_nos) + l.n) l.j
    × ((i : ℕ) → i < l.j → stray_ref (made_of l.path_nos l.coords l.paths) (take l.tiles l.initial.work) l.refs i ≡ false)
