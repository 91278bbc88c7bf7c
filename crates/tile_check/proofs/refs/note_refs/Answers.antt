-- `tile_check::refs::note_refs` meets its contract. The invariant: those so far aren't stray, and their keys are noted.
-- Assumes nothing.
use mathlib.Core.Path.{◌≡◌, subst}
use mathlib.Core.List.{List}
use Prim.Native.Nat.{ℕ, ◌+◌, ◌≤◌}
use native.Mathlib.Nat.{le_refl}
use native.Mathlib.Omega.{arith}
use lib.ListN.{length, take}
use Rattle.made.specs.Made.{made_of}
use Rattle.own_count.specs.View.{start_of}
use Rattle.tile_check.specs.Faults.{stray_ref}
use Rattle.tile_check.specs.Keys.{KeyMet, own_end}
use Rattle.tile_check.proofs.RoomLaws.{counts_same, room_kept, noted_kept, noted_more, fine_more, noted_to_lem}
use Rattle.tile_check.proofs.refs.note_refs.Goals as goal
use Rattle.tile_check.proofs.refs.note_refs.Goals.{After-key_at-key, At-loop-j}

-- the room is as long as before
long : (c : At-loop-j) → (own_end c.args.tiles (length c.args.path_nos.now)) + c.args.n + c.args.n ≤ length c.loop-j.work
long c = omega (arith, c.loop-j.invariant.0.same_length, c.requires.1)

-- what the reference's places are, beside the room as it was
met : (c : After-key_at-key) → KeyMet (made_of c.args.path_nos.now c.args.coords.now c.args.paths.now)
    (start_of c.args.path_nos.now c.args.coords.now c.args.paths.now c.args.tiles) (take c.args.tiles c.args.work.now) c.args.refs.now c.loop-j.j c.key_at-key.result
met c =
    subst (λ (ours : List ℕ). KeyMet (made_of c.args.path_nos.now c.args.coords.now c.args.paths.now)
    (start_of c.args.path_nos.now c.args.coords.now c.args.paths.now c.args.tiles) ours c.args.refs.now c.loop-j.j c.key_at-key.result)
    (counts_same c.args.tiles c.args.work.now c.loop-j.work 0 c.loop-j.invariant.0.same_length (λ k h. c.loop-j.invariant.0.kept k
    (omega arith)))
    c.key_at-key.ensures

pub key_at-key-requires : goal.key_at-key-requires
key_at-key-requires c = (
  room_kept c.args.path_nos.now c.args.coords.now c.args.paths.now c.args.tiles c.args.made c.args.work.now c.loop-j.work c.loop-j.invariant.0 c.requires.0,
  omega (arith, c.loop-j.invariant.0.same_length, c.requires.1),
  c.requires.2,
  c.requires.3,
  omega (arith, c.loop-j-test.true, c.requires.4),
)

pub returns-in_default : goal.returns-in_default
returns-in_default c =
    noted_to_lem (made_of c.args.path_nos.now c.args.coords.now c.args.paths.now) (start_of c.args.path_nos.now c.args.coords.now c.args.paths.now c.args.tiles) (take c.args.tiles c.args.work.now) c.args.refs.now c.args.work.now c.loop-j.work (own_end c.args.tiles (length c.args.path_nos.now)) c.args.n c.loop-j.j (omega (arith, c.loop-j-test.true))
    (λ h. subst (KeyMet (made_of c.args.path_nos.now c.args.coords.now c.args.paths.now) (start_of c.args.path_nos.now c.args.coords.now c.args.paths.now c.args.tiles) (take c.args.tiles c.args.work.now)
    c.args.refs.now c.loop-j.j) c.in_default.is (met (goal.at.returns-in_default c).After-key_at-key)) c.loop-j.invariant.2 c.loop-j.invariant.0 c.loop-j.invariant.1

pub loop-j-preserved : goal.loop-j-preserved
loop-j-preserved c =
    let m = subst (KeyMet (made_of c.args.path_nos.now c.args.coords.now c.args.paths.now) (start_of c.args.path_nos.now c.args.coords.now c.args.paths.now c.args.tiles) (take c.args.tiles c.args.work.now) c.args.refs.now c.loop-j.j) c.in-Some.is (met (goal.at.loop-j-preserved c).After-key_at-key)
    in (
      noted_kept (made_of c.args.path_nos.now c.args.coords.now c.args.paths.now) (start_of c.args.path_nos.now c.args.coords.now c.args.paths.now c.args.tiles) (take c.args.tiles c.args.work.now) c.args.refs.now c.args.work.now c.loop-j.work (own_end c.args.tiles
          (length c.args.path_nos.now)) c.args.n c.loop-j.j _ _ c.loop-j-test.true (long (goal.at.loop-j-preserved c).At-loop-j) c.loop-j.invariant.0,
      noted_more (made_of c.args.path_nos.now c.args.coords.now c.args.paths.now) (start_of c.args.path_nos.now c.args.coords.now c.args.paths.now c.args.tiles) (take c.args.tiles c.args.work.now) c.args.refs.now c.args.work.now c.loop-j.work (own_end c.args.tiles
          (length c.args.path_nos.now)) c.args.n c.loop-j.j _ _ c.loop-j-test.true (long (goal.at.loop-j-preserved c).At-loop-j) c.loop-j.invariant.1 m.1 m.2,
      fine_more (stray_ref (made_of c.args.path_nos.now c.args.coords.now c.args.paths.now) (take c.args.tiles
          c.args.work.now) c.args.refs.now) c.loop-j.j c.loop-j.invariant.2 m.0,
    )

pub returns : goal.returns
returns c =
    let a = c.args in
    let l = c.loop-j in
    let all : l.j ≡ a.n = omega arith in
    noted_to_lem (made_of a.path_nos.now a.coords.now a.paths.now) (start_of a.path_nos.now a.coords.now a.paths.now a.tiles) (take a.tiles a.work.now) a.refs.now
    a.work.now l.work (own_end a.tiles (length a.path_nos.now)) a.n a.n (le_refl _) (λ h. absurd (omega arith)) (rw all at l.invariant.2) l.invariant.0
    (rw all at l.invariant.1)
