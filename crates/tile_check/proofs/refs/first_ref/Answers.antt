-- `tile_check::refs::first_ref` meets its contract: the first stray one, then the first meeting by line and step, then by tile and slice, each among those before.
-- Assumes nothing.
use mathlib.Core.Path.{◌≡◌, ◌∙◌}
use mathlib.Core.Bool.{false}
use Prim.Native.Nat.{ℕ, ◌+◌, ◌-◌, ◌≤◌, ◌<◌}
use native.Mathlib.Omega.{arith}
use lib.ListN.{length, take}
use Rattle.meeting.specs.Meeting.{starts_at}
use Rattle.meeting.proofs.FirstLaws.{first_missed}
use Rattle.meeting.proofs.Stores.{kept_trans, kept_less}
use Rattle.meeting.proofs.WorkLaws.{search_few}
use Rattle.made.specs.Made.{made_of}
use Rattle.own_count.specs.View.{view_of, start_of}
use Rattle.tile_check.specs.Faults.{stray_ref}
use Rattle.tile_check.specs.Keys.{own_end}
use Rattle.tile_check.proofs.RefLaws.{meet_most, by_slices}
use Rattle.tile_check.proofs.RoomLaws.{noted_most}
use Rattle.tile_check.proofs.WorkLaws.{made_most, step_below, slice_below}
use Rattle.tile_check.proofs.refs.first_ref.Goals as goal

pub meeting-g-requires : goal.meeting-g-requires
meeting-g-requires c =
    let x = c.args in
    let p = c.requires in
    let f = c.note_refs-f in
    let s = f.ensures in
    let m : f.result ≤ x.n =
    noted_most (made_of x.path_nos.now x.coords.now x.paths.now) (start_of x.path_nos.now x.coords.now x.paths.now x.tiles) (take x.tiles x.work.now)
    x.refs.now x.work.now f.new.work (own_end x.tiles (length x.path_nos.now)) x.n f.result s in
    let few = made_most x.path_nos.now x.coords.now x.paths.now x.tiles x.made x.work.now p.0.own in
    (omega (arith, m), omega (arith, s.kept.same_length, p.1), (λ h. omega (arith, s.kept.same_length, p.1, m)), omega (arith, m, few, p.5))

pub meeting-h-requires : goal.meeting-h-requires
meeting-h-requires c =
    let x = c.args in
    let p = c.requires in
    let f = c.note_refs-f in
    let s = f.ensures in
    let m : f.result ≤ x.n =
    noted_most (made_of x.path_nos.now x.coords.now x.paths.now) (start_of x.path_nos.now x.coords.now x.paths.now x.tiles) (take x.tiles x.work.now)
    x.refs.now x.work.now f.new.work (own_end x.tiles (length x.path_nos.now)) x.n f.result s in
    let few = made_most x.path_nos.now x.coords.now x.paths.now x.tiles x.made x.work.now p.0.own in
    let e = c.meeting-g in
    let g : e.result.first ≤ f.result = meet_most _ _ _ _ e.ensures.0 in
    let long = e.ensures.1.same_length in (
      omega (arith, m, g),
      omega (arith, long, s.kept.same_length, p.1),
      (λ h. omega (arith, long, s.kept.same_length, p.1, m, g)),
      omega (arith, m, g, few, p.5),
    )

pub returns : goal.returns
returns c =
    let x = c.args in
    let p = c.requires in
    let f = c.note_refs-f in
    let s = f.ensures in
    let e = c.meeting-g in
    let d = c.meeting-h in
    let ws1 = f.new.work in
    let ws2 = e.new.work in
    let ws3 = d.new.work in
    let a = own_end x.tiles (length x.path_nos.now) in
    let free = a + x.n + x.n in
    let ours = take x.tiles x.work.now in
    let our = made_of x.path_nos.now x.coords.now x.paths.now in
    let m : f.result ≤ x.n =
    noted_most our (start_of x.path_nos.now x.coords.now x.paths.now x.tiles) ours x.refs.now x.work.now ws1 a x.n f.result s in
    let g : e.result.first ≤ f.result = meet_most _ _ _ _ e.ensures.0 in
    let l1 = s.kept.same_length in
    let l2 = e.ensures.1.same_length in
    let fine : (j : ℕ) → j < f.result → stray_ref our ours x.refs.now j ≡ false = λ j h. first_missed (stray_ref our ours x.refs.now) x.n j (omega (arith, s.first_stray)) in
    let low1 : (j : ℕ) → j < f.result → starts_at ws1 a j < x.made =
    λ j h. omega (
      arith,
      s.noted.steps j h,
      step_below x.path_nos.now x.coords.now x.paths.now x.tiles x.made x.work.now p.0.own x.refs.now j (fine j h),
    ) in
    let low2 : (j : ℕ) → j < e.result.first → starts_at ws2 (a + x.n) j < x.made =
    λ j h. omega (
      arith,
      e.ensures.1.kept (a + x.n + j) (omega (arith, m, g)),
      s.noted.slices j (omega (arith, g)),
      slice_below x.path_nos.now x.coords.now x.paths.now x.tiles x.made x.work.now p.0.own x.refs.now j (fine j (omega (arith, g))),
    ) in
    let w1 =
    search_few (starts_at ws1 a) f.result x.n (length ws1 - free) e.result.passes e.result.ranges e.result.words x.made e.ensures.2 e.ensures.4
    e.ensures.3 low1 m (omega (arith, l1, p.1)) in
    let w2 =
    search_few (starts_at ws2 (a + x.n)) e.result.first x.n (length ws2 - free) d.result.passes d.result.ranges d.result.words x.made d.ensures.2
    d.ensures.4 d.ensures.3 low2 (omega (arith, m, g)) (omega (arith, l1, l2, p.1)) in (
      d.ensures.0
          ∙ by_slices x.path_nos.now x.coords.now x.paths.now x.tiles (view_of x.tiles x.work.now x.made) p.0.own ours x.refs.now x.n
          (starts_at ws1 a) (starts_at ws2 (a + x.n)) f.result s.first_stray (λ j h. s.noted.steps j h)
          (λ j h. e.ensures.1.kept (a + x.n + j) (omega (arith, m)) ∙ s.noted.slices j h) e.result.first e.ensures.0,
      kept_trans a x.work.now ws1 ws3 s.kept
          (kept_trans a ws1 ws2 ws3 (kept_less free a ws1 ws2 (omega arith) e.ensures.1) (kept_less free a ws2 ws3 (omega arith) d.ensures.1)),
      w1.0,
      omega (arith, w1.1, l1),
      w2.0,
      omega (arith, w2.1, l1, l2),
    )
