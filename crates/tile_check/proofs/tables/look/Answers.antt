-- `tile_check::tables::look` meets its contract.
-- Assumes nothing.
use mathlib.Core.Path.{◌≡◌, ap, ◌∙◌}
use mathlib.Core.List.{List}
use Prim.Native.Nat.{ℕ, ◌/◌, ◌≤◌}
use native.Mathlib.Omega.{arith}
use lib.ListN.{length, take}
use Rattle.panel.specs.Widths.{ref_words}
use Rattle.panel.proofs.PathLaws.{checked}
use Rattle.acts.specs.Acts.{St}
use Rattle.meeting.specs.First.{first_of}
use Rattle.made.specs.Made.{made_of}
use Rattle.tile_check.specs.Faults.{ref_fault}
use Rattle.tile_check.specs.Keys.{looked_at, rest_of}
use Rattle.tile_check.proofs.RoomLaws.{counts_same, view_same, room_made, counted_most}
use Rattle.tile_check.proofs.CallLaws.{looked_most, found_first, none_found, none_past, tables_ref, tables_rest}
use Rattle.tile_check.proofs.tables.look.Goals as goal
use Rattle.tile_check.proofs.tables.look.Goals.{After-first_ref-found}

pub sum_up-requires : goal.sum_up-requires
sum_up-requires c = (
  omega arith,
  omega (arith, c.requires.6),
  omega (
    arith,
    counted_most c.args.path_nos.now c.args.coords.now c.args.paths.now (length c.args.counts.now) c.args.made c.args.work.now c.requires.0,
  ),
)

pub first_ref-found-requires : goal.first_ref-found-requires
first_ref-found-requires c =
    let q = looked_most (length c.args.refs.now / ref_words) c.args.made in
    let e = c.refs_in-n.ensures in
    let l = c.sum_up.ensures.0.same_length in (
      room_made c.args.path_nos.now c.args.coords.now c.args.paths.now (length c.args.counts.now) c.args.made c.args.work.now c.sum_up.new.work c.requires.0 c.requires.1 c.sum_up.ensures.0 c.sum_up.ensures.1,
      omega (arith, q.0, e, l, c.requires.6),
      c.requires.2,
      c.requires.3,
      omega (arith, q.0, e),
      omega (arith, q.1, e),
    )

-- the first reference at fault of those looked at, beside the room as it was
found : (c : After-first_ref-found) → c.first_ref-found.result.first ≡ first_of (ref_fault (made_of c.args.path_nos.now c.args.coords.now c.args.paths.now)
    (take (length c.args.counts.now) c.args.work.now) c.args.refs.now) (looked_at (length c.args.refs.now / ref_words) c.args.made)
found c =
    c.first_ref-found.ensures.0
    ∙ ap (λ (ours : List ℕ). first_of (ref_fault (made_of c.args.path_nos.now c.args.coords.now c.args.paths.now) ours c.args.refs.now) c.refs_in-n.result)
    (counts_same (length c.args.counts.now) c.args.work.now c.sum_up.new.work 0 c.sum_up.ensures.0.same_length (λ k h. c.sum_up.ensures.0.kept k (omega
    arith)))
    ∙ ap (first_of (ref_fault (made_of c.args.path_nos.now c.args.coords.now c.args.paths.now) (take (length c.args.counts.now) c.args.work.now) c.args.refs.now)) c.refs_in-n.ensures

pub overflow_cast-result : goal.overflow_cast-result
overflow_cast-result c = let q = looked_most (length c.args.refs.now / ref_words) c.args.made in omega (arith, q.1, c.refs_in-n.ensures, c.if-f-n.true)

pub returns-then-f-n : goal.returns-then-f-n
returns-then-f-n c =
    let f = found (goal.at.returns-then-f-n c).After-first_ref-found in
    let q = looked_most (length c.args.refs.now / ref_words) c.args.made in
    tables_ref (made_of c.args.path_nos.now c.args.coords.now c.args.paths.now) (length c.args.counts.now) c.args.work.now c.args.made c.args.refs.now
    c.args.counts.now c.args.backs.now c.args.stored.now c.args.room c.first_ref-found.result.first
    (found_first c.args.path_nos.now c.args.coords.now c.args.paths.now (length c.args.counts.now) c.args.made c.args.work.now c.requires.0 c.args.refs.now (length c.args.refs.now / ref_words) c.first_ref-found.result.first f (omega (
      arith,
      c.refs_in-n.ensures,
      c.if-f-n.true,
    )))
    (omega (arith, q.0, c.refs_in-n.ensures, c.if-f-n.true))

pub look_past-requires : goal.look_past-requires
look_past-requires c = (
  c.requires.4,
  c.requires.5,
  (checked c.args.paths.now (length c.args.counts.now) c.requires.2).tiled,
  omega (
    arith,
    c.first_ref-found.ensures.1.same_length,
    c.sum_up.ensures.0.same_length,
    c.requires.6,
  ),
)

pub returns : goal.returns
returns c =
    let f = found (goal.at.returns c).After-first_ref-found in
    let h : looked_at (length c.args.refs.now / ref_words) c.args.made ≤ c.first_ref-found.result.first = omega (
      arith,
      c.refs_in-n.ensures,
      c.if-f-n.false,
    ) in
    c.look_past.ensures
    ∙ ap (λ (s : St). rest_of s (length c.args.refs.now / ref_words) c.args.counts.now c.args.backs.now c.args.stored.now c.args.room)
    (view_same (length c.args.counts.now) c.args.work.now c.first_ref-found.new.work c.args.made (c.first_ref-found.ensures.1.same_length ∙ c.sum_up.ensures.0.same_length)
    (λ k g. c.first_ref-found.ensures.1.kept k (omega arith) ∙ c.sum_up.ensures.0.kept k (omega arith)))
    ∙ tables_rest (made_of c.args.path_nos.now c.args.coords.now c.args.paths.now) (length c.args.counts.now) c.args.work.now c.args.made c.args.refs.now
    c.args.counts.now c.args.backs.now c.args.stored.now c.args.room c.first_ref-found.result.first
    (none_found c.args.path_nos.now c.args.coords.now c.args.paths.now (length c.args.counts.now) c.args.made c.args.work.now c.requires.0 c.args.refs.now
    (length c.args.refs.now / ref_words) c.first_ref-found.result.first f h) (none_past c.args.path_nos.now c.args.coords.now c.args.paths.now (length c.args.counts.now) c.args.made c.args.work.now c.requires.0 c.args.refs.now (length c.args.refs.now / ref_words) c.first_ref-found.result.first f h)
