-- `tile_check::tables::look_past` meets its contract: table by table, in order.
-- Assumes nothing.
use mathlib.Core.Path.{ap, ◌∙◌}
use Prim.Native.Nat.{ℕ}
use native.Mathlib.Omega.{arith}
use lib.ListN.{length}
use Rattle.entries.specs.Entries.{first_slot_fault}
use Rattle.own_count.specs.View.{view_of}
use Rattle.own_count.proofs.LineLaws.{view_made}
use Rattle.tile_check.proofs.CallLaws.{counts_in, backs_in, rest_count, rest_back, rest_slots, rest_missing, rest_yes}
use Rattle.tile_check.proofs.tables.look_past.Goals as goal

pub returns-then-c-tiles : goal.returns-then-c-tiles
returns-then-c-tiles c = rest_count (view_of (length c.args.counts.now) c.args.work.now
    c.args.made) c.args.lent c.args.counts.now c.args.backs.now c.args.stored.now c.args.room c.first_count-c.result (c.first_count-c.ensures ∙ counts_in c.args.counts.now c.args.work.now c.args.made) c.if-c-tiles.true

pub returns-then-b-tiles : goal.returns-then-b-tiles
returns-then-b-tiles c = rest_back (view_of (length c.args.counts.now) c.args.work.now c.args.made) c.args.lent c.args.counts.now c.args.backs.now c.args.stored.now c.args.room c.first_count-c.result (c.first_count-c.ensures ∙ counts_in c.args.counts.now c.args.work.now c.args.made) c.if-c-tiles.false c.first_back-b.result (c.first_back-b.ensures ∙ backs_in c.args.backs.now
    c.args.work.now (length c.args.counts.now) c.args.made c.requires.0) (omega (arith, c.if-b-tiles.true, c.requires.0))

pub returns-then-s-tiles : goal.returns-then-s-tiles
returns-then-s-tiles c = rest_slots (view_of (length c.args.counts.now) c.args.work.now c.args.made) c.args.lent c.args.counts.now c.args.backs.now c.args.stored.now c.args.room c.first_count-c.result (c.first_count-c.ensures ∙ counts_in c.args.counts.now c.args.work.now c.args.made) c.if-c-tiles.false c.first_back-b.result (c.first_back-b.ensures ∙ backs_in c.args.backs.now c.args.work.now (length c.args.counts.now) c.args.made c.requires.0) (omega (
  arith,
  c.if-b-tiles.false,
  c.requires.0,
)) c.first_slots-met.result.first (c.first_slots-met.ensures.0 ∙ ap (λ (k : ℕ). first_slot_fault k c.args.counts.now c.args.stored.now) c.slots_in.ensures) c.if-s-tiles.true

pub returns-then-lent-made : goal.returns-then-lent-made
returns-then-lent-made c = rest_missing (view_of (length c.args.counts.now) c.args.work.now c.args.made) c.args.lent c.args.counts.now c.args.backs.now c.args.stored.now c.args.room c.first_count-c.result (c.first_count-c.ensures ∙ counts_in c.args.counts.now c.args.work.now c.args.made) c.if-c-tiles.false c.first_back-b.result (c.first_back-b.ensures ∙ backs_in c.args.backs.now c.args.work.now (length c.args.counts.now) c.args.made c.requires.0) (omega (
  arith,
  c.if-b-tiles.false,
  c.requires.0,
)) c.first_slots-met.result.first (c.first_slots-met.ensures.0 ∙ ap (λ (k : ℕ). first_slot_fault k c.args.counts.now c.args.stored.now) c.slots_in.ensures) c.if-s-tiles.false (omega (
  arith,
  c.if-lent-made.true,
  view_made (length c.args.counts.now) c.args.work.now c.args.made,
))

pub returns : goal.returns
returns c = rest_yes (view_of (length c.args.counts.now) c.args.work.now c.args.made) c.args.lent c.args.counts.now c.args.backs.now c.args.stored.now c.args.room c.first_count-c.result (c.first_count-c.ensures ∙ counts_in c.args.counts.now c.args.work.now c.args.made) c.if-c-tiles.false c.first_back-b.result (c.first_back-b.ensures ∙ backs_in c.args.backs.now c.args.work.now (length c.args.counts.now) c.args.made c.requires.0) (omega (
  arith,
  c.if-b-tiles.false,
  c.requires.0,
)) c.first_slots-met.result.first (c.first_slots-met.ensures.0 ∙ ap (λ (k : ℕ). first_slot_fault k c.args.counts.now c.args.stored.now) c.slots_in.ensures) c.if-s-tiles.false (omega (
  arith,
  c.if-lent-made.false,
  view_made (length c.args.counts.now) c.args.work.now c.args.made,
))
