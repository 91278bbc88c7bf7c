-- `path_tiling::tile_next` meets its contract, each way by its law. Assumes nothing.
use native.Mathlib.Omega.{arith}
use Rattle.panel.specs.Pieces.{pieces}
use Rattle.looks.specs.Look.{lent}
use Rattle.short_lines.proofs.ShortLaws.{took_tried}
use Rattle.path_tiling.proofs.NextLaws.{took_next, ran_next}
use Rattle.path_tiling.proofs.tile_next.Goals as goal

pub returns-then-put_tried : goal.returns-then-put_tried
returns-then-put_tried c =
    let a = c.args in
    let w = c.put_tried in
    let p' = pieces w.new.segments w.new.tags in
    took_next a.to (lent a.path_nos.now a.coords.now a.paths.now a.stored.now a.refs.now) a.slots
    (pieces a.segments.now a.tags.now) a.from _ _ w.result p' c.requires.some c.named_at.ensures
    (took_tried a.path_nos.now a.coords.now a.paths.now a.stored.now _ a.slots _ c.try_short-short.result
    (pieces a.segments.now a.tags.now) w.result p' c.try_short-short.ensures w.ensures)
    c.packed_at-packed.ensures c.if-put_tried.true

pub tile_line-requires : goal.tile_line-requires
tile_line-requires c =
    let p = c.requires in
    record {
      some = p.some;
      there = p.there;
      lines = p.lines;
      paths = p.paths;
      room = omega (arith, p.room, c.segments-1.given);
      tagged = omega (arith, p.tagged, c.tags-1.given);
    }

pub returns : goal.returns
returns c =
    let a = c.args in
    let w = c.put_tried in
    let p' = pieces w.new.segments w.new.tags in
    ran_next a.to (lent a.path_nos.now a.coords.now a.paths.now a.stored.now a.refs.now) a.slots
    (pieces a.segments.now a.tags.now) a.from _ _ w.result p' c.requires.some c.named_at.ensures
    (took_tried a.path_nos.now a.coords.now a.paths.now a.stored.now _ a.slots _ c.try_short-short.result
    (pieces a.segments.now a.tags.now) w.result p' c.try_short-short.ensures w.ensures)
    c.if-put_tried.false _ c.tile_line.ensures
