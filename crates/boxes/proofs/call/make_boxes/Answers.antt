-- `boxes::call::make_boxes` meets its contract: by what its checks find, and what the working room tells.
-- Assumes nothing.
use mathlib.Core.Path.{◌≡◌, sym, ap, ◌∙◌}
use mathlib.Core.List.{List, map}
use Prim.Native.Nat.{ℕ, ◌*◌}
use native.Mathlib.Omega.{arith}
use lib.ListN.{length}
use lib.Seq.{sets}
use Rattle.lists.specs.Sums.{sum, from}
use Rattle.ranges.specs.Ranges.{cleared_of}
use Rattle.std.proofs.lemmas.Result.{err_from_is_err_and}
use Rattle.panel.specs.Verdict.{verdict_told}
use Rattle.panel.specs.Answer.{answer_told}
use Rattle.panel.proofs.LimitLaws.{small}
use Rattle.path_reach.specs.Room.{box_words}
use Rattle.path_reach.specs.Words.{gather_from}
use Rattle.box_records.specs.Records.{area_of_word, records_from}
use Rattle.box_records.specs.Told.{box_in}
use Rattle.boxes.proofs.CallLaws.{lent_told, full_of, boxes_lent, boxes_line, boxes_many, boxes_done}
use Rattle.boxes.proofs.call.make_boxes.Goals as goal

pub returns-in_err-check_lent : goal.returns-in_err-check_lent
returns-in_err-check_lent c =
    let s = c.args in
    let r = err_from_is_err_and c.from_residual.result c.from_residual.ensures.1 in
    rw (r.1, r.2)
    (boxes_lent s.path_nos.now s.coords.now s.beams.now s.margin s.paths.now s.work.now _ (sym c.check_lent.ensures ∙ ap verdict_told c.in_err-check_lent.was))

pub overflow_cast-n : goal.overflow_cast-n
overflow_cast-n c =
    let s = c.args in
    let fine = sym c.check_lent.ensures ∙ ap verdict_told c.in_ok-check_lent.was in
    let k = lent_told (length s.path_nos.now) (length s.coords.now) (length s.paths.now) (length s.beams.now) (length s.work.now) fine in
    record { fits = omega (arith, k.few, small.paths) }

pub check_lines-requires : goal.check_lines-requires
check_lines-requires c =
    let s = c.args in
    let fine = sym c.check_lent.ensures ∙ ap verdict_told c.in_ok-check_lent.was in
    let k = lent_told (length s.path_nos.now) (length s.coords.now) (length s.paths.now) (length s.beams.now) (length s.work.now) fine in
    k.lines

pub returns-in_err-check_lines : goal.returns-in_err-check_lines
returns-in_err-check_lines c =
    let s = c.args in
    let fine = sym c.check_lent.ensures ∙ ap verdict_told c.in_ok-check_lent.was in
    let k = lent_told (length s.path_nos.now) (length s.coords.now) (length s.paths.now) (length s.beams.now) (length s.work.now) fine in
    let r = err_from_is_err_and c.from_residual-in_err-check_lines.result c.from_residual-in_err-check_lines.ensures.1 in
    rw (r.1, r.2)
    (boxes_line s.path_nos.now s.coords.now s.beams.now s.margin s.paths.now s.work.now fine _ _ (sym c.check_lines.ensures ∙ ap answer_told c.in_err-check_lines.was))

pub clear-requires : goal.clear-requires
clear-requires c =
    let s = c.args in
    let fine = sym c.check_lent.ensures ∙ ap verdict_told c.in_ok-check_lent.was in
    let k = lent_told (length s.path_nos.now) (length s.coords.now) (length s.paths.now) (length s.beams.now) (length s.work.now) fine in
    omega (arith, k.room)

pub gather-requires : goal.gather-requires
gather-requires c =
    let s = c.args in
    let fine = sym c.check_lent.ensures ∙ ap verdict_told c.in_ok-check_lent.was in
    let k = lent_told (length s.path_nos.now) (length s.coords.now) (length s.paths.now) (length s.beams.now) (length s.work.now) fine in (
      k.lines,
      omega (arith, k.room, c.clear.auto.xs),
      sym c.check_lines.ensures ∙ ap answer_told c.in_ok-check_lines.was,
    )

pub total-tiles-requires : goal.total-tiles-requires
total-tiles-requires c =
    let s = c.args in
    let fine = sym c.check_lent.ensures ∙ ap verdict_told c.in_ok-check_lent.was in
    let k = lent_told (length s.path_nos.now) (length s.coords.now) (length s.paths.now) (length s.beams.now) (length s.work.now) fine in
    (omega (arith, k.room, c.clear.auto.xs, c.gather.auto.work), k.few)

pub clear-requires-then-tiles : goal.clear-requires-then-tiles
clear-requires-then-tiles c =
    let s = c.args in
    let fine = sym c.check_lent.ensures ∙ ap verdict_told c.in_ok-check_lent.was in
    let k = lent_told (length s.path_nos.now) (length s.coords.now) (length s.paths.now) (length s.beams.now) (length s.work.now) fine in
    omega (
      arith,
      k.room,
      c.clear.auto.xs,
      c.gather.auto.work,
    )

pub returns-then-tiles : goal.returns-then-tiles
returns-then-tiles c =
    let s = c.args in
    let fine = sym c.check_lent.ensures ∙ ap verdict_told c.in_ok-check_lent.was in
    let k = lent_told (length s.path_nos.now) (length s.coords.now) (length s.paths.now) (length s.beams.now) (length s.work.now) fine in
    let w : c.gather.new.work ≡ full_of s.path_nos.now s.coords.now (length s.beams.now) s.work.now =
    c.gather.ensures ∙ ap (gather_from s.path_nos.now s.coords.now (length s.path_nos.now) 0)
    c.clear.ensures in
    let t = c.total-tiles.ensures ∙ ap (λ (ws : List ℕ). sum (map (λ k. area_of_word (box_in ws s.margin k 0)) (from 0 (length s.beams.now)))) w in
    rw c.at.ensures (boxes_many s.path_nos.now s.coords.now s.beams.now s.margin s.paths.now s.work.now fine (sym c.check_lines.ensures ∙ ap answer_told c.in_ok-check_lines.was) c.total-tiles.result t c.if-tiles.true _
    (c.clear-then-tiles.ensures ∙ ap (cleared_of 0 0 (length s.beams.now * box_words)) w))

pub put_records-requires : goal.put_records-requires
put_records-requires c =
    let s = c.args in
    let fine = sym c.check_lent.ensures ∙ ap verdict_told c.in_ok-check_lent.was in
    let k = lent_told (length s.path_nos.now) (length s.coords.now) (length s.paths.now) (length s.beams.now) (length s.work.now) fine in
    let long = c.clear.auto.xs in
    let same = c.gather.auto.work in
    let few : sum (map (λ k. area_of_word (box_in c.gather.new.work s.margin k 0)) (from 0 (length s.beams.now))) ≡ c.total-tiles.result = sym c.total-tiles.ensures in
    (omega (arith, k.room, long, same), omega arith, omega (arith, k.paths), omega (arith, few, c.if-tiles.false))

pub clear-requires-2 : goal.clear-requires-2
clear-requires-2 c =
    let s = c.args in
    let fine = sym c.check_lent.ensures ∙ ap verdict_told c.in_ok-check_lent.was in
    let k = lent_told (length s.path_nos.now) (length s.coords.now) (length s.paths.now) (length s.beams.now) (length s.work.now) fine in
    omega (
      arith,
      k.room,
      c.clear.auto.xs,
      c.gather.auto.work,
    )

pub returns : goal.returns
returns c =
    let s = c.args in
    let fine = sym c.check_lent.ensures ∙ ap verdict_told c.in_ok-check_lent.was in
    let k = lent_told (length s.path_nos.now) (length s.coords.now) (length s.paths.now) (length s.beams.now) (length s.work.now) fine in
    let w : c.gather.new.work ≡ full_of s.path_nos.now s.coords.now (length s.beams.now) s.work.now =
    c.gather.ensures ∙ ap (gather_from s.path_nos.now s.coords.now (length s.path_nos.now) 0) c.clear.ensures in
    let t = c.total-tiles.ensures ∙ ap (λ (ws : List ℕ). sum (map (λ k. area_of_word (box_in ws s.margin k
    0)) (from 0 (length s.beams.now)))) w in
    boxes_done s.path_nos.now s.coords.now s.beams.now s.margin s.paths.now s.work.now fine (sym c.check_lines.ensures ∙ ap answer_told c.in_ok-check_lines.was) c.total-tiles.result t c.if-tiles.false _ _
    (c.put_records.ensures ∙ ap (λ (ws : List ℕ). sets s.paths.now 0 (records_from (box_in ws s.margin) s.beams.now
    (length s.beams.now) 0 0)) w)
    (c.clear-2.ensures ∙ ap (cleared_of 0 0 (length s.beams.now * box_words)) w)
