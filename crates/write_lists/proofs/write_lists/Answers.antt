-- `write_lists::write_lists` meets its contract: by what the checks answer, and then by the lists written. Assumes nothing.
use mathlib.Core.Path.{◌≡◌, refl, sym, ◌∙◌}
use mathlib.Core.Bool.{true}
use Prim.Native.Nat.{◌*◌}
use native.Mathlib.Omega.{arith}
use borrow.Author.Rules.{rules}
use lib.ListN.{length}
use Rattle.std.specs.Prelude.{Err}
use Rattle.lists.specs.Sums.{from}
use Rattle.panel.specs.Answer.{Done, answer_told}
use Rattle.panel.proofs.LimitLaws.{small}
use Rattle.pairs.specs.Pairs.{tables}
use Rattle.write_lists.specs.Lists.{call_answer, answer_of, write_lists_of}
use Rattle.write_lists.specs.Ready.{tiles_answer}
use Rattle.write_lists.proofs.TileLaws.{call_ready, has_columns, tiles_ready, tiles_no, call_done}
use Rattle.write_lists.proofs.RegionLaws.{regions_named}
use Rattle.write_lists.proofs.write_lists.Goals as goal

pub returns-in_err-check_call : goal.returns-in_err-check_call
unfolding write_lists_of answer_of
returns-in_err-check_call c = search rules

pub overflow_mul-n : goal.overflow_mul-n
overflow_mul-n c =
    let a = c.args in
    let s = tables a.paths.now a.paints.now a.backdrops.now a.stored.now a.tally.now in
    let done : call_answer s a.cols a.rows ≡ Done = sym c.in_ok-check_call.ensures in
    let z = call_ready s a.cols a.rows done in
    record { fits = omega (arith, z.1, small.tiles) }

pub check_tiles-requires : goal.check_tiles-requires
check_tiles-requires c =
    let a = c.args in
    let s = tables a.paths.now a.paints.now a.backdrops.now a.stored.now a.tally.now in
    let done : call_answer s a.cols a.rows ≡ Done = sym c.in_ok-check_call.ensures in
    let z = call_ready s a.cols a.rows done in
    (z.0, z.1, has_columns a.cols a.rows)

pub returns-in_err-check_tiles : goal.returns-in_err-check_tiles
returns-in_err-check_tiles c =
    let a = c.args in
    let s = tables a.paths.now a.paints.now a.backdrops.now a.stored.now a.tally.now in
    let done : call_answer s a.cols a.rows ≡ Done = sym c.in_ok-check_call.ensures in
    let e : answer_told c.from_residual-in_err-check_tiles.result ≡ answer_told (Err c.in_err-check_tiles.field-0.0) = search rules in
    rw e (tiles_no s a.cols a.rows a.room a.words.now _ done refl c.in_err-check_tiles.ensures)

pub lay_tiles-requires : goal.lay_tiles-requires
lay_tiles-requires c =
    let a = c.args in
    let s = tables a.paths.now a.paints.now a.backdrops.now a.stored.now a.tally.now in
    let done : call_answer s a.cols a.rows ≡ Done = sym c.in_ok-check_call.ensures in
    let z = call_ready s a.cols a.rows done in
    let n = a.cols * a.rows in
    let fits : tiles_answer s a.cols a.room n (length a.words.now) 0 true (from 0 n) ≡ Done = sym c.in_ok-check_tiles.ensures in
    let r = tiles_ready s a.cols a.room n (length a.words.now) fits in
    (z.0, z.1, has_columns a.cols a.rows, r.0, regions_named s a.cols a.rows done, r.1)

pub returns : goal.returns
returns c =
    let a = c.args in
    let s = tables a.paths.now a.paints.now a.backdrops.now a.stored.now a.tally.now in
    let done : call_answer s a.cols a.rows ≡ Done = sym c.in_ok-check_call.ensures in
    let n = a.cols * a.rows in
    let fits : tiles_answer s a.cols a.room n (length a.words.now) 0 true (from 0 n) ≡ Done = sym c.in_ok-check_tiles.ensures in
    call_done s a.cols a.rows a.room a.words.now c.lay_tiles.new.words done fits c.lay_tiles.ensures
