-- `write_lists::check_tiles` meets its contract. The loop's invariant: the tiles left, checked from here, come to the same answer as all of them, and
-- the lists of paths are right for the tile before. Assumes nothing.
use mathlib.Core.Path.{◌≡◌, sym, ap, ◌∙◌}
use mathlib.Core.Bool.{Bool, true, false, ◌&&◌}
use mathlib.Core.List.{List}
use Prim.Native.Nat.{ℕ, ◌+◌, ◌-◌, ◌/◌, ◌%◌}
use native.Mathlib.Nat.{mod-le}
use native.Mathlib.Omega.{arith}
use borrow.Author.Rules.{rules}
use borrow.Author.Tests.{le-leb, lt-leb}
use lib.Dec.{leb}
use Rattle.lists.specs.Sums.{from}
use Rattle.panel.specs.Limits.{most_commands}
use Rattle.panel.specs.Refusals.{no_of}
use Rattle.panel.specs.Checks.{first_no, unless}
use Rattle.panel.specs.Answer.{Done, Refused, answer_told}
use Rattle.panel.proofs.LimitLaws.{small}
use Rattle.panel.proofs.CheckLaws.{unless_no, unless_fine}
use Rattle.pairs.specs.Pairs.{tile_pairs}
use Rattle.pairs.specs.Lent.{tables_of}
use Rattle.lay_pairs.specs.Layout.{commands_of}
use Rattle.lay_pairs.specs.Slots.{all_fit}
use Rattle.write_lists.specs.Lists.{room_checks}
use Rattle.write_lists.specs.Ready.{tiles_answer}
use Rattle.near.specs.Near.{Listed}
use Rattle.near.proofs.NearLaws.{from_turn, from_end, from_all, lists_few, listed_next, listed_first}
use Rattle.write_lists.proofs.NearLaws.{ready_boxed, listed_near}
use Rattle.write_lists.proofs.TileLaws.{weighed, answer_long, answer_turn, answer_end}
use Rattle.write_lists.proofs.check_tiles.Goals.{After-loop-t}
use Rattle.write_lists.proofs.check_tiles.Goals as goal

pub loop-t-init : goal.loop-t-init
loop-t-init c =
    let a = c.args in
    (omega arith, ap (tiles_answer (tables_of a.lent.now) a.cols a.room a.n a.words 0 true) (from_all a.n), listed_first a.lent.now.paths.now a.cols a.lists.now)

pub look-requires : goal.look-requires
look-requires c =
    let a = c.args in
    let l = c.loop-t in
    (ready_boxed (tables_of a.lent.now) c.requires.0, omega (arith, mod-le l.t a.cols), l.invariant.2)

pub near-requires : goal.near-requires
near-requires c = c.look.ensures.narrow.few

pub weigh-w-requires : goal.weigh-w-requires
weigh-w-requires c =
    let a = c.args in
    let l = c.loop-t in
    let s = tables_of a.lent.now in
    let h : Listed s.paths (l.t % a.cols) (l.t / a.cols) c.look.new.self = c.look.ensures in
    rw c.near.ensures (c.requires.0, c.requires.2 (omega arith), lists_few c.look.new.self.narrow _ h.narrow, listed_near s a.cols l.t c.look.new.self h)

pub returns-then-commands : goal.returns-then-commands
returns-then-commands c =
    let a = c.args in
    let s = tables_of a.lent.now in
    let l = c.loop-t in
    let ps = tile_pairs s a.cols l.t in
    let z = weighed a.room ps c.weigh-w.result c.weigh-w.ensures in
    let long : leb (commands_of ps) most_commands ≡ false = lt-leb (commands_of ps) most_commands (omega (arith, z.pairs, z.jumps, c.if-commands.true)) in
    rw c.at.ensures
    (sym (answer_long s a.cols a.room a.n a.words l.fresh l.slots l.t (from (l.t + 1) (a.n - (l.t + 1))) long)
    ∙ ap (tiles_answer s a.cols a.room a.n a.words l.fresh l.slots) (sym (from_turn l.t a.n (omega arith))) ∙ l.invariant.1)

pub overflow_add-fresh : goal.overflow_add-fresh
overflow_add-fresh c = record { fits = omega (arith, c.loop-t.invariant.0, c.requires.1, small.tiles) }

pub loop-t-preserved : goal.loop-t-preserved
loop-t-preserved c =
    let a = c.args in
    let s = tables_of a.lent.now in
    let l = c.loop-t in
    let ps = tile_pairs s a.cols l.t in
    let w = c.weigh-w.result in
    let z = weighed a.room ps w c.weigh-w.ensures in
    let short : leb (commands_of ps) most_commands ≡ true = le-leb (commands_of ps) most_commands (omega (arith, z.pairs, z.jumps, c.if-commands.false)) in
    let both : l.slots && w.slots ≡ l.slots && all_fit a.room ps = ap (λ (b : Bool). l.slots && b) z.slots in (
      omega (arith, l.invariant.0),
      answer_turn s a.cols a.room a.n a.words l.fresh l.slots l.t (from (l.t + 1) (a.n - (l.t + 1))) (l.fresh + w.jumps)
          (l.slots && w.slots) short (ap (λ (k : ℕ). l.fresh + k) z.jumps) both
          ∙ ap (tiles_answer s a.cols a.room a.n a.words l.fresh l.slots) (sym (from_turn l.t a.n (omega arith))) ∙ l.invariant.1,
      listed_next s.paths a.cols l.t c.look.new.self (c.requires.2 (omega arith)) c.look.ensures,
    )

pub check_room-requires : goal.check_room-requires
check_room-requires c = omega (arith, c.loop-t.invariant.0, c.requires.1, small.tiles)

-- after the loop no tile is left
none_left : (c : After-loop-t) → unless (first_no (room_checks (c.args.n + c.loop-t.fresh) c.args.words c.loop-t.slots)) 0 Done
    ≡ tiles_answer (tables_of c.args.lent.now) c.args.cols c.args.room c.args.n c.args.words 0 true (from 0 c.args.n)
none_left c =
    let a = c.args in
    let s = tables_of a.lent.now in
    let l = c.loop-t in
    sym (answer_end s a.cols a.room a.n a.words l.fresh l.slots)
    ∙ ap (tiles_answer s a.cols a.room a.n a.words l.fresh l.slots) (sym (from_end l.t a.n (omega arith))) ∙ l.invariant.1

pub returns-in_err-check_room : goal.returns-in_err-check_room
returns-in_err-check_room c =
    let no = c.in_err-check_room.field-0.0 in
    let e : answer_told c.from_residual.result ≡ Refused (no_of no) 0 = search rules in
    e ∙ sym (unless_no _ _ 0 _ (sym c.in_err-check_room.ensures)) ∙ none_left (goal.at.returns-in_err-check_room c).After-loop-t

pub returns : goal.returns
returns c = sym (unless_fine _ 0 _ (sym c.in_ok-check_room.ensures)) ∙ none_left (goal.at.returns c).After-loop-t
