-- `write_lists::lay_tiles` meets its contract. The loop's invariant: the lists left, written from here, come to the same as all of them, and the lists
-- of paths are right for the tile before. Assumes nothing.
use mathlib.Core.Path.{subst}
use mathlib.Core.List.{List}
use Prim.Native.Nat.{ℕ, ◌+◌, ◌-◌, ◌/◌, ◌%◌}
use native.Mathlib.Nat.{mod-le}
use native.Mathlib.Omega.{arith}
use Rattle.lists.specs.Sums.{from}
use Rattle.panel.proofs.LimitLaws.{small}
use Rattle.pairs.specs.Lent.{tables_of}
use Rattle.near.specs.Near.{Listed}
use Rattle.near.proofs.NearLaws.{from_turn, from_end, from_all, lists_few, listed_next, listed_first}
use Rattle.write_lists.proofs.NearLaws.{ready_boxed, listed_near}
use Rattle.write_lists.proofs.TileLaws.{Tiled, tiled_start, tiled_turn, tile_room, tile_slots}
use Rattle.write_lists.proofs.lay_tiles.Goals as goal

pub overflow_mul-fresh : goal.overflow_mul-fresh
overflow_mul-fresh c = record { fits = omega (arith, c.requires.1, small.tiles) }

pub loop-t-init : goal.loop-t-init
loop-t-init c =
    let a = c.args in
    let s = tables_of a.lent.now in
    (rw (from_all a.n) (tiled_start s a.cols a.n a.words.now c.requires.5), listed_first s.paths a.cols a.lists.now)

pub look-requires : goal.look-requires
look-requires c =
    let a = c.args in
    let l = c.loop-t in
    (ready_boxed (tables_of a.lent.now) c.requires.0, omega (arith, mod-le l.t a.cols), l.invariant.1)

pub near-requires : goal.near-requires
near-requires c = c.look.ensures.narrow.few

pub lay_tile-fresh-requires : goal.lay_tile-fresh-requires
lay_tile-fresh-requires c =
    let a = c.args in
    let s = tables_of a.lent.now in
    let l = c.loop-t in
    let h : Listed s.paths (l.t % a.cols) (l.t / a.cols) c.look.new.self = c.look.ensures in
    let rest = from (l.t + 1) (a.n - (l.t + 1)) in
    let i = subst (λ (ts : List ℕ). Tiled s a.cols a.n l.fresh ts l.words a.words.now) (from_turn l.t a.n (omega arith)) l.invariant.0 in
    rw c.near.ensures (
      c.requires.0,
      c.requires.2 (omega arith),
      omega arith,
      lists_few c.look.new.self.narrow _ h.narrow,
      listed_near s a.cols l.t c.look.new.self h,
      tile_room s a.cols a.n a.words.now l.t l.fresh rest l.words i (omega arith) c.requires.3 c.requires.4,
      tile_slots s a.cols a.n a.words.now l.t l.fresh rest l.words i,
    )

pub loop-t-preserved : goal.loop-t-preserved
loop-t-preserved c =
    let a = c.args in
    let s = tables_of a.lent.now in
    let l = c.loop-t in
    let rest = from (l.t + 1) (a.n - (l.t + 1)) in
    let i = subst (λ (ts : List ℕ). Tiled s a.cols a.n l.fresh ts l.words a.words.now) (from_turn l.t a.n (omega arith)) l.invariant.0 in (
      tiled_turn s a.cols a.n a.words.now l.t l.fresh rest l.words i c.lay_tile-fresh.result c.lay_tile-fresh.new.words c.lay_tile-fresh.ensures.1 c.lay_tile-fresh.ensures.0,
      listed_next s.paths a.cols l.t c.look.new.self (c.requires.2 (omega arith)) c.look.ensures,
    )

pub returns : goal.returns
returns c =
    let a = c.args in
    let s = tables_of a.lent.now in
    let l = c.loop-t in
    let i = subst (λ (ts : List ℕ). Tiled s a.cols a.n l.fresh ts l.words a.words.now) (from_end l.t a.n (omega arith)) l.invariant.0 in
    i.memory
