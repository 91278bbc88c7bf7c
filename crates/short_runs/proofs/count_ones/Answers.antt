-- `short_runs::count_ones` meets its contract. The invariant: so many lines are counted, and each made one reference.
-- Assumes nothing.
use mathlib.Core.Path.{◌≡◌, sym, subst}
use Prim.Native.Nat.{ℕ, ◌+◌, ◌<◌}
use native.Mathlib.Nat.{add-zero}
use native.Mathlib.Omega.{arith}
use lib.ListN.{length}
use Rattle.panel.specs.Paths.{paths_answer}
use Rattle.panel.specs.Widths.{step_range}
use Rattle.panel.specs.Answer.{Done}
use Rattle.one_tile.specs.One.{Alone, OneMet}
use Rattle.one_tile.specs.TileFound.{One}
use Rattle.short_runs.specs.Ones.{OnesMet}
use Rattle.short_runs.proofs.Ones.{run_one}
use Rattle.short_runs.proofs.count_ones.Goals as goal
use Rattle.short_runs.proofs.count_ones.Goals.{In-Some, In-loop-n}

pub loop-n-init : goal.loop-n-init
loop-n-init c = (omega arith, λ bs. rw (add-zero c.args.made))

-- it is one of the lines asked for
few : (c : In-loop-n) → c.loop-n.n < c.args.many
few c = omega (arith, c.loop-n-test.true)

pub overflow_add-place : goal.overflow_add-place
overflow_add-place c = omega (arith, c.loop-n-test.true, few (goal.at.overflow_add-place c).In-loop-n, c.requires.1)

pub overflow_add-made : goal.overflow_add-made
overflow_add-made c = omega (arith, c.loop-n.invariant.0)

pub one_at-one-requires : goal.one_at-one-requires
one_at-one-requires c =
    let a = c.args in
    let p = c.requires in (
      subst (λ (m : ℕ). paths_answer a.paths.now m ≡ Done) (sym c.loop-n.auto.counts) p.0,
      omega (arith, c.loop-n-test.true, few (goal.at.one_at-one-requires c).In-loop-n, p.2),
      omega (arith, c.loop-n-test.true, few (goal.at.one_at-one-requires c).In-loop-n, p.3),
    )

pub returns-in_default : goal.returns-in_default
returns-in_default c = let i = c.loop-n.invariant in (omega (arith, few (goal.at.returns-in_default c).In-loop-n), i.0, i.1)

-- the line lies within the tile named, which may be counted
alone : (c : In-Some) →
    let a = c.args in
    let s = c.loop-n in
    Alone a.path_nos.now a.coords.now a.paths.now (a.place + s.n) (a.made + s.n) s.counts (length s.refs) c.in-Some.tile
alone c =
    let a = c.args in
    let s = c.loop-n in
    subst (λ (r : One). OneMet a.path_nos.now a.coords.now a.paths.now (a.place + s.n) (a.made + s.n) s.counts (length s.refs) r) c.in-Some.is c.one_at-one.ensures

pub overflow_add-line : goal.overflow_add-line
overflow_add-line c = omega (arith, c.loop-n-test.true, few (goal.at.overflow_add-line c).In-loop-n)

pub overflow_add-made-in-loop-n : goal.overflow_add-made-in-loop-n
overflow_add-made-in-loop-n c = omega (arith, c.loop-n.invariant.0)

pub visit-requires : goal.visit-requires
unfolding step_range
visit-requires c = let a = alone (goal.at.visit-requires c).In-Some in (a.lent, a.room, a.free, omega arith, a.few)

pub loop-n-preserved : goal.loop-n-preserved
loop-n-preserved c =
    let a = c.args in
    let s = c.loop-n in
    let v = c.visit in
    let t = alone (goal.at.loop-n-preserved c).In-Some in (
      omega (arith, t.few),
      λ bs. run_one a.path_nos.now a.coords.now a.paths.now a.line.0 a.place s.n a.made a.counts.now a.refs.now s.counts s.refs _ _ _
          s.auto.refs (omega (arith, c.loop-n-test.true, few (goal.at.loop-n-preserved c).In-loop-n)) t v.ensures.0 v.ensures.1 bs (s.invariant.1 bs),
    )

pub returns : goal.returns
returns c =
    let a = c.args in
    let o = c.loop-n in
    let e : o.n ≡ c.min-most.result = omega arith in
    subst (OnesMet a.path_nos.now a.coords.now a.paths.now a.line.0 a.place a.many a.made a.counts.now a.refs.now o.counts o.refs) e
    (omega arith, o.invariant.0, o.invariant.1)
