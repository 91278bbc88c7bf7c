-- `own_count::lines::own_lines` meets its contract. The invariant: the lines so far leave what the room shows, and their starts are noted.
-- Assumes nothing.
use mathlib.Core.Path.{◌≡◌, sym, ap, ◌∙◌, subst}
use Prim.Native.Nat.{ℕ, ◌+◌, ◌<◌, ◌^◌}
use native.Mathlib.Nat.{not-suc-le-zero}
use native.Mathlib.Omega.{arith}
use lib.ListN.{length, set, length-set}
use Rattle.lists.specs.Run.{taken, done}
use Rattle.panel.specs.Limits.{most_slots}
use Rattle.walked_lines.specs.Line.{line_step}
use Rattle.walked_lines.specs.Tallied.{Tallied, On, tallied_told}
use Rattle.own_count.specs.Own.{own_to}
use Rattle.own_count.specs.View.{view_of, StepAs, StartsNoted}
use Rattle.own_count.proofs.LineLaws.{own_none, own_next, own_stops, own_over, own_here, own_fits, starts_more}
use Rattle.own_count.proofs.lines.own_lines.Goals as goal
use Rattle.own_count.proofs.lines.own_lines.Goals.{After-own_line-t, Else-line-ge-MOST_LINES}

pub overflow_add-starts : goal.overflow_add-starts
overflow_add-starts c = omega (arith, c.requires.2)

pub loop-l-init : goal.loop-l-init
loop-l-init c = (
  omega arith,
  own_none c.args.path_nos.now c.args.coords.now c.args.paths.now c.args.n ∙ ap done (sym c.requires.3),
  (λ k h. absurd
      (not-suc-le-zero h)),
  omega arith,
)

-- the line's place in the room
fits : (c : Else-line-ge-MOST_LINES) → c.args.n + c.args.n + c.loop-l.l < length c.loop-l.work
fits c = omega (arith, c.loop-l.auto.work, c.requires.2, c.loop-l-test.true)

-- the lines before it, once its start is noted
here : (c : After-own_line-t) → c.args.n + c.args.n + c.loop-l.l < length c.loop-l.work → own_to c.args.path_nos.now c.args.coords.now c.args.paths.now c.args.n c.loop-l.l
    ≡ done (view_of c.args.n (set c.loop-l.work (c.args.n + c.args.n + c.loop-l.l) c.loop-l.made) c.loop-l.made)
here c f = own_here c.args.path_nos.now c.args.coords.now c.args.paths.now c.args.n c.loop-l.l c.loop-l.made c.loop-l.work c.loop-l.work f c.loop-l.invariant.1

-- what the line's answer tells
abbrev Told : (c : After-own_line-t) → Tallied → Type 0
Told c r = StepAs c.args.n c.own_line-t.new.work c.loop-l.made
    (line_step c.args.path_nos.now c.args.coords.now c.args.paths.now most_slots c.loop-l.l c.loop-l.l
    (view_of c.args.n (set c.loop-l.work (c.args.n + c.args.n + c.loop-l.l) c.loop-l.made) c.loop-l.made)) r

pub overflow_cast-line : goal.overflow_cast-line
overflow_cast-line c = omega (arith, c.loop-l.invariant.0)

pub returns-then-line-ge-MOST_LINES : goal.returns-then-line-ge-MOST_LINES
returns-then-line-ge-MOST_LINES c =
    rw c.at.ensures
    (_, own_over c.args.path_nos.now c.args.coords.now c.args.paths.now c.args.n c.loop-l.l _ c.loop-l.invariant.1 _ c.loop-l-test.true c.if-line-ge-MOST_LINES.true)

pub overflow_add-work : goal.overflow_add-work
overflow_add-work c = omega (arith, c.requires.2, c.loop-l-test.true)

pub offset_bounds-work-starts : goal.offset_bounds-work-starts
offset_bounds-work-starts c = omega (arith, fits c)

pub bounds-work-starts : goal.bounds-work-starts
bounds-work-starts c = fits c

pub own_line-t-requires : goal.own_line-t-requires
own_line-t-requires c = (
  c.requires.0,
  simp length-set (omega (arith, fits (goal.at.own_line-t-requires c).Else-line-ge-MOST_LINES)),
  c.loop-l-test.true,
  omega (arith, c.loop-l-test.true, c.requires.1),
  c.if-line-ge-MOST_LINES.false,
)

pub returns-in-Err : goal.returns-in-Err
returns-in-Err c =
    rw c.at-in-Err.ensures (
      _,
      own_stops c.args.path_nos.now c.args.coords.now c.args.paths.now c.args.n c.loop-l.l _
          (here (goal.at.returns-in-Err c).After-own_line-t (fits (goal.at.returns-in-Err c).Else-line-ge-MOST_LINES)) _ c.loop-l-test.true _
          (subst (Told (goal.at.returns-in-Err c).After-own_line-t) (ap tallied_told c.in-Err.is) c.own_line-t.ensures.0),
    )

-- the line is taken
took : (c : After-own_line-t) (k : ℕ) → tallied_told c.own_line-t.result ≡ On k →
    line_step c.args.path_nos.now c.args.coords.now c.args.paths.now most_slots c.loop-l.l c.loop-l.l
    (view_of c.args.n (set c.loop-l.work (c.args.n + c.args.n + c.loop-l.l) c.loop-l.made) c.loop-l.made)
    ≡ taken (view_of c.args.n c.own_line-t.new.work (c.loop-l.made + k))
took c k e = subst (Told c) e c.own_line-t.ensures.0

small : (c : After-own_line-t) (k : ℕ) → tallied_told c.own_line-t.result ≡ On k → c.args.n + c.args.n + c.loop-l.l < length c.loop-l.work → c.loop-l.made + k < 2 ^ 32
small c k e f = own_fits c.args.path_nos.now c.args.coords.now c.args.paths.now c.args.n c.loop-l.l c.loop-l.made c.loop-l.work _ f c.loop-l.invariant.1 c.loop-l.invariant.3 _ (took c k e)

pub overflow_add-made : goal.overflow_add-made
overflow_add-made c = record {
  fits = small (goal.at.overflow_add-made c).After-own_line-t c.in-Ok.k (ap tallied_told c.in-Ok.is) (fits (goal.at.overflow_add-made c).Else-line-ge-MOST_LINES);
}

pub loop-l-preserved : goal.loop-l-preserved
loop-l-preserved c = (
  omega (arith, c.if-line-ge-MOST_LINES.false),
  own_next c.args.path_nos.now c.args.coords.now c.args.paths.now c.args.n c.loop-l.l _ (here (goal.at.loop-l-preserved c).After-own_line-t (fits (goal.at.loop-l-preserved c).Else-line-ge-MOST_LINES)) _ (took (goal.at.loop-l-preserved c).After-own_line-t c.in-Ok.k (ap tallied_told c.in-Ok.is)),
  starts_more c.args.path_nos.now c.args.coords.now c.args.paths.now c.args.n c.loop-l.l c.loop-l.made c.loop-l.work _ (fits (goal.at.loop-l-preserved c).Else-line-ge-MOST_LINES) c.loop-l.invariant.1 c.loop-l.invariant.2 c.own_line-t.ensures.1,
  small (goal.at.loop-l-preserved c).After-own_line-t c.in-Ok.k (ap tallied_told c.in-Ok.is) (fits (goal.at.loop-l-preserved c).Else-line-ge-MOST_LINES),
)

pub returns : goal.returns
returns c =
    let e : c.loop-l.l ≡ length c.args.path_nos.now = omega (arith, c.loop-l.auto.l-end, c.loop-l-test.false) in (
      subst (λ (l : ℕ). own_to c.args.path_nos.now c.args.coords.now c.args.paths.now c.args.n l ≡ done (view_of c.args.n c.loop-l.work c.loop-l.made)) e c.loop-l.invariant.1,
      subst (StartsNoted c.args.path_nos.now c.args.coords.now c.args.paths.now c.args.n c.loop-l.work (c.args.n + c.args.n)) e c.loop-l.invariant.2,
    )
