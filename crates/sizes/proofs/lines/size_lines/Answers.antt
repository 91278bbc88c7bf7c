-- `sizes::lines::size_lines` meets its contract. The loop's invariant: the lines left, after the references so far, come to what all come to.
-- Assumes nothing.
use mathlib.Core.Path.{◌≡◌, sym, ap, ◌∙◌}
use Prim.Native.Nat.{◌+◌, ◌≤◌}
use native.Mathlib.Omega.{arith}
use lib.ListN.{length}
use Rattle.lists.specs.Run.{taken}
use Rattle.panel.specs.Limits.{most_slots}
use Rattle.walked_lines.specs.Tallied.{tallied_told}
use Rattle.sizes.specs.Refs.{line_size, tallied_size}
use Rattle.sizes.proofs.RefLaws.{line_over, line_few, lines_goes, refs_stops, refs_made}
use Rattle.sizes.proofs.lines.size_lines.Goals as goal
use Rattle.sizes.proofs.lines.size_lines.Goals.{In-Ok}

pub returns-then-l : goal.returns-then-l
returns-then-l c =
    let a = c.args in
    let l = c.loop-l in
    rw c.at.ensures (refs_stops a.path_nos.now a.coords.now a.paths.now l.l l.made l.invariant.2 c.loop-l-test.true _
    (line_over a.path_nos.now a.coords.now a.paths.now l.l l.made c.if-l.true))

pub returns-in-Err : goal.returns-in-Err
returns-in-Err c =
    let a = c.args in
    let l = c.loop-l in
    rw c.at-in-Err.ensures (refs_stops a.path_nos.now a.coords.now a.paths.now l.l l.made l.invariant.2 c.loop-l-test.true _
    (sym c.size_line-t.ensures ∙ ap (tallied_size l.made) (ap tallied_told c.in-Err.is)))

-- the line is taken
took : (c : In-Ok)
    → line_size c.args.path_nos.now
    c.args.coords.now
    c.args.paths.now c.loop-l.l
    c.loop-l.made ≡ taken (c.loop-l.made + c.in-Ok.k)
took c = sym c.size_line-t.ensures ∙ ap (tallied_size c.loop-l.made) (ap tallied_told c.in-Ok.is)

small : (c : In-Ok) → c.loop-l.made + c.in-Ok.k ≤ most_slots
small c =
    let a = c.args in
    let l = c.loop-l in
    line_few a.path_nos.now a.coords.now a.paths.now l.l l.made _ l.invariant.1 (took c)

pub overflow_add-made : goal.overflow_add-made
overflow_add-made c = record { fits = omega (arith, small (goal.at.overflow_add-made c).In-Ok) }

pub loop-l-preserved : goal.loop-l-preserved
loop-l-preserved c =
    let a = c.args in
    let l = c.loop-l in
    let h = c.loop-l-test.true in (
      omega (arith, c.if-l.false),
      small (goal.at.loop-l-preserved c).In-Ok,
      lines_goes a.path_nos.now a.coords.now a.paths.now l.l (length a.path_nos.now) l.made _ l.invariant.2 h _ (took (goal.at.loop-l-preserved c).In-Ok),
    )

pub returns : goal.returns
returns c =
    let a = c.args in
    let l = c.loop-l in
    refs_made a.path_nos.now a.coords.now a.paths.now l.l l.made l.invariant.2 (omega arith)
