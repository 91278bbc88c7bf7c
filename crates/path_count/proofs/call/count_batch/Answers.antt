-- `path_count::call::count_batch` meets its contract. The invariant: to count the lines left from here is to count all from the start.
-- Assumes nothing.
-- ---- a run of lines within one tile
-- ---- the line after it
-- ---- no line is left
use mathlib.Core.Path.{◌≡◌, refl, sym, ap, ◌∙◌, subst, subst₂}
use Prim.Native.Nat.{ℕ, ◌+◌, ◌/◌, ◌<◌}
use native.Mathlib.Omega.{arith}
use lib.ListN.{length}
use Rattle.lists.specs.Run.{taken}
use Rattle.panel.specs.Paths.{paths_answer}
use Rattle.panel.specs.Widths.{ref_words}
use Rattle.panel.specs.Answer.{Done}
use Rattle.panel.specs.declared.kinds.Running.{Running}
use Rattle.acts.specs.Acts.{st_of}
use Rattle.acts.proofs.Lines.{batch_goes, batch_stops, batch_ends}
use Rattle.walked_lines.specs.Line.{line_step, line_ran, tally_ran, Lent}
use Rattle.walked_lines.specs.Tallied.{tallied_told}
use Rattle.panel.specs.Refusals.{no_of}
use Rattle.path_count.specs.Runs.{batch_from}
use Rattle.walked_lines.specs.Tallied.{Tallied}
use Rattle.walked_lines.specs.Tallied.{Against}
use Rattle.walked_lines.proofs.Lines.{ran_taken, ran_halted, line_made}
use Rattle.path_count.proofs.Batches.{batch_refused, batch_through}
use Rattle.path_count.proofs.call.count_batch.Goals as goal
use Rattle.path_count.proofs.call.count_batch.Goals.{After-count_at-t, After-ones_if-s, In-Ok}

pub loop-s-init : goal.loop-s-init
loop-s-init c = (c.requires.1, refl)

pub ones_if-s-requires : goal.ones_if-s-requires
ones_if-s-requires c =
    let a = c.args in
    let p = c.requires in
    let s = c.loop-s in
    (subst (λ (m : ℕ). paths_answer a.paths.now m ≡ Done) (sym s.auto.counts) p.0.passed, c.loop-s-test.true, p.2, p.3, p.5)

-- what is left after the run says what all says
left : (c : After-ones_if-s) →
    let a = c.args in
    let r = c.ones_if-s in
    batch_from a.base a.path_nos.now a.coords.now a.paths.now (length a.refs.now / ref_words) r.result.lines a.end (st_of c.loop-s.backs r.new.counts r.new.refs r.result.refs)
    ≡ batch_from a.base a.path_nos.now a.coords.now a.paths.now (length a.refs.now / ref_words) a.running.lines a.end (st_of a.backs.now a.counts.now a.refs.now a.running.refs)
left c =
    let a = c.args in
    let s = c.loop-s in
    let r = c.ones_if-s in
    subst (λ (m : ℕ). batch_from a.base a.path_nos.now a.coords.now a.paths.now (m / ref_words) r.result.lines a.end (st_of c.loop-s.backs r.new.counts r.new.refs r.result.refs)
    ≡ batch_from a.base a.path_nos.now a.coords.now a.paths.now (m / ref_words) s.s.lines a.end (st_of s.backs s.counts s.refs s.s.refs))
    s.auto.refs (r.ensures.2 s.backs)
    ∙ s.invariant.1

-- the run is all that was left
pub returns-then-s-end : goal.returns-then-s-end
returns-then-s-end c =
    let a = c.args in
    let r = c.ones_if-s in
    let s = st_of c.loop-s.backs r.new.counts r.new.refs r.result.refs in
    batch_through a.base a.end r.result.lines s _ c.if-s-end.true
    (batch_ends (λ l. line_step a.path_nos.now a.coords.now a.paths.now (length a.refs.now / ref_words) (a.base + l) l) r.result.lines a.end s _ (omega (arith, c.if-s-end.true)) (left (goal.at.returns-then-s-end c).After-ones_if-s))

pub count_at-t-requires : goal.count_at-t-requires
count_at-t-requires c =
    let a = c.args in
    let p = c.requires in
    let s = c.loop-s in
    let r = c.ones_if-s in
    let h : r.result.lines < a.end = omega (arith, r.ensures.1, c.if-s-end.false) in (
      subst₂ (Lent a.paths.now) (sym s.auto.backs) (sym (r.auto.counts ∙ s.auto.counts)) p.0,
      record { numbered = omega (arith, h, p.2); whole = omega (arith, h, p.3) },
      s.auto.notes ∙ p.4,
      omega (arith, h, p.5),
    )

pub overflow_add-result : goal.overflow_add-result
overflow_add-result c = omega (arith, c.ones_if-s.ensures.1, c.if-s-end.false, c.requires.5)

-- what the line's answer says, with the room as it was at the start
said : (c : After-count_at-t) →
    let a = c.args in
    let r = c.ones_if-s in
    let t = c.count_at-t in
    let s = st_of c.loop-s.backs r.new.counts r.new.refs r.result.refs in
    tally_ran (tallied_told t.result) (st_of t.new.backs t.new.counts t.new.refs) r.result.refs ≡ line_ran (line_step a.path_nos.now a.coords.now a.paths.now (length a.refs.now / ref_words) (a.base + r.result.lines) r.result.lines s) s
said c =
    let a = c.args in
    let r = c.ones_if-s in
    let s = st_of c.loop-s.backs r.new.counts r.new.refs r.result.refs in
    c.count_at-t.ensures
    ∙ ap (λ (n : ℕ). line_ran (line_step a.path_nos.now a.coords.now a.paths.now (n / ref_words) (a.base + r.result.lines) r.result.lines s) s)
    (r.auto.refs ∙ c.loop-s.auto.refs)

-- the line is refused: all is as before it
pub returns-in-Err : goal.returns-in-Err
returns-in-Err c =
    let a = c.args in
    let r = c.ones_if-s in
    let t = c.count_at-t in
    let n = no_of c.in-Err.why in
    let s = st_of c.loop-s.backs r.new.counts r.new.refs r.result.refs in
    let h : r.result.lines < a.end = omega (arith, r.ensures.1, c.if-s-end.false) in
    let g : tallied_told t.result ≡ Against n = ap tallied_told c.in-Err.is in
    let e = ran_halted (line_step a.path_nos.now a.coords.now a.paths.now (length a.refs.now / ref_words) (a.base + r.result.lines) r.result.lines s) s _ n
    (sym (ap (λ (x : Tallied). tally_ran x (st_of t.new.backs t.new.counts t.new.refs) r.result.refs) g) ∙ said (goal.at.returns-in-Err c).After-count_at-t) in
    batch_refused a.base a.end _ n n s _ _ refl e.1
    (batch_stops (λ l. line_step a.path_nos.now a.coords.now a.paths.now (length a.refs.now / ref_words) (a.base + l) l) r.result.lines a.end s h _ (left (goal.at.returns-in-Err c).After-ones_if-s) n e.0)

-- the line is taken
took : (c : In-Ok) →
    let a = c.args in
    let r = c.ones_if-s in
    let t = c.count_at-t in
    let s = st_of c.loop-s.backs r.new.counts r.new.refs r.result.refs in
    tally_ran (tallied_told t.result) (st_of t.new.backs t.new.counts t.new.refs) r.result.refs ≡ line_ran (line_step a.path_nos.now a.coords.now a.paths.now (length a.refs.now / ref_words) (a.base + r.result.lines) r.result.lines s) s →
    line_step a.path_nos.now a.coords.now a.paths.now (length a.refs.now / ref_words) (a.base + r.result.lines) r.result.lines (st_of c.loop-s.backs r.new.counts r.new.refs r.result.refs) ≡ taken (st_of t.new.backs t.new.counts t.new.refs (r.result.refs + c.in-Ok.n))
took c h =
    let a = c.args in
    let r = c.ones_if-s in
    let t = c.count_at-t in
    let s = st_of c.loop-s.backs r.new.counts r.new.refs r.result.refs in
    ran_taken (line_step a.path_nos.now a.coords.now a.paths.now (length a.refs.now / ref_words) (a.base + r.result.lines) r.result.lines s) s _
    (sym (ap (λ (x : Tallied). tally_ran x (st_of t.new.backs t.new.counts t.new.refs) r.result.refs) (ap tallied_told c.in-Ok.is)) ∙ h)

pub stepped-s-requires : goal.stepped-s-requires
stepped-s-requires c =
    let a = c.args in
    let r = c.ones_if-s in (
      omega (arith, c.well_formed, r.ensures.1, c.if-s-end.false),
      line_made a.path_nos.now a.coords.now a.paths.now (length a.refs.now / ref_words) (a.base + r.result.lines) r.result.lines (st_of c.loop-s.backs r.new.counts r.new.refs r.result.refs) _ (omega (arith, c.struct_known-in-loop-s-1.given)) (took (goal.at.stepped-s-requires c).In-Ok (said (goal.at.stepped-s-requires c).After-count_at-t)),
    )

pub loop-s-smaller : goal.loop-s-smaller
loop-s-smaller c =
    omega (arith, c.loop-s-test.true, c.if-s-end.false, c.ones_if-s.ensures.0, c.ones_if-s.ensures.1, ap (λ (r : Running). r.lines) c.stepped-s.ensures)

pub loop-s-preserved : goal.loop-s-preserved
loop-s-preserved c =
    let a = c.args in
    let s = c.loop-s in
    let r = c.ones_if-s in
    let t = c.count_at-t in
    let h : r.result.lines < a.end = omega (arith, r.ensures.1, c.if-s-end.false) in
    rw c.stepped-s.ensures (
      omega (arith, h),
      batch_goes (λ l. line_step a.path_nos.now a.coords.now a.paths.now (length a.refs.now / ref_words) (a.base + l) l) r.result.lines a.end (st_of c.loop-s.backs r.new.counts r.new.refs r.result.refs) h _ (left (goal.at.loop-s-preserved c).After-ones_if-s) _ (took (goal.at.loop-s-preserved c).In-Ok (said (goal.at.loop-s-preserved c).After-count_at-t)),
    )

pub returns : goal.returns
returns c =
    let a = c.args in
    let s = c.loop-s in
    batch_through a.base a.end s.s.lines (st_of s.backs s.counts s.refs s.s.refs) _ (omega (arith, c.loop-s-test.false, s.invariant.0))
    (batch_ends (λ l. line_step a.path_nos.now a.coords.now a.paths.now (length a.refs.now / ref_words) (a.base + l) l) s.s.lines a.end (st_of s.backs s.counts s.refs s.s.refs) _ c.loop-s-test.false s.invariant.1)
