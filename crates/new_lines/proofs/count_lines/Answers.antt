-- `new_lines::count_lines` meets its contract. The invariant: to count the lines left from here tells what all tell.
-- Assumes nothing.
use mathlib.Core.List.{[]}
use mathlib.Core.Path.{◌≡◌, refl, sym, ap, ◌∙◌, subst₂}
use mathlib.Core.List.{◌∷◌}
use Prim.Native.Nat.{ℕ, ◌+◌, ◌-◌, ◌*◌, ◌/◌}
use native.Mathlib.Omega.{arith}
use lib.ListN.{length, get_or, length-drop, drop}
use borrow.Author.Rules.{part_to_end}
use Rattle.panel.specs.Widths.{ref_words, line_floats}
use Rattle.acts.specs.Acts.{st_of}
use Rattle.acts.specs.Line.{batch_of}
use Rattle.acts.proofs.Lines.{batch_stops, batch_ends}
use Rattle.walked_lines.specs.Line.{Lent}
use Rattle.path_count.specs.Count.{paper_of, made_of, told_of}
use Rattle.path_count.specs.Runs.{batch_from, from_told}
use Rattle.path_count.specs.Counted.{Counted, counted_told}
use Rattle.panel.specs.Refusals.{no_of}
use Rattle.new_lines.specs.Own.{own_step, lines_told}
use Rattle.new_lines.proofs.OwnLaws.{own_other, other_part}
use Rattle.new_lines.proofs.StretchLaws.{told_done, told_refused, stretch_first}
use Rattle.new_lines.proofs.count_lines.Goals as goal
use Rattle.new_lines.proofs.count_lines.Goals.{After-count_batch-t}

pub loop-k-init : goal.loop-k-init
loop-k-init c =
    let a = c.args in
    let none : length a.path_nos.now - 0 ≡ length a.path_nos.now = omega arith in (
      omega arith,
      refl,
      ap (λ (n : ℕ). lines_told a.line_nos.now (batch_of (λ j. own_step a.path a.path_nos.now a.coords.now a.paths.now (length a.refs.now / ref_words) (get_or a.line_nos.now j 0) j) 0 n (st_of a.backs.now a.counts.now a.refs.now 0))) none,
    )

pub bounds-line_nos-k : goal.bounds-line_nos-k
bounds-line_nos-k c = omega (arith, c.loop-k-test.true, c.requires.2)

pub overflow_mul-at : goal.overflow_mul-at
overflow_mul-at c = omega (arith, c.well_formed, c.loop-k-test.true, c.requires.3)

pub stretch-n-requires : goal.stretch-n-requires
stretch-n-requires c = (c.loop-k-test.true, c.requires.2)

pub other_no-requires : goal.other_no-requires
other_no-requires c =
    let a = c.args in
    let s = c.loop-k in
    let fs = ap length (part_to_end a.coords.now (s.k * line_floats)) ∙ length-drop (s.k * line_floats) a.coords.now in
    omega (arith, fs, c.loop-k-test.true, c.requires.3)

pub returns-then-n-eq0 : goal.returns-then-n-eq0
returns-then-n-eq0 c =
    let a = c.args in
    let s = c.loop-k in
    ap (λ (n : ℕ). told_of (n ∷ get_or a.line_nos.now s.k 0 ∷ s.made ∷ []) (st_of s.backs s.counts s.refs s.made))
    (c.other_no.ensures ∙ other_part a.coords.now (get_or a.line_nos.now s.k 0) s.k _ (part_to_end a.coords.now (s.k * line_floats)))
    ∙ ap (lines_told a.line_nos.now)
    (batch_stops (λ j. own_step a.path a.path_nos.now a.coords.now a.paths.now (length a.refs.now / ref_words) (get_or a.line_nos.now j 0) j) s.k (length a.path_nos.now) (st_of s.backs s.counts s.refs s.made) c.loop-k-test.true _ refl _
    (own_other a.path a.path_nos.now a.coords.now a.paths.now (length a.refs.now / ref_words) (get_or a.line_nos.now s.k 0) s.k (st_of s.backs s.counts s.refs s.made)
    (c.stretch-n.ensures.other c.if-n-eq0.true)))
    ∙ s.invariant.2

pub slice_bounds-count_batch-end-in-loop-k-2 : goal.slice_bounds-count_batch-end-in-loop-k-2
slice_bounds-count_batch-end-in-loop-k-2 c = sym c.loop-k.invariant.1

pub count_batch-t-requires : goal.count_batch-t-requires
count_batch-t-requires c =
    let a = c.args in
    let s = c.loop-k in
    let p = c.requires in
    let h = c.stretch-n.ensures in
    let nos = ap length (part_to_end a.path_nos.now s.k) ∙ length-drop s.k a.path_nos.now in
    let fs = ap length (part_to_end a.coords.now (s.k * line_floats)) ∙ length-drop (s.k * line_floats) a.coords.now in (
      subst₂ (Lent a.paths.now) (sym s.auto.backs) (sym s.auto.counts) p.0,
      omega arith,
      omega (arith, nos, h.lent),
      omega (arith, fs, h.lent, p.3),
      s.invariant.1,
      h.fits,
    )

-- what counting's answer for the stretch says, with the room as it was at the start
said : (c : After-count_batch-t) →
    let a = c.args in
    let s = c.loop-k in
    let t = c.count_batch-t in
    told_of (paper_of (counted_told t.result)) (st_of t.new.backs t.new.counts t.new.refs (made_of (counted_told t.result)))
    ≡ from_told (get_or a.line_nos.now s.k 0) c.stretch-n.result
    (batch_from (get_or a.line_nos.now s.k 0) (drop s.k a.path_nos.now) (drop (s.k * line_floats) a.coords.now) a.paths.now (length a.refs.now / ref_words) 0 c.stretch-n.result (st_of s.backs s.counts s.refs s.made))
said c =
    let a = c.args in
    let s = c.loop-k in
    c.count_batch-t.ensures
    ∙ (λ i. from_told (get_or a.line_nos.now s.k 0) c.stretch-n.result
    (batch_from (get_or a.line_nos.now s.k 0) (part_to_end a.path_nos.now s.k i) (part_to_end a.coords.now (s.k * line_floats) i) a.paths.now
    (s.auto.refs i / ref_words) 0 c.stretch-n.result (st_of s.backs s.counts s.refs s.made)))

pub returns-in-Err : goal.returns-in-Err
returns-in-Err c =
    let a = c.args in
    let s = c.loop-k in
    let t = c.count_batch-t in
    let e = c.in-Err.stopped in
    told_refused a.line_nos.now (get_or a.line_nos.now s.k 0) c.stretch-n.result t.new.backs t.new.counts t.new.refs e.running.refs (batch_of (λ j. own_step a.path a.path_nos.now a.coords.now a.paths.now (length a.refs.now / ref_words) (get_or a.line_nos.now j 0) j) (s.k + c.stretch-n.result) (length a.path_nos.now - (s.k + c.stretch-n.result))) (no_of e.why) e.item e.running.lines (batch_from (get_or a.line_nos.now s.k 0) (drop s.k a.path_nos.now) (drop (s.k * line_floats) a.coords.now) a.paths.now (length a.refs.now / ref_words) 0 c.stretch-n.result (st_of s.backs s.counts s.refs s.made))
    (sym (ap (λ (x : Counted). told_of (paper_of x) (st_of t.new.backs t.new.counts t.new.refs (made_of x))) (ap counted_told c.in-Err.is)) ∙ said (goal.at.returns-in-Err c).After-count_batch-t)
    ∙ sym (stretch_first a.path a.line_nos.now a.path_nos.now a.coords.now a.paths.now (length a.refs.now / ref_words) s.k c.stretch-n.result c.requires.1 c.stretch-n.ensures.order _ _ refl refl (st_of s.backs s.counts s.refs s.made) c.stretch-n.ensures.lent)
    ∙ s.invariant.2

pub overflow_add-k : goal.overflow_add-k
overflow_add-k c = omega (arith, c.well_formed, c.stretch-n.ensures.lent)

pub loop-k-smaller : goal.loop-k-smaller
loop-k-smaller c = omega (arith, c.loop-k-test.true, c.if-n-eq0.false, c.stretch-n.ensures.lent)

pub loop-k-preserved : goal.loop-k-preserved
loop-k-preserved c =
    let a = c.args in
    let s = c.loop-k in
    let t = c.count_batch-t in (
      c.stretch-n.ensures.lent,
      t.auto.notes ∙ s.invariant.1,
      told_done a.line_nos.now (get_or a.line_nos.now s.k 0) c.stretch-n.result t.new.backs t.new.counts t.new.refs c.in-Ok.s.refs (batch_of (λ j. own_step a.path a.path_nos.now a.coords.now a.paths.now (length a.refs.now / ref_words) (get_or a.line_nos.now j 0) j) (s.k + c.stretch-n.result) (length a.path_nos.now - (s.k + c.stretch-n.result))) c.in-Ok.s.lines (batch_from (get_or a.line_nos.now s.k 0) (drop s.k a.path_nos.now) (drop (s.k * line_floats) a.coords.now) a.paths.now (length a.refs.now / ref_words) 0 c.stretch-n.result (st_of s.backs s.counts s.refs s.made))
          (sym (ap (λ (x : Counted). told_of (paper_of x) (st_of t.new.backs t.new.counts t.new.refs (made_of x))) (ap counted_told c.in-Ok.is)) ∙ said (goal.at.loop-k-preserved c).After-count_batch-t)
          ∙ sym (stretch_first a.path a.line_nos.now a.path_nos.now a.coords.now a.paths.now (length a.refs.now / ref_words) s.k c.stretch-n.result c.requires.1 c.stretch-n.ensures.order _ _ refl refl (st_of s.backs s.counts s.refs s.made) c.stretch-n.ensures.lent)
          ∙ s.invariant.2,
    )

pub returns : goal.returns
returns c =
    let a = c.args in
    let s = c.loop-k in
    ap (lines_told a.line_nos.now) (batch_ends (λ j. own_step a.path a.path_nos.now a.coords.now a.paths.now (length a.refs.now / ref_words) (get_or a.line_nos.now j 0) j) s.k (length a.path_nos.now) (st_of s.backs s.counts s.refs s.made) _ c.loop-k-test.false refl)
    ∙ s.invariant.2
