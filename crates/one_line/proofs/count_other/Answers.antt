-- `one_line::count_other` meets its contract.
-- Assumes nothing.
use mathlib.Core.Path.{◌≡◌, refl, sym, ap, ◌∙◌, subst, subst₂}
use Prim.Native.Nat.{ℕ, ◌/◌}
use lib.ListN.{length}
use Rattle.lists.specs.Run.{Step}
use Rattle.panel.specs.Widths.{ref_words}
use Rattle.walk.specs.Lent.{walk_at}
use Rattle.panel.specs.declared.kinds.Path.{Path}
use Rattle.walk.specs.declared.kinds.Walk.{Walk}
use Rattle.walk.specs.Walked.{Skipped, Line, walked_told}
use Rattle.std.proofs.lemmas.Result.{err_from_is_err_and}
use Rattle.std.proofs.Common.{Option, Ok}
use Rattle.acts.specs.Acts.{St, st_of}
use Rattle.hits.specs.Notes.{OnTiles}
use Rattle.walked_lines.specs.Line.{line_ran}
use Rattle.walked_lines.specs.Tallied.{On, Against}
use Rattle.panel.specs.Refusals.{no_of}
use Rattle.inside_lines.specs.Direct.{DirectMet}
use Rattle.few_steps.specs.Direct.{Direct}
use Rattle.walked_lines.proofs.Lines.{on_tiles, walkable, line_over, line_walked}
use Rattle.one_line.proofs.Ways.{line_unwalked, same_tally, same_walk}
use Rattle.one_line.proofs.count_other.Goals as goal
use Rattle.one_line.proofs.count_other.Goals.{In-Some-found, In_default}

pub returns-then-line-ge-MOST_LINES : goal.returns-then-line-ge-MOST_LINES
returns-then-line-ge-MOST_LINES c =
    let a = c.args in
    line_over a.path_nos.now a.coords.now a.paths.now (length a.refs.now / ref_words) a.line.0 a.place _ c.if-line-ge-MOST_LINES.true

pub count_direct-direct-requires : goal.count_direct-direct-requires
count_direct-direct-requires c = let p = c.requires in (p.0, p.1, p.2)

pub returns-in-Some : goal.returns-in-Some
returns-in-Some c =
    let a = c.args in
    let d = c.count_direct-direct in
    let t = st_of a.backs.now a.counts.now a.refs.now a.made in
    subst (λ (r : Direct). DirectMet (walk_at a.path_nos.now a.coords.now a.paths.now a.place) (length a.refs.now / ref_words)
    a.line.0 a.made a.backs.now a.counts.now a.refs.now d.new.backs d.new.counts
    d.new.refs r) c.in-Some.is d.ensures
    ∙ ap (λ (o : Step St ℕ). line_ran o t)
    (sym (line_walked a.path_nos.now a.coords.now a.paths.now (length a.refs.now / ref_words) a.line.0 a.place t _ c.if-line-ge-MOST_LINES.false refl))

-- what is lent is as it was
same : (c : In_default) →
    let a = c.args in
    let d = c.count_direct-direct in
    (d.new.backs ≡ a.backs.now) × (d.new.counts ≡ a.counts.now) × (d.new.refs ≡ a.refs.now)
same c =
    let a = c.args in
    let d = c.count_direct-direct in
    subst (λ (r : Direct). DirectMet (walk_at a.path_nos.now a.coords.now a.paths.now a.place) (length a.refs.now / ref_words)
    a.line.0 a.made a.backs.now a.counts.now a.refs.now d.new.backs d.new.counts
    d.new.refs r) c.in_default.is d.ensures

pub walk_at-requires : goal.walk_at-requires
walk_at-requires c = let p = c.requires in (p.1.numbered, p.1.whole)

pub returns-in_err-found : goal.returns-in_err-found
returns-in_err-found c =
    let a = c.args in
    let p = err_from_is_err_and c.from_residual.result c.from_residual.ensures.1 in
    rw (p.1, p.2)
    (same_tally _ _ _ _ _ _ (same (goal.at.returns-in_err-found c).In_default) (Against (no_of c.in_err-found.field-0.0)) a.made _
    (line_unwalked a.path_nos.now a.coords.now a.paths.now (length a.refs.now / ref_words) a.line.0 a.place a.backs.now a.counts.now a.refs.now a.made
    _ c.if-line-ge-MOST_LINES.false (sym c.in_err-found.ensures) tt))

pub returns-in_default-found : goal.returns-in_default-found
returns-in_default-found c =
    let a = c.args in
    let e : walked_told (Ok c.in_ok-found.found) ≡ Skipped = ap (λ (o : Option (Walk × Path)). walked_told (Ok o)) c.in_default-found.is in
    same_tally _ _ _ _ _ _ (same (goal.at.returns-in_default-found c).In_default) (On 0) a.made _
    (line_unwalked a.path_nos.now a.coords.now a.paths.now (length a.refs.now / ref_words) a.line.0 a.place a.backs.now a.counts.now a.refs.now a.made
    _ c.if-line-ge-MOST_LINES.false (sym c.in_ok-found.ensures ∙ e) tt)

-- the line has a walk
line : (c : In-Some-found) →
    let a = c.args in walk_at a.path_nos.now a.coords.now a.paths.now a.place ≡ Line c.in-Some-found.walk c.in-Some-found.path
line c = sym c.in_ok-found.ensures ∙ ap (λ (o : Option (Walk × Path)). walked_told (Ok o)) c.in-Some-found.is

pub count_walk-requires : goal.count_walk-requires
count_walk-requires c =
    let a = c.args in
    let p = c.requires in
    let e = same (goal.at.count_walk-requires c).In_default in (
      subst₂ (OnTiles c.in-Some-found.path) (sym (ap length e.0)) (sym (ap length e.1))
          (on_tiles a.path_nos.now a.coords.now a.paths.now a.place _ _ (line (goal.at.count_walk-requires c).In-Some-found) _ _ p.0),
      walkable a.path_nos.now a.coords.now a.paths.now a.place _ _ (line (goal.at.count_walk-requires c).In-Some-found) _ _ p.0,
      c.count_direct-direct.auto.notes ∙ p.2,
    )

pub returns : goal.returns
returns c =
    let a = c.args in
    let t = st_of a.backs.now a.counts.now a.refs.now a.made in
    same_walk _ _ _ _ _ _ (same (goal.at.returns c).In_default) a.line.0 a.made c.in-Some-found.walk c.in-Some-found.path _ c.count_walk.ensures
    ∙ ap (λ (o : Step St ℕ). line_ran o t)
    (sym (line_walked a.path_nos.now a.coords.now a.paths.now (length a.refs.now / ref_words) a.line.0 a.place t _ c.if-line-ge-MOST_LINES.false (line (goal.at.returns c).In-Some-found)))
