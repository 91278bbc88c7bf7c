-- `inside_lines::count_direct` meets its contract.
-- Assumes nothing.
use mathlib.Core.Path.{refl, ◌∙◌, subst}
use Prim.Native.Nat.{◌+◌, ◌/◌, ◌≤◌}
use native.Mathlib.Omega.{arith}
use lib.ListN.{length}
use Rattle.panel.specs.Limits.{most_slots}
use Rattle.panel.specs.Widths.{ref_words}
use Rattle.one_tile.proofs.Ones.{boxes}
use Rattle.within.specs.Within.{Unclipped, WithinMet}
use Rattle.within.specs.Found.{Within}
use Rattle.acts.specs.Acts.{st_of}
use Rattle.hits.specs.Notes.{note_words}
use Rattle.inside_lines.proofs.Directs.{none, few, on_box, starting, direct_fine, direct_done, direct_few}
use Rattle.inside_lines.proofs.count_direct.Goals as goal
use Rattle.inside_lines.proofs.count_direct.Goals.{Else-n-after, In_ok-pace}

pub within_at-requires : goal.within_at-requires
within_at-requires c =
    (boxes c.args.paths.now (length c.args.counts.now) c.requires.0.passed, c.requires.1.numbered, c.requires.1.whole)

pub returns-in_err-pace : goal.returns-in_err-pace
returns-in_err-pace c = rw c.from_residual.ensures (refl, refl, refl)

-- the line lies inside its path's box
lies : (c : In_ok-pace) →
    Unclipped c.args.path_nos.now c.args.coords.now c.args.paths.now c.args.place c.in_ok-pace.pace c.in_ok-pace.path c.in_ok-pace.n
    c.in_ok-pace.up
lies c =
    subst (λ (r : Within). WithinMet c.args.path_nos.now c.args.coords.now c.args.paths.now c.args.place r) c.in_ok-pace.was c.within_at.ensures

pub returns-then-n-after : goal.returns-then-n-after
returns-then-n-after c = (refl, refl, refl)

-- its steps are few enough to be noted, and there is room for them
tests : (c : Else-n-after) →
    let n = c.in_ok-pace.n in (n ≤ note_words) × (c.args.made + n ≤ length c.args.refs.now / ref_words) × (c.args.made + n ≤ most_slots)
tests c =
    let n = c.in_ok-pace.n in
    none note_words n (length c.args.refs.now / ref_words) (c.args.made + n) most_slots (c.args.made + n) c.if-n-after.false

pub count_few-requires : goal.count_few-requires
count_few-requires c =
    let u = lies (goal.at.count_few-requires c).In_ok-pace in
    let t = tests (goal.at.count_few-requires c).Else-n-after in (
      on_box c.args.path_nos.now c.args.coords.now c.args.paths.now c.args.place _ _ _ _ u _ _ c.requires.0,
      c.if-n-le-FEW.true,
      starting c.args.path_nos.now c.args.coords.now c.args.paths.now c.args.place _ _ _ _ u (length c.args.backs.now) (length c.args.counts.now) c.requires.0,
      omega (arith, t.1),
      t.2,
      c.requires.2,
    )

pub returns-then-n-le-FEW : goal.returns-then-n-le-FEW
returns-then-n-le-FEW c =
    let t = tests (goal.at.returns-then-n-le-FEW c).Else-n-after in
    direct_few c.args.path_nos.now c.args.coords.now c.args.paths.now c.args.place _ _ _ _ (lies (goal.at.returns-then-n-le-FEW c).In_ok-pace) c.args.line.0 c.args.made
    c.args.backs.now c.args.counts.now c.args.refs.now _ _ _ t.0 t.1 t.2 c.count_few.result c.count_few.ensures

pub quick_steps-requires : goal.quick_steps-requires
quick_steps-requires c =
    let u = lies (goal.at.quick_steps-requires c).In_ok-pace in
    let t = tests (goal.at.quick_steps-requires c).Else-n-after in (
      on_box c.args.path_nos.now c.args.coords.now c.args.paths.now c.args.place _ _ _ _ u _ _ c.requires.0,
      λ h. few _ t.0,
      starting c.args.path_nos.now c.args.coords.now c.args.paths.now c.args.place _ _ _ _ u (length c.args.backs.now) (length c.args.counts.now) c.requires.0,
      omega (arith, t.0, c.requires.2),
      c.requires.2,
    )

pub write_notes-requires : goal.write_notes-requires
write_notes-requires c =
    let u = lies (goal.at.write_notes-requires c).In_ok-pace in
    let t = tests (goal.at.write_notes-requires c).Else-n-after in
    let q = c.quick_steps in
    let f = q.ensures c.if-quick_steps.true in (
      λ j h. (f.1 j h).below,
      c.requires.0.paired,
      omega arith,
      λ h. few _ t.0,
      omega (arith, t.0, c.requires.2, q.auto.notes),
      q.auto.notes ∙ c.requires.2,
      omega (arith, t.1),
      omega (arith, t.2),
      direct_fine c.args.path_nos.now c.args.coords.now c.args.paths.now c.args.place _ _ _ _ u _ _ c.requires.0 c.args.line.0
          (st_of c.args.backs.now c.args.counts.now c.args.refs.now c.args.made) q.new.notes (length c.args.backs.now) t.0 f.1 f.0,
    )

pub returns-then-quick_steps : goal.returns-then-quick_steps
returns-then-quick_steps c =
    let u = lies (goal.at.returns-then-quick_steps c).In_ok-pace in
    let t = tests (goal.at.returns-then-quick_steps c).Else-n-after in
    let q = c.quick_steps in
    let f = q.ensures c.if-quick_steps.true in
    direct_done c.args.path_nos.now c.args.coords.now c.args.paths.now c.args.place _ _ _ _ u c.args.line.0 c.args.made
    c.args.backs.now c.args.counts.now c.args.refs.now _ _ _ q.new.notes (length c.args.backs.now) t.0 t.1 t.2 f.1
    c.write_notes.ensures

pub returns : goal.returns
returns c = (refl, refl, refl)
