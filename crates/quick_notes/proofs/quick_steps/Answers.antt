-- `quick_notes::quick_steps` meets its contract.
-- Assumes nothing.
use mathlib.Core.Bool.{false≢true}
use mathlib.Core.Path.{◌∙◌, subst}
use Prim.Native.Nat.{◌<◌, ◌-◌}
use native.Mathlib.Omega.{arith}
use lib.ListN.{length}
use Rattle.panel.specs.Paths.{end_of}
use Rattle.strides.specs.Strides.{LastMet}
use Rattle.strides.specs.Last.{Last}
use Rattle.strides.proofs.Laws.{in_both}
use Rattle.hits.specs.Steps.{hit_at}
use Rattle.hits.specs.Notes.{Notes}
use Rattle.hits.proofs.NoteLaws.{notes_wider}
use Rattle.quick_notes.proofs.quick_steps.Goals as goal
use Rattle.quick_notes.proofs.quick_steps.Goals.{Else-not-lay_steps, Else-to-from}

pub returns-then-to-from : goal.returns-then-to-from
returns-then-to-from c = λ e. absurd (false≢true e)

-- there are steps, and the box has columns
some : (c : Else-to-from) → (c.args.from < c.args.to) × (c.args.path.x0 < c.args.path.x1)
some c = in_both c.args.from c.args.to c.args.path.x0 c.args.path.x1 c.if-to-from.false

pub strides_of-g-requires : goal.strides_of-g-requires
strides_of-g-requires c = (c.requires.0.boxed, c.requires.2)

pub last_of-requires : goal.last_of-requires
last_of-requires c = let t = some (goal.at.last_of-requires c).Else-to-from in omega (arith, c.requires.1 t.0, t.0)

pub returns-in_default : goal.returns-in_default
returns-in_default c = λ e. absurd (false≢true e)

pub lay_steps-requires : goal.lay_steps-requires
lay_steps-requires c =
    let t = some (goal.at.lay_steps-requires c).Else-to-from in (
      c.requires.0.boxed,
      t.1,
      c.requires.2,
      c.strides_of-g.ensures,
      subst (λ (r : Last). LastMet c.args.pace c.args.from r) c.in-Some.is c.last_of.ensures,
      omega (arith, t.0),
      c.requires.1 t.0,
      c.requires.3,
      c.requires.4,
    )

pub returns-then-not-lay_steps : goal.returns-then-not-lay_steps
returns-then-not-lay_steps c = λ e. absurd (false≢true e)

-- the words are those of the steps, and their tiles are lent
laid : (c : Else-not-lay_steps) →
    Notes (hit_at c.args.pace c.args.path) c.args.from (c.args.to - c.args.from) c.lay_steps.new.notes (length c.args.backs.now)
laid c =
    notes_wider (hit_at c.args.pace c.args.path) c.args.from (c.args.to - c.args.from) c.lay_steps.new.notes
    (end_of c.args.path) (length c.args.backs.now) (omega (arith, c.requires.0.within, c.requires.0.paired)) (c.lay_steps.ensures c.if-not-lay_steps.false)

pub pass_steps-requires : goal.pass_steps-requires
pass_steps-requires c =
    let t = some (goal.at.pass_steps-requires c).Else-to-from in
    let k = c.lay_steps.auto.notes in (
      c.requires.0,
      omega (arith, t.0),
      omega (arith, c.requires.3, k),
      k ∙ c.requires.4,
      c.requires.1 t.0,
      laid (goal.at.pass_steps-requires c).Else-not-lay_steps,
    )

pub returns : goal.returns
returns c = λ e. (c.pass_steps.ensures e, laid (goal.at.returns c).Else-not-lay_steps)
