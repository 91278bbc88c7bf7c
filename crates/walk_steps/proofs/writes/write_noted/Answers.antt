-- `walk_steps::writes::write_noted` meets its contract. That the step's run goes through says that the tile's count is below the limit, and that its mark stays within i32.
-- Assumes nothing.
use mathlib.Core.Path.{◌≡◌, sym, ap₂, subst₂}
use mathlib.Core.Bool.{Bool, cond}
use Prim.Native.Nat.{ℕ, ◌+◌, ◌<◌}
use native.Mathlib.Omega.{arith}
use lib.ListN.{length}
use Rattle.acts.specs.Acts.{on}
use Rattle.acts.proofs.Laws.{write_count, write_bump, write_hit, own_below}
use Rattle.hits.specs.Notes.{hit_by}
use Rattle.walk_steps.proofs.writes.write_noted.Goals as goal
use Rattle.walk_steps.proofs.writes.write_noted.Goals.{After-word_marks-marks}

-- the word's step, by what was read of it
falls : (c : After-word_marks-marks) → hit_by c.args.word ≡ on c.word_tile-t.result c.word_marks-marks.result
falls c = ap₂ on (sym c.word_tile-t.ensures) (sym c.word_marks-marks.ensures)

-- the tile that it marks, or its own, is lent
next : (c : After-word_marks-marks) → cond c.word_marks-marks.result (c.word_tile-t.result + 1) c.word_tile-t.result < length c.args.backs.now
next c =
    subst₂ (λ (m : Bool) (t : ℕ). cond m (t + 1) t < length c.args.backs.now) (sym c.word_marks-marks.ensures) (sym c.word_tile-t.ensures) c.requires.0

pub visit-requires : goal.visit-requires
visit-requires c = (
  omega (arith, own_below c.word_marks-marks.result c.word_tile-t.result (length c.args.backs.now) (next (goal.at.visit-requires c).After-word_marks-marks), c.requires.1),
  c.requires.3,
  write_count _ _ (hit_by c.args.word) _ _ _ _ _ c.requires.5 _ _ (falls (goal.at.visit-requires c).After-word_marks-marks),
  c.requires.2,
  c.requires.4,
)

pub mark_if-requires : goal.mark_if-requires
mark_if-requires c =
    (next (goal.at.mark_if-requires c).After-word_marks-marks, write_bump _ _ (hit_by c.args.word) _ _ _ _ _ c.requires.5 _ _ (falls (goal.at.mark_if-requires c).After-word_marks-marks))

pub returns : goal.returns
returns c =
    write_hit _ _ (hit_by c.args.word) _ _ _ _ _ c.requires.5 _ _ (falls (goal.at.returns c).After-word_marks-marks) _ _ _
    c.visit.ensures.0
    c.visit.ensures.1 c.mark_if.ensures
