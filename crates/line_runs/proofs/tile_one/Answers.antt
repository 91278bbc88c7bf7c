-- `line_runs::tile_one` meets its contract, case by case; what is put has room, and so has its tag. Assumes nothing.
use mathlib.Core.Path.{sym, ap, ◌∙◌}
use native.Mathlib.Omega.{arith}
use Rattle.std.proofs.Common.{Ok}
use Rattle.looks.specs.Looked.{look_told}
use Rattle.looks.proofs.PutLaws.{put_good}
use Rattle.line_runs.proofs.tile_one.Goals as goal

pub put-requires : goal.put-requires
put-requires c = omega (
  arith,
  (put_good _ _ _ _ (sym c.look_at.ensures ∙ ap look_told (c.in_ok-look.was ∙ ap Ok c.in-Some.is))).among,
  c.requires.2,
)

pub bounds-tags-slot : goal.bounds-tags-slot
bounds-tags-slot c = omega (
  arith,
  (put_good _ _ _ _ (sym c.look_at.ensures ∙ ap look_told (c.in_ok-look.was ∙ ap Ok c.in-Some.is))).among,
  c.requires.3,
)

pub returns : goal.returns
returns c = rw (sym c.look_at.ensures ∙ ap look_told (c.in_ok-look.was ∙ ap Ok c.in-Some.is), c.put.ensures)

pub returns-in_default : goal.returns-in_default
returns-in_default c = rw (sym c.look_at.ensures ∙ ap look_told (c.in_ok-look.was ∙ ap Ok c.in_default.is))
