-- `acts::visits::visit` meets its contract. Assumes nothing.
use mathlib.Core.Path.{refl}
use Rattle.acts.proofs.visits.visit.Goals as goal

pub returns : goal.returns
returns c = (refl, rw (c.put_ref.ensures, c.pack-word.ensures))
