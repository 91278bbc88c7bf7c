-- `replaylist::rooms::taken` counts elements of its room. Assumes nothing.
use borrow.Author.Rules.{rules}
use Rattle.replaylist.proofs.Prefix.{counts}
use Rattle.replaylist.proofs.rooms.taken.Goals as goal

pub returns : goal.returns
returns g c = counts _ _ (search rules)
