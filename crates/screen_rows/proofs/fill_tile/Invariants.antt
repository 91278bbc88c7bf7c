use mathlib.Core.Path.{◌≡◌}
use lib.ListN.{length}
use Rattle.lists.specs.Grid.{mapi}
use Rattle.screen_rows.specs.Rows.{one_word}
use Rattle.screen_rows.proofs.Places.{rows}
use Rattle.screen_rows.proofs.fill_tile.Given as goal

abbrev pub invariant-loop-y : goal.invariant-loop-y
invariant-loop-y l = (length l.pixels ≡ length l.initial.pixels) × (l.pixels ≡ mapi (rows (one_word l.word) l.width l.tx l.ty l.y) l.initial.pixels)
