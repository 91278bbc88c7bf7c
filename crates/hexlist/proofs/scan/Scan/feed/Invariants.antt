use mathlib.Core.Path.{◌≡◌}
use lib.ListN.{drop}
use Rattle.hexlist.specs.Text.{state_of, feed_of}
use Rattle.hexlist.proofs.scan.Scan.feed.Given as goal

abbrev pub invariant-loop-b : goal.invariant-loop-b
invariant-loop-b l = feed_of (drop l.b-index l.text) (state_of l.scan l.words) ≡ feed_of l.text (state_of l.fn.self l.fn.words)
