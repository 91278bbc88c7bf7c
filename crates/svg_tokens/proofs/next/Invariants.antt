use mathlib.Core.Path.{◌≡◌}
use lib.ListN.{drop}
use Rattle.svg_tokens.specs.Tokens.{tokens_of}
use Rattle.svg_tokens.proofs.next.Given as goal

abbrev pub invariant-loop-i : goal.invariant-loop-i
invariant-loop-i l = tokens_of 0 (drop l.i l.s) ≡ tokens_of 0 (drop l.from l.s)
