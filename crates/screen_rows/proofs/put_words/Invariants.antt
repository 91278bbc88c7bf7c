use Prim.Native.Nat.{ℕ, ◌+◌}
use Rattle.ranges.proofs.Turn.{Done}
use Rattle.screen_rows.specs.Rows.{GivesAt}
use Rattle.screen_rows.proofs.put_words.Given as goal

abbrev pub invariant-loop-x : goal.invariant-loop-x
invariant-loop-x g l = (new : ℕ → ℕ → ℕ) → GivesAt (goal.F-post g l.word) l.base new → Done new l.base (l.base + l.x) l.initial.pixels l.pixels
