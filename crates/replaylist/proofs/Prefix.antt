-- A number that is at most a list's length counts elements at its start. Assumes nothing.
use mathlib.Core.Path.{sym}
use mathlib.Core.List.{List}
use Prim.Native.Nat.{ℕ, ◌≤◌}
use lib.ListN.{length}
use lib.Seq.{length-take-le}
use Rattle.replaylist.specs.Counts.{Counts}

pub counts : {A : Type 0} (n : ℕ) (xs : List A) → n ≤ length xs → Counts n xs
counts n xs h = (h, sym (length-take-le n xs h))
