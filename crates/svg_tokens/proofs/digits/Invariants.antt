use mathlib.Core.Path.{◌≡◌}
use Prim.Native.Nat.{◌+◌, ◌-◌, ◌*◌, ◌^◌, ◌≤◌}
use lib.ListN.{drop}
use Rattle.svg_tokens.specs.Run.{run_of}
use Rattle.svg_tokens.proofs.digits.Given as goal

abbrev pub invariant-loop-taken : goal.invariant-loop-taken
invariant-loop-taken l =
    ((l.n + 1) * 10 ^ (l.limit - l.taken) ≤ 1000000) × (run_of (l.limit - l.taken) l.n l.taken (drop l.taken l.s) ≡ run_of l.limit 0 0 l.s)
