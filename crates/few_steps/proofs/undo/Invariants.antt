use Prim.Native.Nat.{◌+◌}
use Rattle.acts.specs.Acts.{St, st_of}
use Rattle.few_steps.specs.Few.{Came}
use Rattle.few_steps.proofs.undo.Given as goal

abbrev pub invariant-loop-i : goal.invariant-loop-i
invariant-loop-i l =
    (s : St) → Came l.up l.notes l.n s (st_of l.initial.backs l.initial.counts l.initial.refs (l.made + l.n)) → Came l.up l.notes l.i s (st_of l.backs l.counts l.refs (l.made + l.i))
