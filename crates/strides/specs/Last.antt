-- z of the step before, or what stands for it at step 0: equal to that step's z where its top edge is crossed. Definitions only.
use Rattle.std.specs.Prelude.{Option, Some, None, ℕ}

abbrev pub Last : Type 0
Last = Option ℕ

pattern abbrev pub Z : ℕ → Last
Z a = Some a

pattern abbrev pub Other : Last
Other = None
