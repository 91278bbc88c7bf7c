--  Definitions only.
use Rattle.std.specs.Prelude.{Option, Some, None}
use Rattle.svg_path.specs.declared.State.{State}

abbrev pub Step : Type 0
Step = Option State

pattern abbrev pub To : State → Step
To a = Some a

pattern abbrev pub Off : Step
Off = None
