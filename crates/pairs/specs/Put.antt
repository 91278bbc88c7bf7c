-- What a path puts on a tile in code: a pair, or nothing. Definitions only.
use Rattle.std.specs.Prelude.{Option, Some, None}
use Rattle.pairs.specs.declared.Pair.{Pair}

abbrev pub Put : Type 0
Put = Option Pair

pattern abbrev pub Nothing : Put
Nothing = None

pattern abbrev pub Puts : Pair → Put
Puts a = Some a
