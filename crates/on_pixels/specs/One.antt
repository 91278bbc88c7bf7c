-- Commands on pixels that are alike, one of which stands for all. Only proofs lean on this: no promise of a public call does. Definitions only.
use Rattle.std.specs.Prelude.{Bool, true, false, Float}
use Rattle.util.specs.Constants.{one}
use Rattle.commands.specs.declared.steps.Act.{Act}
use Rattle.commands.specs.declared.steps.Act.TheVariants.{Fill, Solid, Color, Jump}

-- whether a command leaves pixels alike that were, and the area that all have then
abbrev pub alike : Act → Bool
alike (Fill rule first backdrop) = false
alike Solid = true
alike (Color word) = true
alike Jump = true

abbrev pub cover_one : Act → Float → Float
cover_one (Fill rule first backdrop) a = a
cover_one Solid a = one
cover_one (Color word) a = a
cover_one Jump a = a
