-- A tile whose last COLOR is left to its caller. Only proofs lean on this: no promise of a public call does. Definitions only.
use Rattle.std.specs.Prelude.{List, Float}
use Rattle.panel.specs.Verdict.{Fine, Against}
use Rattle.colours.specs.Colour.{colour_of, composite_of}
use Rattle.commands.specs.Pixel.{Ran, ran}
use Rattle.run_list.specs.Stop.{Stop}
use Rattle.run_list.specs.Stop as At

-- what comes of it where the commands were carried out so far, and made these areas and colours
abbrev pub stopped : Stop → List Float → List (List Float) → Ran
stopped At.End area rgba = ran Fine rgba
stopped (At.Against n) area rgba = ran (Against n) rgba
stopped (At.Last word) area rgba = ran Fine (composite_of area (colour_of word) rgba)
