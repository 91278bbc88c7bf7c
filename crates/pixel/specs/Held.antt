-- A pixel's area and colour as code holds them between two commands, beside the area and the colour of `commands`. Definitions only.
use Rattle.std.specs.Prelude.{List, ℕ, replicate, Float}
use Rattle.util.specs.Constants.{zero}
use Rattle.colours.specs.Colour.{colour_of, over_of}
use Rattle.commands.specs.Pixel.{Point, point, cover}
use Rattle.commands.specs.declared.steps.Act.{Act}
use Rattle.commands.specs.declared.steps.Act.TheVariants.{Fill, Solid, Color, Jump}
use Rattle.pixel.specs.declared.kinds.Held.{Held}

abbrev pub colours_of : Held → List Float
colours_of p = p.px

abbrev pub point_in : Held → Point
point_in p = point p.area (colours_of p)

-- no area and no colour
abbrev pub nothing_held : Held
nothing_held = record { area = zero; px = replicate 4 zero }

abbrev pub covered_by : Held → Float → Held
covered_by p a = record { area = a; px = p.px }

abbrev pub coloured_by : Held → List Float → Held
coloured_by p c = record { area = p.area; px = c }

-- a COLOR command's colour over it, by its area
unfoldable pub laid_on : ℕ → Held → Held
laid_on word p = coloured_by p (over_of (colour_of word) p.area (colours_of p))

-- pixel k after a command
unfoldable pub held_after : Act → List Float → ℕ → Held → Held
held_after (Fill rule first backdrop) segments k p = covered_by p (cover (Fill rule first backdrop) segments k p.area)
held_after Solid segments k p = covered_by p (cover Solid segments k p.area)
held_after (Color word) segments k p = laid_on word p
held_after Jump segments k p = p
