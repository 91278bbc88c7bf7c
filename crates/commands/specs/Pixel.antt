-- What a tile's commands do to one pixel: a fold over them by two operations, cover and paint. Definitions only.
use Rattle.std.specs.Prelude.{Bool, cond, List, ℕ, ◌+◌, ◌-◌, ◌*◌, ◌%◌, ◌^◌, ◌≤◌, eqb, ltb, ℤ, pos, negsuc, get_or, Float}
use Rattle.std.specs.Float.{nan}
use Rattle.util.specs.Constants.{zero, one}
use Rattle.lists.specs.Grid.{mapi}
use Rattle.panel.specs.Limits.{most_commands}
use Rattle.panel.specs.Widths.{segment_floats}
use Rattle.panel.specs.Verdict.{Verdict}
use Rattle.coverage.specs.Coverage.{pixel_of}
use Rattle.colours.specs.Colour.{colour_of, over_of}
use Rattle.commands.specs.Moves.{count_of, Trace, ends, does, trace_of, end_of}
use Rattle.commands.specs.declared.steps.Act.{Act}
use Rattle.commands.specs.declared.steps.Act.TheVariants.{Fill, Solid, Color, Jump}

-- 32 bits as a signed number
unfoldable pub signed_of : ℕ → ℤ
signed_of w = cond (ltb w (2 ^ 31)) (pos w) (negsuc (2 ^ 32 - 1 - w))

-- a fill's rule: even-odd where the lowest bit is set
abbrev pub even_odd_of : ℕ → Bool
even_odd_of rule = eqb (rule % 2) 1

-- the area a of pixel k after a command: a fill's coverage, by tile-relative segments, or 1, or the area that there was
unfoldable pub cover : Act → List Float → ℕ → Float → Float
cover (Fill rule first backdrop) segments k a = pixel_of segments first (count_of rule) (even_odd_of rule) (signed_of backdrop) zero zero k
cover Solid segments k a = one
cover (Color word) segments k a = a
cover Jump segments k a = a

-- a pixel's colour after a command, where the pixel's area is a
unfoldable pub paint : Act → Float → List Float → List Float
paint (Fill rule first backdrop) a colour = colour
paint Solid a colour = colour
paint (Color word) a colour = over_of (colour_of word) a colour
paint Jump a colour = colour

-- a pixel: its area and its colour
pub record Point : Type 0 where
  pub area : Float
  pub colour : List Float

abbrev pub point : Float → List Float → Point
point a c = record { area = a; colour = c }

-- pixel k after all the commands
unfoldable pub point_of : List Float → ℕ → Trace → Point → Point
point_of segments k (ends v) p = p
point_of segments k (does act t) p = point_of segments k t (point (cover act segments k p.area) (paint act p.area p.colour))

-- ---- all of a tile's pixels

-- areas and colours after one command
unfoldable pub cover_all : Act → List Float → List Float → List Float
cover_all act segments area = mapi (cover act segments) area

unfoldable pub paint_all : Act → List Float → List (List Float) → List (List Float)
paint_all act area rgba = mapi (λ k colour. paint act (get_or area k nan) colour) rgba

-- whether a fill's segments are among so many floats of segments
abbrev pub Within : Act → ℕ → Type 0
Within (Fill rule first backdrop) n = segment_floats * (first + count_of rule) ≤ n
Within Solid n = Unit {0}
Within (Color word) n = Unit {0}
Within Jump n = Unit {0}

-- after a tile's commands: how they ended, and the colours
pub record Ran : Type 0 where
  pub end : Verdict
  pub rgba : List (List Float)

abbrev pub ran : Verdict → List (List Float) → Ran
ran v rgba = record { end = v; rgba = rgba }

-- the commands from the word `start` on, over the colours there were, each pixel's area 0 at first
unfoldable pub run_of : List ℕ → List Float → ℕ → List (List Float) → Ran
run_of words segments start rgba =
    let t = trace_of most_commands words segments start in
    ran (end_of t) (mapi (λ k colour. (point_of segments k t (point zero colour)).colour) rgba)
