-- A line's floats among those lent. docs/RULES.md, "How the records are lent". Definitions only.
use Rattle.std.specs.Prelude.{List, [], ◌∷◌, ℕ, ◌+◌, ◌*◌, get_or, Float}
use Rattle.std.specs.Float.{nan}
use Rattle.panel.specs.Widths.{line_floats}
use Rattle.panel.specs.declared.lines.LineEnds.{LineEnds}

-- line l's two points
unfoldable pub line_at : List Float → ℕ → LineEnds
line_at fs l =
    let at = l * line_floats in
    record {
      p0 = record { x = get_or fs at nan; y = get_or fs (at + 1) nan };
      p1 = record { x = get_or fs (at + 2) nan; y = get_or fs (at + 3) nan };
    }

-- a line's floats, in the order of their places
abbrev pub line_record : (x0 y0 x1 y1 : Float) → List Float
line_record x0 y0 x1 y1 = x0 ∷ y0 ∷ x1 ∷ y1 ∷ []

abbrev pub line_record_of : LineEnds → List Float
line_record_of e = line_record e.p0.x e.p0.y e.p1.x e.p1.y
