-- A colour laid over a row as it is packed: what the functions of src/lib.rt tell each other; no promise leans on it. Definitions only.
use Rattle.std.specs.Prelude.{List, [], ℕ, get_or, Float}
use Rattle.std.specs.Float.{nan}
use Rattle.colours.specs.Colour.{over_of}
use Rattle.screen_rows.specs.Rows.{packed}

-- the colour fg over one colour, and over each pixel's own, by the pixel's area, packed: what the functions of a row tell each other, no promise leans on it
abbrev pub from_one : List Float → List Float → List Float → ℕ → ℕ → ℕ → ℕ
from_one area fg one width p old = packed (λ k. over_of fg (get_or area k nan) one) width p old

abbrev pub from_each : List Float → List Float → List (List Float) → ℕ → ℕ → ℕ → ℕ
from_each area fg rgba width p old = packed (λ k. over_of fg (get_or area k nan) (get_or rgba k [])) width p old
