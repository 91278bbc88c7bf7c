-- Lines that make closed outlines. Definitions only.
use Rattle.std.specs.Prelude.{◌≡◌, List, ℕ, ◌*◌, ◌≤◌, ◌<◌, T, length, get_or, Float}
use Rattle.std.specs.Float.{nan, binary32}
use Rattle.std.specs.Float.Ieee.{fits}
use Rattle.panel.specs.Widths.{line_floats}
use Rattle.outlines.specs.Outlines.{first_open}

-- as many coordinates as the lines need, each an f32, as all that is lent is; and no outline stands open
pub record Closed (nos : List ℕ) (fs : List Float) : Type 0 where
  pub lent : length nos * line_floats ≤ length fs
  pub floats : (k : ℕ) → k < length fs → T (fits binary32 (get_or fs k nan))
  pub none_open : first_open nos fs ≡ length nos
