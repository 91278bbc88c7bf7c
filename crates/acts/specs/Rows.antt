-- The row marks of a line as a value of the code. Definitions only.
use Rattle.std.specs.Prelude.{List, ℕ, ◌+◌, ◌-◌, ◌*◌, ◌<◌, ◌≤◌}
use Rattle.panel.specs.Limits.{most_tiles}
use Rattle.acts.specs.Acts.{Act, row_acts}
use Rattle.acts.specs.declared.rows.Rows.{Rows}

-- rows low .. high, upward in y
abbrev pub rows_acts : Rows → List Act
rows_acts r = row_acts r.first r.top r.width (r.high - r.low) r.low

-- the rows lie in a box whose tiles are among the n lent: its bottom row is bottom
pub record RowsIn (r : Rows) (n : ℕ) : Type 0 where
  pub bottom : ℕ
  pub below_top : r.top ≤ r.low
  pub above_bottom : r.high ≤ bottom
  pub wide : 0 < r.width
  pub tiles : r.first + r.width * (bottom - r.top) ≤ n
  pub few : n ≤ most_tiles
