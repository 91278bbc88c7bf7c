-- A stretch of the lines lent to a recount: those of its path that are numbered one after the other; and why a line of another path is refused. Only
-- proofs lean on this: no promise of a public call does. Definitions only.
use Rattle.std.specs.Prelude.{◌≡◌, cond, List, ℕ, ◌+◌, ◌<◌, ◌≤◌, ◌^◌, leb, length, get_or}
use Rattle.panel.specs.Limits.{most_lines}
use Rattle.panel.specs.Refusals.{line_number, coordinate, no_such}
use Rattle.panel.specs.declared.lines.LineEnds.{LineEnds}
use Rattle.walk.specs.Lent.{reached_of}

-- each of the n lines from line k on is of path p, and has the number of the first and as many more as it stands after it
abbrev pub InOrder : (p : ℕ) (line_nos nos : List ℕ) (k n : ℕ) → Type 0
InOrder p line_nos nos k n = (j : ℕ) → j < n → (get_or nos (k + j) 0 ≡ p) × (get_or line_nos (k + j) 0 ≡ get_or line_nos k 0 + j)

-- so many such lines are there, and one at least where line k is of path p
pub record Stretch (p : ℕ) (line_nos nos : List ℕ) (k n : ℕ) : Type 0 where
  pub lent : k + n ≤ length nos
  pub order : InOrder p line_nos nos k n
  pub fits : get_or line_nos k 0 + n ≤ 2 ^ 32
  pub other : n ≡ 0 → get_or nos k 0 ≡ p → ⊥

-- why a line of another path is refused
abbrev pub other_no : ℕ → LineEnds → ℕ
other_no l e = cond (leb most_lines l) line_number (cond (reached_of e.p0 e.p1) no_such coordinate)
