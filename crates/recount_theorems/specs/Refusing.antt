-- When a recount says no: the ground of each refusal. Definitions only.
use Rattle.std.specs.Prelude.{◌≡◌, ◌≢◌, List, ℕ, ◌≤◌, ◌<◌, length, get_or, Float}
use Rattle.lists.specs.Run.{halted, done}
use Rattle.panel.specs.Limits.{most_lines}
use Rattle.panel.specs.Refusals.{line_number, coordinate, no_such}
use Rattle.panel.specs.Checks.{first_no}
use Rattle.panel.specs.Paths.{paths_answer}
use Rattle.panel.specs.Verdict.{Fine}
use Rattle.panel.specs.Answer.{Done}
use Rattle.panel.specs.Lines.{line_at}
use Rattle.acts.specs.Acts.{St}
use Rattle.acts.specs.Line.{Refusal, batch_of}
use Rattle.new_lines.specs.Own.{own_step}
use Rattle.recount.specs.Recount.{lent_checks, range_checks}
use Rattle.theorems.specs.Refusing.{RowWhy, PathsWhy, BadEnds, LineWhy}
use Rattle.recount_theorems.specs.Lines.{lent_nos, lent_coords}

-- before the lines: the first check that fails, in order
pub data AskedWhy (p : ℕ) (paths : List ℕ) (nl nn nc nb nt nr kb kc n item : ℕ) : Type 0 where
  -- 1, of what needs no path
  lent : item ≡ 0 → RowWhy n (lent_checks nl nn nc nb nt nr) → AskedWhy p paths nl nn nc nb nt nr kb kc n item
  -- 1 to 4, of the paths
  path : first_no (lent_checks nl nn nc nb nt nr) ≡ Fine → PathsWhy paths nt n item → AskedWhy p paths nl nn nc nb nt nr kb kc n item
  -- 7, a path not there; then 1, a kept slice not as long as the range
  range : first_no (lent_checks nl nn nc nb nt nr) ≡ Fine → paths_answer paths nt ≡ Done → item ≡ 0 → RowWhy n (range_checks p paths kb kc)
      → AskedWhy p paths nl nn nc nb nt nr kb kc n item

-- the line at place k, as line number l
pub data OwnWhy (p : ℕ) (nos : List ℕ) (coords : List Float) (paths : List ℕ) (room l k : ℕ) (s : St) (n : ℕ) : Type 0 where
  -- of the path named: as counting has it
  counting : get_or nos k 0 ≡ p → LineWhy (lent_nos nos k l) (lent_coords coords k l) paths room l s n → OwnWhy p nos coords paths room l k s n
  -- of another path: 5 and 6 first, then 7
  five : n ≡ line_number → get_or nos k 0 ≢ p → most_lines ≤ l → OwnWhy p nos coords paths room l k s n
  six : n ≡ coordinate → get_or nos k 0 ≢ p → l < most_lines → BadEnds (line_at coords k) → OwnWhy p nos coords paths room l k s n
  seven : n ≡ no_such → get_or nos k 0 ≢ p → l < most_lines → (BadEnds (line_at coords k) → ⊥) → OwnWhy p nos coords paths room l k s n

-- the lines stop before the first that is refused: those before it are done and leave u
pub record LinesWhy (p : ℕ) (line_nos nos : List ℕ) (coords : List Float) (paths : List ℕ) (room : ℕ) (s u : St) (why : Refusal) : Type 0 where
  pub inside : why.line < length nos
  pub ran : batch_of (λ k. own_step p nos coords paths room (get_or line_nos k 0) k) 0 why.line s ≡ done u
  pub halts : own_step p nos coords paths room (get_or line_nos why.line 0) why.line u ≡ halted why.no
