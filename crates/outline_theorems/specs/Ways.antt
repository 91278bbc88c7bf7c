-- The ways in which the call `outlines` can end: its answer, the ground of it, and the working room afterwards. docs/RULES.md, "Closed outlines". Definitions only.
use Rattle.std.specs.Prelude.{◌≡◌, true, false, List, ℕ, ◌*◌, ◌≤◌, ◌<◌, length, get_or, Float}
use Rattle.panel.specs.Limits.{most_paths, most_lines}
use Rattle.panel.specs.Refusals.{not_whole, too_many, line_number, no_such, no_room_word, left_open}
use Rattle.panel.specs.Widths.{line_floats}
use Rattle.panel.specs.Answer.{Answer, Done, Refused}
use Rattle.outlines.specs.Outlines as Outlines
use Rattle.outlines.specs.Call.{room_words, cleared}

-- coordinates four to each path number, no more paths than may be, and room for them
pub record Lent (nos : List ℕ) (fs : List Float) (paths : ℕ) (work : List ℕ) : Type 0 where
  pub whole : length fs ≡ length nos * line_floats
  pub few : paths ≤ most_paths
  pub room : paths * room_words ≤ length work

-- no more lines than have numbers, each of a path that is there
pub record Good (nos : List ℕ) (paths : ℕ) : Type 0 where
  pub few : length nos ≤ most_lines
  pub there : (l : ℕ) → l < length nos → get_or nos l 0 < paths

-- no outline stands open after a line below n
abbrev pub NoneOpen : (nos : List ℕ) (fs : List Float) → ℕ → Type 0
NoneOpen nos fs n = (l : ℕ) → l < n → Outlines.left_open nos fs l ≡ false

pub data OutlinesWay (nos : List ℕ) (fs : List Float) (paths : ℕ) (work : List ℕ) (a : Answer) (work' : List ℕ) : Type 0 where
  -- 1, 2 and 9, in this order; nothing changes
  unwhole : a ≡ Refused not_whole 0 → (length fs ≡ length nos * line_floats → ⊥) → work' ≡ work → OutlinesWay nos fs paths work a work'
  many : a ≡ Refused too_many 0 → length fs ≡ length nos * line_floats → most_paths < paths → work' ≡ work → OutlinesWay nos fs paths work a work'
  roomless : a ≡ Refused no_room_word 0 → length fs ≡ length nos * line_floats → paths ≤ most_paths → length work < paths * room_words → work' ≡ work
      → OutlinesWay nos fs paths work a work'
  -- 5: one line more than have numbers, all before it of paths that are there
  numberless : a ≡ Refused line_number most_lines → Lent nos fs paths work → most_lines < length nos → ((l : ℕ) → l < most_lines → get_or nos l 0 < paths) → work' ≡ work
      → OutlinesWay nos fs paths work a work'
  -- 7: the first line of a path that isn't there
  nowhere : (l : ℕ) → a ≡ Refused no_such l → Lent nos fs paths work → l < length nos → l < most_lines → paths ≤ get_or nos l 0 → ((k : ℕ) → k < l → get_or nos k 0 < paths)
      → work' ≡ work → OutlinesWay nos fs paths work a work'
  -- 23: the first line after which an outline stands open
  ajar : (l : ℕ) → a ≡ Refused left_open l → Lent nos fs paths work → Good nos paths → l < length nos → Outlines.left_open nos fs l ≡ true → NoneOpen nos fs l
      → work' ≡ cleared (paths * room_words) work → OutlinesWay nos fs paths work a work'
  -- done: no outline stands open
  closed : a ≡ Done → Lent nos fs paths work → Good nos paths → NoneOpen nos fs (length nos) → work' ≡ cleared (paths * room_words) work
      → OutlinesWay nos fs paths work a work'
