-- What the functions of this crate tell each other. Only proofs lean on it: no promise of a public call does. Definitions only.
use Rattle.std.specs.Prelude.{◌≡◌, Bool, false, cond, ◌||◌, List, ℕ, ◌+◌, ◌-◌, ◌*◌, ◌≤◌, ◌<◌, min, eqb, length, get_or, set, Float}
use Rattle.panel.specs.Limits.{most_lines}
use Rattle.panel.specs.Widths.{line_floats}
use Rattle.outlines.specs.Outlines.{last_of, before, reaches, goes_on, head_of, meets}
use Rattle.outlines.specs.Call.{room_words}

-- line l is lent
abbrev pub Lent : List Float → ℕ → Type 0
Lent fs l = l * line_floats + line_floats ≤ length fs

-- path p has its words in the room: the first line of its last outline; its last line, and 1
abbrev pub HasWords : List ℕ → ℕ → Type 0
HasWords ws p = p * room_words + room_words ≤ length ws

-- the room after the first i lines
pub record Noted (nos : List ℕ) (fs : List Float) (i : ℕ) (ws : List ℕ) : Type 0 where
  pub lasts : (p : ℕ) → HasWords ws p → get_or ws (p * room_words + 1) 0 ≡ last_of nos p i
  pub heads : (p : ℕ) → HasWords ws p → 0 < last_of nos p i → get_or ws (p * room_words) 0 ≡ head_of nos fs (last_of nos p i - 1)

-- one line more: path p's words
abbrev pub turned : (fs : List Float) (ws : List ℕ) (p i : ℕ) → List ℕ
turned fs ws p i =
    let at = p * room_words in
    set (set ws at (cond (reaches fs (get_or ws (at + 1) 0) i) (get_or ws at 0) i)) (at + 1) (i + 1)

-- the least line found so far, held against one more, told as one more: unless that is none, or its outline goes on or is closed
unfoldable pub sooner_of : (best last : ℕ) (fine : Bool) → ℕ
sooner_of best last fine = cond (fine || eqb last 0) best (min best (last - 1))

abbrev pub turned_best : (fs : List Float) (ws : List ℕ) (p i best : ℕ) → ℕ
turned_best fs ws p i best =
    let at = p * room_words in
    let last = get_or ws (at + 1) 0 in
    sooner_of best last (reaches fs last i || reaches fs last (get_or ws at 0))

-- line l's outline stands open after it, and another line of its path, among the first i, begins a new one
pub record Ended (nos : List ℕ) (fs : List Float) (i l : ℕ) : Type 0 where
  pub by : ℕ
  pub early : by < i
  pub next : before nos by ≡ l + 1
  pub apart : goes_on nos fs by ≡ false
  pub ajar : meets fs l (head_of nos fs l) ≡ false

-- the least of them below n; n where there is none
pub record LeastEnded (nos : List ℕ) (fs : List Float) (i n r : ℕ) : Type 0 where
  pub most : r ≤ n
  pub ended : r < n → Ended nos fs i r
  pub none : (l : ℕ) → l < r → Ended nos fs i l → ⊥

-- what is lent once all is checked
pub record Ready (nos : List ℕ) (fs : List Float) (ws : List ℕ) : Type 0 where
  pub few : length nos ≤ most_lines
  pub lines : length nos * line_floats ≤ length fs
  pub words : (l : ℕ) → l < length nos → HasWords ws (get_or nos l 0)

-- no path has a line yet
abbrev pub Clear : List ℕ → Type 0
Clear ws = (k : ℕ) → get_or ws k 0 ≡ 0

-- after all lines
pub record Passed (nos : List ℕ) (fs : List Float) (ws ws' : List ℕ) (r : ℕ) : Type 0 where
  pub same_length : length ws' ≡ length ws
  pub noted : Noted nos fs (length nos) ws'
  pub least : LeastEnded nos fs (length nos) (length nos) r
