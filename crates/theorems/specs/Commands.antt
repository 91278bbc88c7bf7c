-- When a screen tile's commands are refused: 13, 14, 15, 20. docs/RULES.md: "For each command: 13 for its first word, END, 15, 14, 13 for its other words, 13
-- for its segments". Definitions only.
use Rattle.std.specs.Prelude.{◌≡◌, ◌≢◌, ◌⊎◌, List, ℕ, zero, suc, ◌+◌, ◌-◌, ◌/◌, ◌≤◌, ◌<◌, length, get_or, Float}
use Rattle.panel.specs.Refusals.{past_end, bad_segment, unknown, too_long_word}
use Rattle.panel.specs.Segments.{segment_at, Straight}
use Rattle.panel.specs.Widths.{segment_floats}
use Rattle.commands.specs.Numbers.{end_no, words_of}
use Rattle.commands.specs.Moves.{op_of, count_of, move_of}
use Rattle.commands.specs.declared.steps.Op.{Op}
use Rattle.commands.specs.declared.steps.Op.TheVariants.{Fill, Solid, Color, Jump, Unknown}
use Rattle.commands.specs.declared.steps.Act.{Act}
use Rattle.commands.specs.Move.{Goes}

-- one of the m segments from the first on is crooked: an end outside its tile, or a y_edge not finite
abbrev pub Crooked : List Float → (first m : ℕ) → Type 0
Crooked segs first m = (j : ℕ) × (j < m) × (Straight (segment_at segs (first + j)) → ⊥)

-- a fill's segments, m from the first on: 13 where the first plus their number is over the segments lent; 20 where it isn't, and one is crooked
abbrev pub GroundWhy : List Float → (first m n : ℕ) → Type 0
GroundWhy segs first m n =
    ((n ≡ past_end) × (length segs / segment_floats < first + m)) ⊎ ((n ≡ bad_segment) × (first + m ≤ length segs / segment_floats) × Crooked segs first m)

-- a command whose words are all there: 14 where it is unknown; a fill's as its segments are refused
abbrev pub WholeWhy : Op → List ℕ → List Float → ℕ → ℕ → Type 0
WholeWhy Fill ws segs at n = GroundWhy segs (get_or ws (at + 2) 0) (count_of (get_or ws (at + 1) 0)) n
WholeWhy Solid ws segs at n = ⊥
WholeWhy Color ws segs at n = ⊥
WholeWhy Jump ws segs at n = ⊥
WholeWhy Unknown ws segs at n = n ≡ unknown

-- a command at `at`: 13 where its words go past the end; an unknown one is one word
abbrev pub MoveWhy : Op → List ℕ → List Float → ℕ → ℕ → Type 0
MoveWhy o ws segs at n = ((n ≡ past_end) × (length ws - at < words_of o)) ⊎ ((words_of o ≤ length ws - at) × WholeWhy o ws segs at n)

-- the commands from `at` on, with k more allowed before END: 13 where no word stands there; else, where it isn't END, 15 where none is allowed; its own
-- refusal; or, where it goes on, that of those after it
abbrev pub TraceWhy : ℕ → List ℕ → List Float → ℕ → ℕ → Type 0
TraceWhy zero ws segs at n = ((n ≡ past_end) × (length ws ≤ at)) ⊎ ((at < length ws) × (get_or ws at 0 ≢ end_no) × (n ≡ too_long_word))
TraceWhy (suc k) ws segs at n =
    ((n ≡ past_end) × (length ws ≤ at))
    ⊎ ((at < length ws) × (get_or ws at 0 ≢ end_no)
    × (MoveWhy (op_of (get_or ws at 0)) ws segs at n
    ⊎ ((a : Act) × (next : ℕ) × (move_of (op_of (get_or ws at 0)) ws segs at ≡ Goes a next) × TraceWhy k ws segs next n)))
