-- How a tile's commands run: which is where, what each is, where the next one stands, and how they end. No pixels here. Definitions only.
use Rattle.std.specs.Prelude.{cond, List, ℕ, zero, suc, ◌+◌, ◌-◌, ◌/◌, leb, eqb, length, get_or, Float}
use Rattle.panel.specs.Refusals.{past_end, unknown, too_long_word}
use Rattle.panel.specs.Verdict.{Verdict}
use Rattle.panel.specs.Verdict.{Fine, Against}
use Rattle.coverage.specs.Ground.{ground_of}
use Rattle.reader.specs.Look.{look_at}
use Rattle.reader.specs.Looked.{Look}
use Rattle.reader.specs.Looked.{Word, Past}
use Rattle.commands.specs.Numbers.{end_no, fill_no, solid_no, color_no, jump_no, fill_words, solid_words, color_words, words_of}
use Rattle.commands.specs.declared.steps.Op.{Op}
use Rattle.commands.specs.declared.steps.Op.TheVariants.{Fill, Solid, Color, Jump, Unknown}
use Rattle.commands.specs.declared.steps.Act.{Act}
use Rattle.commands.specs.declared.steps.Act.TheVariants as Does
use Rattle.commands.specs.Move.{Move}
use Rattle.commands.specs.Move.{Refused, Goes}

-- what a command's first word asks for
unfoldable pub op_of : ℕ → Op
op_of tag = cond (eqb tag fill_no) Fill (cond (eqb tag solid_no) Solid (cond (eqb tag color_no) Color (cond (eqb tag jump_no) Jump Unknown)))

-- a fill's number of segments
abbrev pub count_of : ℕ → ℕ
count_of rule = rule / 2

-- refused by its ground, or what follows
abbrev pub on_ground : Verdict → Move → Move
on_ground Fine m = m
on_ground (Against n) m = Refused n

-- a FILL at `at`: refused as `fill` refuses its segments
unfoldable pub fill_move : List ℕ → List Float → ℕ → Move
fill_move ws segments at =
    let rule = get_or ws (at + 1) 0 in
    let first = get_or ws (at + 2) 0 in
    on_ground (ground_of segments first (count_of rule)) (Goes (Does.Fill rule first (get_or ws (at + 3) 0)) (at + fill_words))

-- a command whose words are all there
unfoldable pub whole_move : Op → List ℕ → List Float → ℕ → Move
whole_move Fill ws segments at = fill_move ws segments at
whole_move Solid ws segments at = Goes Does.Solid (at + solid_words)
whole_move Color ws segments at = Goes (Does.Color (get_or ws (at + 1) 0)) (at + color_words)
whole_move Jump ws segments at = Goes Does.Jump (get_or ws (at + 1) 0)
whole_move Unknown ws segments at = Refused unknown

-- the command at `at`, where a word stands: 14, then 13 for its other words, then as its segments are refused. An unknown one has no other words
unfoldable pub move_of : Op → List ℕ → List Float → ℕ → Move
move_of o ws segments at = cond (leb (words_of o) (length ws - at)) (whole_move o ws segments at) (Refused past_end)

-- a tile's commands, in order: what each does, and how they end
pub data Trace : Type 0 where
  ends : Verdict → Trace
  does : Act → Trace → Trace

abbrev pub on_move : Move → (Act → ℕ → Trace) → Trace
on_move (Refused n) f = ends (Against n)
on_move (Goes a next) f = f a next

-- 13 where no word stands, END, or else a command
abbrev pub on_look : Look → (ℕ → Trace) → Trace
on_look Past f = ends (Against past_end)
on_look (Word w) f = cond (eqb w end_no) (ends Fine) (f w)

-- the commands from `at` on, at most n before END, with these segments lent
unfoldable pub trace_of : ℕ → List ℕ → List Float → ℕ → Trace
unfolding op_of move_of
trace_of zero ws segments at = on_look (look_at ws at) (λ w. ends (Against too_long_word))
trace_of (suc n) ws segments at = on_look (look_at ws at) (λ w. on_move (move_of (op_of w) ws segments at) (λ a next. does a (trace_of n ws segments next)))

-- how they end
abbrev pub end_of : Trace → Verdict
end_of (ends v) = v
end_of (does a t) = end_of t
