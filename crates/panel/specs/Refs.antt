-- A reference's words among those lent: counting writes them, tiling reads them. docs/RULES.md, "How the records are lent". Definitions only.
use Rattle.std.specs.Prelude.{List, ℕ, ◌+◌, ◌*◌, ◌/◌, ◌%◌, get_or, set}
use Rattle.panel.specs.Widths.{ref_words, step_range}

-- reference k: its line, and its second word
abbrev pub line_at : List ℕ → ℕ → ℕ
line_at refs k = get_or refs (k * ref_words) 0

abbrev pub packed_at : List ℕ → ℕ → ℕ
packed_at refs k = get_or refs (k * ref_words + 1) 0

-- the second word: the slice number times `step_range`, plus the step number
abbrev pub packed : ℕ → ℕ → ℕ
packed slice i = slice * step_range + i

abbrev pub step_no : ℕ → ℕ
step_no word = word % step_range

abbrev pub slice_no : ℕ → ℕ
slice_no word = word / step_range

-- reference k into its place
abbrev pub put_ref : ℕ → ℕ → ℕ → List ℕ → List ℕ
put_ref k line word refs = set (set refs (ref_words * k) line) (ref_words * k + 1) word
