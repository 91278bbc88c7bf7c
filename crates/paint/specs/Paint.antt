-- The lists and the pixels, over what a frame left: what a drawing answers, and the two parts after a frame's, each by its own definition, up to the first
-- that refuses. docs/RULES.md, "From lines to pixels". Definitions only.
use Rattle.std.specs.Prelude.{List, [], ◌∷◌, ℕ, ◌*◌, length, Float}
use Rattle.panel.specs.Refusals.{done_no}
use Rattle.panel.specs.declared.kinds.Running.{Running}
use Rattle.panel.specs.Answer.{Answer}
use Rattle.panel.specs.Answer as Answer
use Rattle.path_tiling.specs.Tiling.{slots_of}
use Rattle.frame.specs.Frame.{answer_on}
use Rattle.pairs.specs.Pairs.{Tables}
use Rattle.write_lists.specs.Lists.{write_lists_of}
use Rattle.fine.specs.Fine.{fine_of}
use Rattle.paint.specs.Parts.{lists_no, fine_no}
use Rattle.paint.specs.Drawn.{Drawn}
use Rattle.paint.specs.Drawn.{Done, Refused}

-- ---- the answer on paper

-- as a frame's: the number, then of a refusal the part's and the item's, then lines and references counted
abbrev pub paper_of : Drawn → List ℕ
paper_of (Done s) = done_no ∷ s.lines ∷ s.refs ∷ []
paper_of (Refused at n item s) = n ∷ at ∷ item ∷ s.lines ∷ s.refs ∷ []

-- ---- the lists and the pixels

-- the answer on paper, the words and the pixels afterwards
pub record Painted : Type 0 where
  pub paper : List ℕ
  pub words : List ℕ
  pub pixels : List ℕ

abbrev pub paint_of : Drawn → List ℕ → List ℕ → Painted
paint_of d words pixels = record { paper = paper_of d; words = words; pixels = pixels }

-- a part that is done goes on; one that refused ends the call, with what it left
abbrev pub go_on : Answer → ℕ → Running → (Drawn → Painted) → Painted → Painted
go_on Answer.Done at s ends next = next
go_on (Answer.Refused n item) at s ends next = ends (Refused at n item s)

-- over what a done frame left: the lists, with as much room for slots as segments are lent; then all screen tiles
unfoldable pub painted_of : Running → Tables → (segments : List Float) (width cols rows : ℕ) (words pixels : List ℕ) → Painted
painted_of s t segments width cols rows words pixels =
    let l = write_lists_of t cols rows (slots_of (length segments)) words in
    let f = fine_of l.words segments width cols rows 0 (cols * rows) pixels in
    go_on (answer_on l.paper) lists_no s (λ d. paint_of d l.words pixels)
    (go_on (answer_on f.answer) fine_no s (λ d. paint_of d l.words f.pixels)
    (paint_of (Done s) l.words f.pixels))
