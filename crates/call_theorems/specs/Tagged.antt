-- What a list's FILL and a slot's tag have to do with each other. Definitions only.
use Rattle.std.specs.Prelude.{◌≡◌, List, ℕ, ◌+◌, ◌<◌}
use Rattle.panel.specs.Paths.{beam_at}
use Rattle.panel.specs.Pieces.{Pieces}
use Rattle.pairs.specs.declared.Pair.{Pair}
use Rattle.pairs.specs.declared.Pair.TheVariants.{Fill, Solid}
use Rattle.theorems.specs.Stray.{tag_at}

-- what path p puts on a tile: every slot of a FILL carries p's beam number
abbrev pub Tagged : List ℕ → Pieces → ℕ → Pair → Type 0
Tagged paths q p (Fill count rule first backdrop colour) = (j : ℕ) → j < count → tag_at q (first + j) ≡ beam_at paths p
Tagged paths q p (Solid colour) = Unit {0}
