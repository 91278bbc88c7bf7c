-- Whether the slots of FILLs fit. docs/RULES.md, refusal 9. Definitions only.
use Rattle.std.specs.Prelude.{Bool, true, ◌&&◌, List, [], ◌∷◌, ℕ, ◌+◌, leb}
use Rattle.panel.specs.Limits.{most_slots}
use Rattle.pairs.specs.declared.Pair.{Pair}
use Rattle.pairs.specs.declared.Pair.TheVariants.{Fill, Solid}

-- a FILL's slots lie within the room named and the limit
abbrev pub slots_fit : ℕ → Pair → Bool
slots_fit room (Fill count rule first backdrop colour) = leb (first + count) room && leb (first + count) most_slots
slots_fit room (Solid colour) = true

abbrev pub all_fit : ℕ → List Pair → Bool
all_fit room [] = true
all_fit room (p ∷ ps) = slots_fit room p && all_fit room ps
