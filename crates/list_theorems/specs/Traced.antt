-- The commands of a list written: its pairs in painting order, with a JUMP before each pair that begins a region, and END. Definitions only.
use Rattle.std.specs.Prelude.{Bool, true, false, List, [], ◌∷◌, ℕ}
use Rattle.panel.specs.Verdict.{Fine}
use Rattle.commands.specs.Moves.{Trace, ends, does}
use Rattle.commands.specs.declared.steps.Act.TheVariants.{Color, Jump}
use Rattle.pairs.specs.Pairs.{cover_of, colour_of}
use Rattle.lay_pairs.specs.Layout.{fits, left_after}
use Rattle.pairs.specs.declared.Pair.{Pair}

abbrev pub jump_then : Bool → Trace → Trace
jump_then true t = t
jump_then false t = does Jump t

-- a pair's two commands
abbrev pub pair_then : Pair → Trace → Trace
pair_then p t = does (cover_of p) (does (Color (colour_of p)) t)

-- with so many words left in the region
unfoldable pub list_trace : ℕ → List Pair → Trace
list_trace left [] = ends Fine
list_trace left (p ∷ ps) = jump_then (fits p left) (pair_then p (list_trace (left_after p left) ps))
