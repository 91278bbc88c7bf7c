-- A reference by the z's that are carried from the reference before it. Only proofs lean on this: no promise of a public call does. Definitions only.
use Rattle.std.specs.Prelude.{ℕ, ◌≡◌, List, get_or}
use Rattle.panel.specs.Refusals.{outside}
use Rattle.carry.specs.Carry.{zs_of, Carried}
use Rattle.carry.specs.declared.Zs.{Zs}
use Rattle.walk.specs.Stepped.{Step}
use Rattle.walk.specs.Stepped as On
use Rattle.walk.specs.Walked.{Walked}
use Rattle.walk.specs.Walked as Found
use Rattle.segment.specs.Piece.{Piece}
use Rattle.looks.specs.Look.{word_to}
use Rattle.looks.specs.Looked.{Look, Against}

-- a step, and its piece as it was made
unfoldable pub step_by_word : List ℕ → ℕ → ℕ → Piece → Step → Look
step_by_word stored slots slice piece (On.Tile t x y z) = word_to slots (get_or stored t.0 0) slice piece
step_by_word stored slots slice piece On.Refused = Against outside

-- what may be carried along a line that was found
abbrev pub Carries : Zs → Walked → Type 0
Carries s (Found.Line w p) = Carried w.pace s
Carries s Found.Skipped = Unit {0}
Carries s (Found.Refused why) = Unit {0}

-- the z's of its step i
abbrev pub HasZs : ℕ → Zs → Walked → Type 0
HasZs i s (Found.Line w p) = s ≡ zs_of w.pace i
HasZs i s Found.Skipped = Unit {0}
HasZs i s (Found.Refused why) = Unit {0}
