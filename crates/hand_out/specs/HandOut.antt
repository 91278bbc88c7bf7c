-- Hand-out: over the tiles in rising order, a tile with count n above 0 takes the next n slots and holds the bitwise NOT of its first; an empty
-- tile holds 0. The counts are kept in the tally. docs/RULES.md, "The walk of a line". Definitions only.
use Rattle.std.specs.Prelude.{◌≡◌, List, [], ◌∷◌, ℕ, zero, suc, ◌+◌, eqb, leb, length}
use Rattle.lists.specs.Sums.{sum}
use Rattle.panel.specs.Limits.{most_tiles, most_slots}
use Rattle.panel.specs.Refusals.{not_whole, too_many, no_room_word}
use Rattle.panel.specs.Kinds.{paper_of}
use Rattle.panel.specs.Slots.{not32}
use Rattle.panel.specs.Checks.{Check, check, first_no}
use Rattle.panel.specs.Verdict.{Verdict}
use Rattle.panel.specs.Verdict.{Fine, Against}
use Rattle.panel.specs.Answer.{Answer}
use Rattle.panel.specs.Answer.{Done, Refused}

-- what a tile with that count and that first slot holds
abbrev pub word_for : ℕ → ℕ → ℕ
word_for zero f = 0
word_for (suc n) f = not32 f

-- what the tiles with these counts hold, when f is the next slot
abbrev pub hand : ℕ → List ℕ → List ℕ
hand f [] = []
hand f (n ∷ ns) = word_for n f ∷ hand (f + n) ns

-- what a call leaves: its answer on paper, the stored words and the tally
pub record Out : Type 0 where
  pub paper : List ℕ
  pub stored : List ℕ
  pub tally : List ℕ

abbrev pub out_of : Answer → List ℕ → List ℕ → Out
out_of a ts ks = record { paper = paper_of a; stored = ts; tally = ks }

-- counts ns with a tally of `kept` words: the slices are equally long and not too many, and the sum is within the room named and the limit
abbrev pub hand_checks : ℕ → List ℕ → ℕ → List Check
hand_checks room ns kept =
    check (eqb (length ns) kept) not_whole
    ∷ check (leb (length ns) most_tiles) too_many
    ∷ check (leb (sum ns) room) no_room_word
    ∷ check (leb (sum ns) most_slots) no_room_word
    ∷ []

-- a refusal changes nothing, and names no tile
abbrev pub on_fine : Verdict → List ℕ → List ℕ → Out
on_fine Fine ns kept = out_of Done (hand 0 ns) ns
on_fine (Against n) ns kept = out_of (Refused n 0) ns kept

unfoldable pub hand_out_of : ℕ → List ℕ → List ℕ → Out
hand_out_of room ns kept = on_fine (first_no (hand_checks room ns (length kept))) ns kept

-- the call's promise: the answer r, the stored words and the tally afterwards are these
abbrev pub HandMet : ℕ → (ns kept : List ℕ) → Answer → (ns' kept' : List ℕ) → Type 0
HandMet room ns kept r ns' kept' = out_of r ns' kept' ≡ hand_out_of room ns kept
