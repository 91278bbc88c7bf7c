-- A tile's weight. Only proofs lean on this: no promise of a public call does. Definitions only.
use Rattle.std.specs.Prelude.{Bool, true, ◌&&◌, List, ℕ, ◌+◌}
use Rattle.lists.specs.Run.{act_all}
use Rattle.pairs.specs.declared.Pair.{Pair}
use Rattle.lay_pairs.specs.Layout.{fits, jump_count, left_after, own_words}
use Rattle.lay_pairs.specs.Slots.{slots_fit}
use Rattle.tile_list.specs.declared.weigh.Weight.{Weight}

-- a tile's pairs so far: how many, their JUMPs, the words left in the region, and whether all FILLs' slots fit
abbrev pub weight_of : ℕ → ℕ → ℕ → Bool → Weight
weight_of pairs jumps left slots = record { pairs = pairs; jumps = jumps; left = left; slots = slots }

abbrev pub no_weight : Weight
no_weight = weight_of 0 0 own_words true

-- one more
unfoldable pub weigh_pair : ℕ → Pair → Weight → Weight
weigh_pair room p w =
    weight_of (w.pairs + 1) (w.jumps + jump_count (fits p w.left)) (left_after p w.left) (w.slots && slots_fit room p)

abbrev pub weigh_all : ℕ → List Pair → Weight → Weight
weigh_all room ps w = act_all (weigh_pair room) ps w
