-- How many fresh regions a tile's list takes at most: one for every so many pairs as a region surely holds. Assumes nothing.
use mathlib.Core.Path.{◌≡◌, refl}
use mathlib.Core.Bool.{Bool, true, false}
use mathlib.Core.List.{List, [], ◌∷◌}
use Prim.Native.Nat.{ℕ, suc, ◌+◌, ◌-◌, ◌*◌, ◌/◌, ◌≤◌}
use native.Mathlib.Omega.{arith}
use lib.ListN.{length}
use borrow.Author.Tests.{leb-true, leb-false}
use Rattle.commands.specs.Numbers.{fill_words, color_words, jump_words, tile_words}
use Rattle.lay_pairs.specs.Layout.{pair_size, fits, jump_count, left_at, jumps_of, own_words}
use Rattle.pairs.specs.declared.Pair.{Pair}
use Rattle.pairs.specs.declared.Pair.TheVariants.{Fill, Solid}
use Rattle.sizes.specs.Words.{region_pairs}

pair_most : (p : Pair) → pair_size p ≤ fill_words + color_words
pair_most (Fill count rule first backdrop colour) = omega arith
pair_most (Solid colour) = omega arith

-- the pairs that so many words surely hold, with a JUMP
abbrev holds : ℕ → ℕ
holds left = (left - jump_words) / (fill_words + color_words)

jumps_by : (ps : List Pair) (left : ℕ) → left ≤ tile_words → region_pairs * jumps_of left ps + holds left ≤ length ps + region_pairs
jumps_by [] left h = omega arith
jumps_by (p ∷ ps) left h = go (fits p left) refl (jumps_by ps)
  where
    go : (b : Bool) → fits p left ≡ b → ((left : ℕ) → left ≤ tile_words → region_pairs * jumps_of left ps + holds left ≤ length ps + region_pairs)
        → region_pairs * (jump_count b + jumps_of (left_at b left - pair_size p) ps) + holds left ≤ suc (length ps) + region_pairs
    go true e ih = omega (arith, pair_most p, leb-true (pair_size p + jump_words) left e, ih (left - pair_size p) (omega arith))
    go false e ih = omega (arith, pair_most p, leb-false (pair_size p + jump_words) left e, ih (tile_words - pair_size p) (omega arith))

pub jumps_most : (ps : List Pair) → region_pairs * jumps_of own_words ps ≤ length ps
jumps_most ps = omega (arith, jumps_by ps own_words (omega arith))
