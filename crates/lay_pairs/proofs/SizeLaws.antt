-- A pair always fits an empty region with a JUMP after it, so a JUMP's words are always left, and END has room. Assumes nothing.
use mathlib.Core.Path.{◌≡◌, refl}
use mathlib.Core.Bool.{Bool, true, false}
use Prim.Native.Nat.{ℕ, ◌+◌, ◌-◌, ◌≤◌}
use native.Mathlib.Omega.{arith}
use borrow.Author.Tests.{leb-true}
use Rattle.commands.specs.Numbers.{jump_words, tile_words}
use Rattle.lay_pairs.specs.Layout.{pair_size, fits, jump_count, left_at, left_after, own_words}
use Rattle.pairs.specs.declared.Pair.{Pair}
use Rattle.pairs.specs.declared.Pair.TheVariants.{Fill, Solid}

pub pair_small : (p : Pair) → pair_size p + jump_words ≤ own_words
pair_small (Fill count rule first backdrop colour) = omega arith
pair_small (Solid colour) = omega arith

pub jump_small : (b : Bool) → jump_count b ≤ 1
jump_small true = omega arith
jump_small false = omega arith

pub left_fits : (p : Pair) (left : ℕ) → pair_size p + jump_words ≤ left_at (fits p left) left
left_fits p left = go (fits p left) refl
  where
    go : (b : Bool) → fits p left ≡ b → pair_size p + jump_words ≤ left_at b left
    go true e = leb-true (pair_size p + jump_words) left e
    go false e = omega (arith, pair_small p)

pub left_small : (p : Pair) (left : ℕ) → left ≤ tile_words → left_after p left ≤ tile_words
left_small p left h = go (fits p left)
  where
    go : (b : Bool) → left_at b left - pair_size p ≤ tile_words
    go true = omega arith
    go false = omega arith
