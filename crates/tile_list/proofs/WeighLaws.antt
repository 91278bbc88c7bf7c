-- A tile's weight, pair by pair, comes to its pairs, its JUMPs and whether its slots fit. Assumes nothing.
use mathlib.Core.Path.{◌≡◌, sym, ap, ◌∙◌}
use mathlib.Core.Bool.{Bool, ◌&&◌, and-true, and_assoc}
use mathlib.Core.List.{List, [], ◌∷◌, ◌++◌}
use Prim.Native.Nat.{ℕ, ◌+◌, ◌-◌, ◌≤◌}
use native.Mathlib.Omega.{arith}
use lib.ListN.{length}
use Rattle.lists.specs.Run.{act_all_append}
use Rattle.commands.specs.Numbers.{tile_words}
use Rattle.pairs.specs.Pairs.{Tables, on_path, pairs_of, put_list}
use Rattle.lay_pairs.specs.Layout.{pair_size, fits, jump_count, left_at, jumps_of}
use Rattle.lay_pairs.specs.Slots.{slots_fit, all_fit}
use Rattle.tile_list.specs.Weight.{weight_of, weigh_pair, weigh_all}
use Rattle.pairs.specs.declared.Pair.{Pair}
use Rattle.pairs.specs.Put.{Put}
use Rattle.pairs.specs.Put.{Nothing, Puts}
use Rattle.tile_list.specs.declared.weigh.Weight.{Weight}
use Rattle.lay_pairs.proofs.SizeLaws.{jump_small, left_small}

-- one pair, by its parts
pub weigh_is : (room : ℕ) (p : Pair) (w : Weight) (ok : Bool) (size jump here : ℕ) (within : Bool) → ok ≡ fits p w.left → size ≡ pair_size p
    → jump ≡ jump_count ok → here ≡ left_at ok w.left → within ≡ slots_fit room p
    → weight_of (w.pairs + 1) (w.jumps + jump) (here - size) (w.slots && within) ≡ weigh_pair room p w
unfolding weigh_pair
weigh_is room p w ok size jump here within e f g h k = rw (g, h, k, e, f)

-- what so many paths at most put on a tile
pub record Light (k : ℕ) (w : Weight) : Type 0 where
  pub pairs : w.pairs ≤ k
  pub jumps : w.jumps ≤ k
  pub left : w.left ≤ tile_words

pub put_light : (room k : ℕ) (put : Put) (w : Weight) → Light k w → Light (k + 1) (weigh_all room (put_list put) w)
unfolding weigh_pair
put_light room k Nothing w l = record { pairs = omega (arith, l.pairs); jumps = omega (arith, l.jumps); left = l.left }
put_light room k (Puts p) w l =
    record {
      pairs = omega (arith, l.pairs);
      jumps = omega (arith, l.jumps, jump_small (fits p w.left));
      left = left_small p w.left l.left;
    }

-- ---- a loop over the paths

-- the next of the paths left, and what it puts there
module _ (s : Tables) (x y p : ℕ) (rest ps : List ℕ) where
  pub pairs_next : (hs : List Pair) → ps ≡ p ∷ rest → hs ≡ on_path s x y p → pairs_of s x y ps ≡ hs ++ pairs_of s x y rest
  pairs_next hs q e = ap (pairs_of s x y) q ∙ ap (λ (l : List Pair). l ++ pairs_of s x y rest) (sym e)

  pub weigh_next : (room : ℕ) (hs : List Pair) (w w' : Weight) → ps ≡ p ∷ rest → hs ≡ on_path s x y p → w' ≡ weigh_all room hs w
      → weigh_all room (pairs_of s x y rest) w' ≡ weigh_all room (pairs_of s x y ps) w
  weigh_next room hs w w' q e f =
      ap (weigh_all room (pairs_of s x y rest)) f ∙ sym (act_all_append (weigh_pair room) hs (pairs_of s x y rest) w) ∙ ap (λ (l : List Pair). weigh_all room l w) (sym (pairs_next hs q e))

-- ---- what a weight comes to

pub weighed_pairs : (room : ℕ) (ps : List Pair) (w : Weight) → (weigh_all room ps w).pairs ≡ w.pairs + length ps
unfolding weigh_pair
weighed_pairs room [] w = omega arith
weighed_pairs room (p ∷ ps) w = weighed_pairs room ps (weigh_pair room p w) ∙ omega arith

pub weighed_jumps : (room : ℕ) (ps : List Pair) (w : Weight) → (weigh_all room ps w).jumps ≡ w.jumps + jumps_of w.left ps
unfolding weigh_pair
weighed_jumps room [] w = omega arith
weighed_jumps room (p ∷ ps) w = weighed_jumps room ps (weigh_pair room p w) ∙ omega arith

pub weighed_slots : (room : ℕ) (ps : List Pair) (w : Weight) → (weigh_all room ps w).slots ≡ w.slots && all_fit room ps
unfolding weigh_pair
weighed_slots room [] w = sym (and-true w.slots)
weighed_slots room (p ∷ ps) w = weighed_slots room ps (weigh_pair room p w) ∙ and_assoc w.slots (slots_fit room p) (all_fit room ps)
