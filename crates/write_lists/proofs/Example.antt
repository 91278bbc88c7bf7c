-- Lists computed from the definition. Assumes nothing.
use mathlib.Core.Path.{◌≡◌, refl}
use mathlib.Core.List.{List, [], ◌∷◌, ◌++◌}
use Prim.Native.Nat.{ℕ, suc, ◌+◌, ◌-◌, ◌*◌, ◌/◌}
use lib.IntN.{pos, negsuc}
use lib.ListN.{length, replicate, drop}
use Rattle.panel.specs.Limits.{edge_most}
use Rattle.panel.specs.Paths.{boxed, path_at, paths_from, paths_answer}
use Rattle.commands.specs.Numbers.{end_no, encode_to, jump_words, tile_words, start_of}
use Rattle.commands.specs.declared.steps.Act.TheVariants.{Jump}
use Rattle.pairs.specs.Pairs.{tables, on_tile, on_path, tile_pairs}
use Rattle.lay_pairs.specs.Layout.{pair_words, pair_size, jumps_of, own_words, pen_of, laid, written}
use Rattle.write_lists.specs.Lists.{left, call_answer, regions_of, answer_of, lists_of, write_lists_of}
use Rattle.pairs.specs.declared.Pair.{Pair}
use Rattle.pairs.specs.declared.Pair.TheVariants.{Fill, Solid}
use Rattle.panel.specs.Answer.{Done}

-- so many words of a region, then 9 in all that are left of it
abbrev filled : List ℕ → List ℕ
filled ws = ws ++ replicate (tile_words - length ws) 9

-- a screen of two tiles under one path, even-odd: the first is filled, the second covered by its backdrop -1
pub example : write_lists_of (tables (boxed 0 0 2 1 0) (0x204060ff ∷ 1 ∷ []) (pos 0 ∷ negsuc 0 ∷ []) (0xffffffff ∷ 0 ∷ []) (3 ∷ 0 ∷ [])) 2 1 3 (replicate 128 9)
    ≡ left Done (filled (9 ∷ pair_words (Fill 3 1 0 0 0x204060ff) ++ (end_no ∷ [])) ++ filled (9 ∷ pair_words (Solid 0x204060ff) ++ (end_no ∷ [])))
unfolding edge_most path_at paths_from paths_answer on_tile on_path tile_pairs call_answer regions_of answer_of lists_of write_lists_of
example = refl

-- how many such pairs fill a tile's own region, a JUMP's words left over
abbrev full : Pair → ℕ
full p = (own_words - jump_words) / pair_size p

abbrev fill : Pair
fill = Fill 1 0 0 0 9

abbrev solid : Pair
solid = Solid 9

-- one more takes a fresh one
pub solids_fit : jumps_of own_words (replicate (full solid) solid) ≡ 0
solids_fit = refl

pub one_solid_more : jumps_of own_words (replicate (suc (full solid)) solid) ≡ 1
one_solid_more = refl

pub fills_fit : jumps_of own_words (replicate (full fill) fill) ≡ 0
fills_fit = refl

pub one_fill_more : jumps_of own_words (replicate (suc (full fill)) fill) ≡ 1
one_fill_more = refl

-- the words from the last that fits on: a JUMP to the fresh region's first word, and there the pair and END
pub jumped : drop (start_of 0 + pair_size solid * (full solid - 1)) (written (laid (pen_of 0 tile_words) (replicate (suc (full solid)) solid)) (replicate (2 * tile_words) 5))
    ≡ pair_words solid ++ encode_to tile_words Jump
    ++ replicate (own_words - pair_size solid * full solid - jump_words) 5
    ++ pair_words solid ++ (end_no ∷ replicate (tile_words - pair_size solid - 1) 5)
jumped = refl
