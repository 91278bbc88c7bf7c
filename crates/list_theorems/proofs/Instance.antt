-- The premises can be met: two screen tiles under one even-odd path, from hand-out on. The first tile has a segment, the second none and the
-- backdrop -1. And a list that jumps: as many paths over one tile as its region has room for, and one. Computed. Assumes nothing.
use mathlib.Core.Path.{◌≡◌, refl, subst}
use mathlib.Core.Bool.{true}
use mathlib.Core.List.{List, [], ◌∷◌, ◌++◌}
use Prim.Native.Nat.{ℕ, zero, suc, ◌-◌, ◌*◌, ◌/◌, ◌<◌}
use native.Mathlib.Omega.{arith}
use lib.IntN.{ℤ, pos, negsuc}
use lib.ListN.{length, replicate}
use lib.Ieee.{Float}
use Rattle.panel.specs.Limits.{edge_most}
use Rattle.panel.specs.Paths.{boxed, path_at, paths_from, paths_answer}
use Rattle.panel.specs.Segments.{segment_at, Straight}
use Rattle.panel.specs.Answer.{Done}
use Rattle.hand_out.specs.HandOut.{out_of, hand_out_of}
use Rattle.panel.specs.Signed.{in_i32}
use Rattle.commands.specs.Numbers.{end_no, encode_to, jump_words, tile_words}
use Rattle.commands.specs.declared.steps.Act.TheVariants.{Jump}
use Rattle.pairs.specs.Pairs.{Tables, tables, on_tile, on_path, tile_pairs}
use Rattle.lay_pairs.specs.Layout.{pair_words, pair_size, own_words}
use Rattle.pairs.specs.declared.Pair.{Pair}
use Rattle.pairs.specs.declared.Pair.TheVariants.{Fill, Solid}
use Rattle.write_lists.specs.Lists.{call_answer, regions_of, answer_of, lists_of, write_lists_of}
use Rattle.list_theorems.specs.Written.{Wrote, AllI32, LikePainted}
use Rattle.list_theorems.proofs.Written.{like_painted}
use Rattle.list_theorems.proofs.Handed.{Handed, handed}

-- ---- from hand-out on

handed_out : hand_out_of 1 (1 ∷ 0 ∷ []) (7 ∷ 7 ∷ []) ≡ out_of Done (0xffff_ffff ∷ 0 ∷ []) (1 ∷ 0 ∷ [])
unfolding hand_out_of
handed_out = refl

abbrev pub two : Tables
two = tables (boxed 0 0 2 1 0) (0x2040_60ff ∷ 1 ∷ []) (pos 0 ∷ negsuc 0 ∷ []) (0xffff_ffff ∷ 0 ∷ []) (1 ∷ 0 ∷ [])

pub two_handed : Handed 1 two.stored two.tally
two_handed = handed 1 (1 ∷ 0 ∷ []) (7 ∷ 7 ∷ []) two.stored two.tally handed_out

-- these words of a region, then 9 in all that are left of it
abbrev pub region : List ℕ → List ℕ
region ws = ws ++ replicate (tile_words - length ws) 9

pub two_words : List ℕ
two_words = region (9 ∷ pair_words (Fill 1 1 0 0 0x2040_60ff) ++ (end_no ∷ [])) ++ region (9 ∷ pair_words (Solid 0x2040_60ff) ++ (end_no ∷ []))

two_wrote : Wrote two 2 1 1 (replicate 128 9) two_words
unfolding two_words edge_most path_at paths_from paths_answer on_tile on_path tile_pairs call_answer regions_of answer_of lists_of write_lists_of
two_wrote = refl

-- whatever the one segment is, if a fill takes it
pub an_instance : (a b c d e : Float) → Straight (segment_at (a ∷ b ∷ c ∷ d ∷ e ∷ []) 0) → LikePainted two 2 1 two_words (a ∷ b ∷ c ∷ d ∷ e ∷ [])
an_instance a b c d e one =
    like_painted two 2 1 1 (replicate 128 9) two_words two_wrote (a ∷ b ∷ c ∷ d ∷ e ∷ [])
    (record { whole = refl; enough = omega arith; straight = λ k h. subst (λ (i : ℕ). Straight (segment_at (a ∷ b ∷ c ∷ d ∷ e ∷ []) i)) (none k h) one })
    (refl, (refl, tt))
  where
    none : (k : ℕ) → k < 1 → 0 ≡ k
    none k h = omega arith

-- ---- a list that jumps

-- n paths over one screen tile, the first of them with tile i
unfoldable pub boxes : ℕ → ℕ → List ℕ
boxes zero i = []
boxes (suc n) i = boxed 0 0 1 1 i ++ boxes n (suc i)

unfoldable pub times : ℕ → List ℕ → List ℕ
times zero l = []
times (suc n) l = l ++ times n l

abbrev solid : Pair
solid = Solid 0x2040_60ff

-- so many pairs fill a tile's own region, a JUMP's words left over
abbrev pub full : ℕ
full = (own_words - jump_words) / pair_size solid

unfoldable pub over : Tables
over = tables (boxes (suc full) 0) (times (suc full) (0x2040_60ff ∷ 0 ∷ [])) (replicate (suc full) (pos 1)) (replicate (suc full) 0) (replicate (suc full) 0)

unfoldable pub over_words : List ℕ
over_words = region (9 ∷ times full (pair_words solid) ++ encode_to tile_words Jump) ++ region (pair_words solid ++ (end_no ∷ []))

pub over_wrote : Wrote over 1 1 0 (replicate (2 * tile_words) 9) over_words
unfolding boxes times over over_words edge_most path_at paths_from paths_answer on_tile on_path tile_pairs call_answer regions_of answer_of lists_of write_lists_of
over_wrote = refl

all_fit : (n : ℕ) (b : ℤ) → in_i32 b ≡ true → AllI32 (replicate n b)
all_fit zero b e = tt
all_fit (suc n) b e = (e, all_fit n b e)

over_fit : AllI32 over.backdrops
unfolding over
over_fit = all_fit (suc full) (pos 1) refl

pub a_jumping_instance : LikePainted over 1 1 over_words []
a_jumping_instance = like_painted over 1 1 0 (replicate (2 * tile_words) 9) over_words over_wrote [] (record { whole = refl; enough = omega arith; straight = λ k h. absurd (omega arith) }) over_fit
