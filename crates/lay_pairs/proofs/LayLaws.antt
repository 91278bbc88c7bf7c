-- Chunks written, and the pen where a pair is put. Assumes nothing.
use mathlib.Core.Path.{◌≡◌, refl, ◌∙◌}
use mathlib.Core.Bool.{Bool, true, false}
use mathlib.Core.List.{List, [], ◌∷◌, ◌++◌}
use Prim.Native.Nat.{ℕ, ◌+◌, ◌*◌, ◌≤◌}
use native.Mathlib.Omega.{arith}
use lib.ListN.{length}
use lib.Seq.{sets, length-sets}
use Rattle.lists.specs.Run.{act_all_append}
use Rattle.commands.specs.Numbers.{jump_words, tile_words}
use Rattle.lay_pairs.specs.Layout.{Chunk, pair_size, fits, turned, jump_count, left_at, written}
use Rattle.lay_pairs.specs.Room.{Room}
use Rattle.pairs.specs.declared.Pair.{Pair}
use Rattle.lay_pairs.specs.declared.Pen.{Pen}
use Rattle.lay_pairs.proofs.SizeLaws.{left_fits}

-- ---- memory

pub written_append : (cs ds : List Chunk) (ws : List ℕ) → written (cs ++ ds) ws ≡ written ds (written cs ws)
written_append cs ds ws = act_all_append (λ c. λ m. sets m c.place c.words) cs ds ws

pub length_written : (cs : List Chunk) (ws : List ℕ) → length (written cs ws) ≡ length ws
length_written [] ws = refl
length_written (c ∷ cs) ws = length_written cs (sets ws c.place c.words) ∙ length-sets ws c.place c.words

-- ---- the pen

pub turned_left : (b : Bool) (pen : Pen) → (turned b pen).left ≡ left_at b pen.left
turned_left true pen = refl
turned_left false pen = refl

turned_here : (b : Bool) (pen : Pen) (n : ℕ) → pen.at + pen.left ≤ n → pen.fresh + tile_words * jump_count b ≤ n
    → (turned b pen).at + (turned b pen).left ≤ n
turned_here true pen n h k = h
turned_here false pen n h k = omega arith

-- the pair's words fit where it is put
pub room_here : (p : Pair) (pen : Pen) (n : ℕ) → Room pen (p ∷ []) n
    → ((turned (fits p pen.left) pen).at + (turned (fits p pen.left) pen).left ≤ n)
    × (pair_size p + jump_words ≤ (turned (fits p pen.left) pen).left)
room_here p pen n r =
    (turned_here (fits p pen.left) pen n r.here (omega (arith, r.fresh)), rw (turned_left (fits p pen.left) pen) (left_fits p pen.left))
