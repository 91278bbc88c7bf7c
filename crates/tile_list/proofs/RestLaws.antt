-- Lists laid out and written, pair by pair: what is left from here comes to the same as all of it. Assumes nothing.
use mathlib.Core.Path.{◌≡◌, refl, sym, ap, ◌∙◌}
use mathlib.Core.Bool.{Bool, true, false}
use mathlib.Core.List.{List, [], ◌∷◌, ◌++◌, append_assoc}
use Prim.Native.Nat.{ℕ, ◌+◌, ◌-◌, ◌*◌, ◌≤◌}
use native.Mathlib.Omega.{arith}
use lib.ListN.{length}
use Rattle.panel.specs.Limits.{most_slots}
use Rattle.panel.proofs.BoolLaws.{both}
use Rattle.commands.specs.Numbers.{tile_words}
use Rattle.pairs.specs.declared.Pair.{Pair}
use Rattle.lay_pairs.specs.Layout.{Chunk, pair_size, fits, turned, after, pair_chunks, laid, jump_count, left_after, jumps_of, written, begun, pen_after}
use Rattle.lay_pairs.specs.Slots.{slots_fit, all_fit}
use Rattle.lay_pairs.specs.Room.{Room}
use Rattle.lay_pairs.specs.declared.Pen.{Pen}
use Rattle.lay_pairs.proofs.LayLaws.{turned_left, room_here}

-- ---- the pen

turned_fresh : (b : Bool) (pen : Pen) → (turned b pen).fresh ≡ pen.fresh + tile_words * jump_count b
turned_fresh true pen = omega arith
turned_fresh false pen = omega arith

after_left : (p : Pair) (pen : Pen) → (after p pen).left ≡ left_after p pen.left
after_left p pen = ap (λ (n : ℕ). n - pair_size p) (turned_left (fits p pen.left) pen)

after_fresh : (p : Pair) (pen : Pen) → (after p pen).fresh ≡ pen.fresh + tile_words * jump_count (fits p pen.left)
after_fresh p pen = turned_fresh (fits p pen.left) pen

-- after these pairs, what is taken for the rest is what was to be taken for all
pub fresh_sum : (ps qs : List Pair) (pen : Pen) → (pen_after pen ps).fresh + tile_words * jumps_of (pen_after pen ps).left qs
    ≡ pen.fresh + tile_words * jumps_of pen.left (ps ++ qs)
fresh_sum [] qs pen = refl
fresh_sum (p ∷ ps) qs pen =
    let ih = fresh_sum ps qs (after p pen) in
    let here : jumps_of (after p pen).left (ps ++ qs) ≡ jumps_of (left_after p pen.left) (ps ++ qs) = ap (λ (n : ℕ). jumps_of n (ps ++ qs)) (after_left p pen) in
    ih ∙ omega (arith, here, after_fresh p pen)

jumps_more : (left : ℕ) (ps qs : List Pair) → jumps_of left ps ≤ jumps_of left (ps ++ qs)
jumps_more left [] qs = omega arith
jumps_more left (p ∷ ps) qs = omega (arith, jumps_more (left_after p left) ps qs)

pub room_less : (pen : Pen) (ps qs : List Pair) (n : ℕ) → Room pen (ps ++ qs) n → Room pen ps n
room_less pen ps qs n r =
    let k = jumps_more pen.left ps qs in
    record { here = r.here; jump = r.jump; fresh = omega (arith, r.fresh); named = omega (arith, r.named) }

room_step : (p : Pair) (ps : List Pair) (pen : Pen) (n : ℕ) → Room pen (p ∷ ps) n → Room (after p pen) ps n
room_step p ps pen n r =
    let one = room_less pen (p ∷ []) ps n r in
    let h = room_here p pen n one in
    let s = fresh_sum (p ∷ []) ps pen in
    record { here = omega (arith, h.0, h.1); jump = omega (arith, h.1); fresh = omega (arith, s, r.fresh); named = omega (arith, s, r.named) }

pub room_after : (ps qs : List Pair) (pen : Pen) (n : ℕ) → Room pen (ps ++ qs) n → Room (pen_after pen ps) qs n
room_after [] qs pen n r = r
room_after (p ∷ ps) qs pen n r = room_after ps qs (after p pen) n (room_step p (ps ++ qs) pen n r)

-- ---- the chunks

pub laid_append : (ps qs : List Pair) (pen : Pen) → laid pen (ps ++ qs) ≡ begun pen ps ++ laid (pen_after pen ps) qs
laid_append [] qs pen = refl
laid_append (p ∷ ps) qs pen =
    ap (λ (l : List Chunk). pair_chunks p pen ++ l) (laid_append ps qs (after p pen))
    ∙ sym (append_assoc (pair_chunks p pen) (begun (after p pen) ps) (laid (pen_after (after p pen) ps) qs))

-- ---- slots

pub all_fit_append : (room : ℕ) (ps qs : List Pair) → all_fit room (ps ++ qs) ≡ true → (all_fit room ps ≡ true) × (all_fit room qs ≡ true)
all_fit_append room [] qs e = (refl, e)
all_fit_append room (p ∷ ps) qs e =
    let f = both (slots_fit room p) (all_fit room (ps ++ qs)) e in
    let g = all_fit_append room ps qs f.1 in
    (rw f.0 g.0, g.1)

-- ---- a loop's turns: with these pairs left, here, it comes to the same as all of them from the start

pub record Lays (qs : List Pair) (pen : Pen) (words : List ℕ) (ps : List Pair) (pen₀ : Pen) (words₀ : List ℕ) : Type 0 where
  pub same : length words ≡ length words₀
  pub room : Room pen qs (length words₀)
  pub slots : all_fit most_slots qs ≡ true
  pub fresh : pen.fresh + tile_words * jumps_of pen.left qs ≡ pen₀.fresh + tile_words * jumps_of pen₀.left ps
  pub memory : written (laid pen qs) words ≡ written (laid pen₀ ps) words₀
