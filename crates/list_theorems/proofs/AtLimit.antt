-- As many commands as may be: tables whose one screen tile has a list of 4,096, so that "4,096 are too many" is refuted. Over one tile f paths with a
-- segment each, and then m paths that cover it. Assumes nothing.
use mathlib.Core.Path.{◌≡◌, refl, sym, ap, ◌∙◌}
use mathlib.Core.List.{List, [], ◌∷◌, ◌++◌}
use Prim.Native.Nat.{ℕ, zero, suc, ◌+◌, ◌*◌, ◌/◌, ◌%◌, ◌≤◌, ◌<◌}
use native.Mathlib.Omega.{arith}
use lib.IntN.{ℤ, pos}
use lib.ListN.{length, get_or, replicate, length-replicate, get_or-replicate}
use borrow.Author.Tests.{le-leb, eq-eqb}
use Rattle.lists.specs.Sums.{from}
use Rattle.panel.specs.Limits.{most_paths, most_tiles, edge_most, most_commands}
use Rattle.panel.specs.Refusals.{too_long_word}
use Rattle.panel.specs.Widths.{path_words, paint_words, place_colour, place_rule}
use Rattle.panel.specs.Slots.{not32}
use Rattle.panel.specs.Paths.{path_of, path_at, path_count, tile_of, end_of, lent_checks, paths_from, paths_answer}
use Rattle.panel.specs.declared.kinds.Path.{Path}
use Rattle.panel.specs.Answer.{Done}
use Rattle.panel.proofs.RecordLaws.{path_first, path_next, path_more}
use Rattle.panel.proofs.CheckLaws.{none_fails, unless_fine}
use Rattle.pairs.specs.Pairs.{Tables, tables, on_tile, on_path, pairs_of, tile_pairs, bits_of}
use Rattle.lay_pairs.specs.Layout.{commands_of}
use Rattle.write_lists.specs.Lists.{call_answer, write_lists_of}
use Rattle.write_lists.specs.Lists as Lists
use Rattle.pairs.specs.declared.Pair.{Pair}
use Rattle.pairs.specs.declared.Pair.TheVariants.{Fill, Solid}
use Rattle.list_theorems.proofs.Instance.{boxes, times}
use Rattle.list_theorems.proofs.Refuted.{limit_passes, limit_is_met}

-- ---- n paths over one tile, f with a segment and m without

abbrev box_at : ℕ → Path
box_at p = path_of 0 0 1 1 p

abbrev paint : List ℕ
paint = 0 ∷ 0 ∷ []

abbrev ones : ℕ → List ℤ
ones n = replicate n (pos 1)

abbrev nones : ℕ → List ℕ
nones n = replicate n 0

unfoldable tallied : (f m : ℕ) → List ℕ
tallied zero m = nones m
tallied (suc f) m = 1 ∷ tallied f m

abbrev many : (f m : ℕ) → Tables
many f m = let n = f + m in tables (boxes n 0) (times n paint) (ones n) (nones n) (tallied f m)

abbrev fill_pair : Pair
fill_pair = Fill 1 0 (not32 0) (bits_of (pos 1)) 0

tally_first : (f m p : ℕ) → p < f → get_or (tallied f m) p 0 ≡ 1
unfolding tallied
tally_first zero m p h = absurd (omega arith)
tally_first (suc f) m zero h = refl
tally_first (suc f) m (suc p) h = tally_first f m p (omega arith)

tally_rest : (f m p : ℕ) → f ≤ p → p < f + m → get_or (tallied f m) p 0 ≡ 0
unfolding tallied
tally_rest zero m p h k = get_or-replicate {A = ℕ} m p 0 0 (omega arith)
tally_rest (suc f) m zero h k = absurd (omega arith)
tally_rest (suc f) m (suc p) h k = tally_rest f m p (omega arith) (omega arith)

tally_long : (f m : ℕ) → length (tallied f m) ≡ f + m
unfolding tallied
tally_long zero m = length-replicate {A = ℕ} m 0 ∙ sums m
  where
    sums : (m : ℕ) → m ≡ 0 + m
    sums m = omega arith
tally_long (suc f) m = let e = tally_long f m in omega arith

box_from : (n i p : ℕ) → p < n → path_at (boxes n i) p ≡ box_at (i + p)
unfolding boxes
box_from zero i p h = absurd (omega arith)
box_from (suc n) i zero h = let z : i ≡ i + 0 = omega arith in path_first (box_at i) 0 (boxes n (suc i)) ∙ ap box_at z
box_from (suc n) i (suc p) h =
    let z : suc i + p ≡ i + suc p = omega arith in
    path_next (box_at i) 0 (boxes n (suc i)) p ∙ box_from n (suc i) p (omega arith) ∙ ap box_at z

box_at_lem : (n p : ℕ) → p < n → path_at (boxes n 0) p ≡ box_at p
box_at_lem n p h = let z : 0 + p ≡ p = omega arith in box_from n 0 p h ∙ ap box_at z

paint_word : (n p c : ℕ) → p < n → c < paint_words → get_or (times n paint) (p * paint_words + c) 0 ≡ 0
unfolding times
paint_word zero p c h k = absurd (omega arith)
paint_word (suc n) zero c h k = let z : 0 * paint_words + c ≡ c = omega arith in rw z (front c k)
  where
    front : (c : ℕ) → c < paint_words → get_or (0 ∷ 0 ∷ times n paint) c 0 ≡ 0
    front zero k = refl
    front (suc zero) k = refl
    front (suc (suc c)) k = absurd (omega arith)
paint_word (suc n) (suc p) c h k =
    let z : suc p * paint_words + c ≡ suc (suc (p * paint_words + c)) = omega arith in
    rw z (paint_word n p c (omega arith) k)

boxes_long : (n i : ℕ) → length (boxes n i) ≡ n * path_words
unfolding boxes
boxes_long zero i = refl
boxes_long (suc n) i = let e = boxes_long n (suc i) in omega (arith, path_more (box_at i) 0 (boxes n (suc i)))

times_long : (n : ℕ) → length (times n paint) ≡ n * paint_words
unfolding times
times_long zero = refl
times_long (suc n) = let e = times_long n in omega arith

-- ---- each puts a pair on it

module _ (f m : ℕ) where
  on_fill : (p : ℕ) → p < f → on_path (many f m) 0 0 p ≡ fill_pair ∷ []
  unfolding on_path on_tile
  on_fill p h =
      let g : p < f + m = omega arith in
      let z : tile_of (box_at p) 0 0 ≡ p = omega arith in
      let t : get_or (tallied f m) p 0 ≡ 1 = tally_first f m p h in
      let s : get_or (nones (f + m)) p 0 ≡ 0 = get_or-replicate {A = ℕ} (f + m) p 0 0 g in
      let b : get_or (ones (f + m)) p (pos 0) ≡ pos 1 = get_or-replicate {A = ℤ} (f + m) p (pos 1) (pos 0) g in
      let c : get_or (times (f + m) paint) (p * paint_words + place_colour) 0 ≡ 0 = paint_word (f + m) p place_colour g (omega arith) in
      let r : get_or (times (f + m) paint) (p * paint_words + place_rule) 0 ≡ 0 = paint_word (f + m) p place_rule g (omega arith) in
      rw (box_at_lem (f + m) p g, z, t, s, b, c, r)

  on_solid : (p : ℕ) → f ≤ p → p < f + m → on_path (many f m) 0 0 p ≡ Solid 0 ∷ []
  unfolding on_path on_tile
  on_solid p k g =
      let z : tile_of (box_at p) 0 0 ≡ p = omega arith in
      let t : get_or (tallied f m) p 0 ≡ 0 = tally_rest f m p k g in
      let b : get_or (ones (f + m)) p (pos 0) ≡ pos 1 = get_or-replicate {A = ℤ} (f + m) p (pos 1) (pos 0) g in
      let c : get_or (times (f + m) paint) (p * paint_words + place_colour) 0 ≡ 0 = paint_word (f + m) p place_colour g (omega arith) in
      let r : get_or (times (f + m) paint) (p * paint_words + place_rule) 0 ≡ 0 = paint_word (f + m) p place_rule g (omega arith) in
      rw (box_at_lem (f + m) p g, z, t, b, c, r)

  solids : (k p : ℕ) → f ≤ p → p + k ≤ f + m → pairs_of (many f m) 0 0 (from p k) ≡ replicate k (Solid 0)
  solids zero p a h = refl
  solids (suc k) p a h = rw (on_solid p a (omega arith)) (ap (λ (ps : List Pair). Solid 0 ∷ ps) (solids k (suc p) (omega arith) (omega arith)))

  fills : (k p : ℕ) → p + k ≡ f → pairs_of (many f m) 0 0 (from p (k + m)) ≡ replicate k fill_pair ++ replicate m (Solid 0)
  fills zero p h = let z : 0 + m ≡ m = omega arith in rw z (solids m p (omega arith) (omega arith))
  fills (suc k) p h =
      let z : suc k + m ≡ suc (k + m) = omega arith in
      rw (z, on_fill p (omega arith)) (ap (λ (ps : List Pair). fill_pair ∷ ps) (fills k (suc p) (omega arith)))

  tile_pairs_lem : tile_pairs (many f m) 1 0 ≡ replicate f fill_pair ++ replicate m (Solid 0)
  unfolding tile_pairs
  tile_pairs_lem =
      let c : path_count (boxes (f + m) 0) ≡ f + m = omega (arith, boxes_long (f + m) 0) in
      ap (λ (k : ℕ). pairs_of (many f m) 0 0 (from 0 k)) c ∙ fills f 0 (omega arith)

-- ---- and they are lent as they should be

paths_done : (n k p : ℕ) → p + k ≤ n → paths_from (boxes n 0) n k p p ≡ Done
unfolding edge_most paths_from
paths_done n zero p h = refl
paths_done n (suc k) p h =
    let z : end_of (box_at p) ≡ suc p = omega arith in
    rw (box_at_lem n p (omega arith), le-leb p p (omega arith), le-leb (end_of (box_at p)) n (omega arith), z) (paths_done n k (suc p) (omega arith))

call_done : (f m : ℕ) → f + m ≤ most_paths → call_answer (many f m) 1 1 ≡ Done
unfolding call_answer paths_answer
call_done f m h =
    let n = f + m in
    let u = tally_long f m in
    let b = boxes_long n 0 in
    let t = times_long n in
    let r : length (nones n) ≡ n = length-replicate {A = ℕ} n 0 in
    let s : length (ones n) ≡ n = length-replicate {A = ℤ} n (pos 1) in
    let w : length (boxes n 0) % path_words ≡ 0 = omega arith in
    let c : path_count (boxes n 0) ≡ n = omega arith in
    unless_fine _ 0 _
    (none_fails (Lists.lent_checks (length (boxes n 0)) (length (times n paint)) (length (ones n)) (length (nones n)) (length (tallied f m)) 1 1) (
      eq-eqb (length (boxes n 0) % path_words) 0 w,
      (
        eq-eqb (length (times n paint)) (paint_words * (length (boxes n 0) / path_words)) (omega arith),
        (
          eq-eqb (length (nones n)) (length (ones n)) (r ∙ sym s),
          (eq-eqb (length (tallied f m)) (length (ones n)) (u ∙ sym s), (le-leb (1 * 1) most_tiles (omega arith), tt)),
        ),
      ),
    ))
    ∙ unless_fine _ 0 _
    (none_fails (lent_checks (length (boxes n 0)) (length (ones n)))
    (eq-eqb (length (boxes n 0) % path_words) 0 w, (le-leb (path_count (boxes n 0)) most_paths (omega arith), (le-leb (length (ones n)) most_tiles (omega arith), tt))))
    ∙ rw (s, c) (paths_done n n 0 (omega arith))

-- ---- 4,096 taken as too many

abbrev LimitTooLong : Type 0
LimitTooLong =
    (s : Tables) (cols rows room : ℕ) (ws : List ℕ) (t : ℕ) → call_answer s cols rows ≡ Done → t < cols * rows → most_commands ≤ commands_of (tile_pairs s cols t)
    → ((u : ℕ) → u < t → commands_of (tile_pairs s cols u) ≤ most_commands) → (write_lists_of s cols rows room ws).paper ≡ too_long_word ∷ t ∷ []

refute : (f m : ℕ) → f + m ≤ most_paths → commands_of (replicate f fill_pair ++ replicate m (Solid 0)) ≡ most_commands → LimitTooLong → ⊥
refute f m h e g =
    let c : commands_of (tile_pairs (many f m) 1 0) ≡ most_commands = ap commands_of (tile_pairs_lem f m) ∙ e in
    limit_passes (many f m) 1 1 0 [] (call_done f m h) 0 c (g (many f m) 1 1 0 [] 0 (call_done f m h) (omega arith) (omega arith) (λ u k. absurd (omega arith)))

pub limit_is_allowed : LimitTooLong → ⊥
limit_is_allowed = refute 20 1978 (omega arith) limit_is_met
