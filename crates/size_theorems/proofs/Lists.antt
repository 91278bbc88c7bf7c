-- Lists over the words that `sizes` tells, after hand-out, are never refused with 9. docs/THEOREMS.md, "Sizes". Assumes nothing.
use mathlib.Core.Path.{◌≡◌, refl, sym, ap, ◌∙◌}
use mathlib.Core.Logic.{◌≢◌}
use mathlib.Core.Bool.{Bool, true, false, cond}
use mathlib.Core.List.{List, [], ◌∷◌, ◌++◌}
use Prim.Native.Nat.{ℕ, zero, suc, ◌+◌, ◌*◌, ◌/◌, ◌%◌, ◌≤◌}
use native.Mathlib.Omega.{arith}
use lib.Dec.{leb, ltb}
use lib.ListN.{length, length-append}
use lib.IntN.{ℤ}
use borrow.Author.Tests.{le-leb}
use Rattle.lists.specs.Sums.{from, from_add}
use Rattle.panel.specs.Limits.{most_commands}
use Rattle.panel.specs.Refusals.{no_room_word, too_long_word}
use Rattle.panel.specs.Checks.{Check, first_no, unless}
use Rattle.panel.specs.Paths.{path_at, path_count, tile_of}
use Rattle.panel.specs.Slots.{not32}
use Rattle.panel.specs.Verdict.{Verdict, Fine, Against}
use Rattle.panel.specs.Answer.{Answer}
use Rattle.panel.proofs.CheckLaws.{none_fails}
use Rattle.commands.specs.Numbers.{tile_words}
use Rattle.commands.specs.Pixel.{even_odd_of}
use Rattle.pairs.specs.Pairs.{Tables, tables, in_box, covers, bits_of, on_tile, by_path, on_path, pairs_of, tile_pairs}
use Rattle.lay_pairs.specs.Layout.{jumps_of, own_words, commands_of, written}
use Rattle.write_lists.specs.Lists.{call_answer, long_from, fresh_of, fills_fit, room_checks, screen_tiles, regions_of, then_check, answer_of, lists_of, on_done, write_lists_of}
use Rattle.pairs.specs.declared.Pair.TheVariants.{Fill, Solid}
use Rattle.list_theorems.proofs.Handed.{Handed, handed_fits}
use Rattle.sizes.specs.Words.{pairs_to, region_pairs, words_of}
use Rattle.sizes.proofs.WordLaws.{pairs_suc, pairs_none}
use Rattle.size_theorems.proofs.Checks.{lists_early}
use Rattle.size_theorems.proofs.Jumps.{jumps_most}
use Rattle.size_theorems.proofs.Grid.{sum_to, sum_zero, sum_suc, sum_same, sum_add, sum_none, bit, box_tiles}

module _ (s : Tables) where
  -- ---- what a path puts on a tile: at most one pair, and none off its box

  on_one : (colour rule count stored : ℕ) (b : ℤ) → length (on_tile colour rule count stored b) ≤ 1
  unfolding on_tile
  on_one colour rule count stored b = go (ltb 0 count) (covers (even_odd_of rule) b)
    where
      go : (p q : Bool) → length (cond p (Fill count rule (not32 stored) (bits_of b) colour ∷ []) (cond q (Solid colour ∷ []) [])) ≤ 1
      go true q = omega arith
      go false true = omega arith
      go false false = omega arith

  -- how many of path p's box there are at column x and row y: one or none
  abbrev has : ℕ → ℕ → ℕ → ℕ
  has x y p = bit (in_box (path_at s.paths p) x y)

  path_one : (x y p : ℕ) → length (on_path s x y p) ≤ has x y p
  unfolding on_path
  path_one x y p = go (in_box (path_at s.paths p) x y)
    where
      go : (b : Bool) → length (cond b (by_path s p (tile_of (path_at s.paths p) x y)) []) ≤ bit b
      go true = on_one _ _ _ _ _
      go false = omega arith

  pairs_append : (x y : ℕ) (ps qs : List ℕ) → length (pairs_of s x y (ps ++ qs)) ≡ length (pairs_of s x y ps) + length (pairs_of s x y qs)
  pairs_append x y [] qs = omega arith
  pairs_append x y (p ∷ ps) qs =
      omega (
        arith,
        length-append (on_path s x y p) (pairs_of s x y (ps ++ qs)),
        length-append (on_path s x y p) (pairs_of s x y ps),
        pairs_append x y ps qs,
      )

  -- by the first n paths
  pairs_few : (x y n : ℕ) → length (pairs_of s x y (from 0 n)) ≤ sum_to (has x y) n
  pairs_few x y zero = omega arith
  pairs_few x y (suc n) =
      let z : suc n ≡ n + 1 = omega arith in
      let cut : length (pairs_of s x y (from 0 (suc n))) ≡ length (pairs_of s x y (from 0 n ++ from (0 + n) 1)) =
      ap (λ (k : ℕ). length (pairs_of s x y (from 0 k))) z ∙ ap (λ (ps : List ℕ). length (pairs_of s x y ps)) (from_add 0 n 1) in
      let m : 0 + n ≡ n = omega arith in
      let last : length (pairs_of s x y (from (0 + n) 1)) ≤ has x y n =
      rw m (omega (arith, length-append (on_path s x y n) [], path_one x y n)) in
      omega (arith, cut, pairs_append x y (from 0 n) (from (0 + n) 1), last, pairs_few x y n, sum_suc (has x y) n)

  -- ---- over all screen tiles

  module _ (cols : ℕ) where
    -- how many of the first n paths' boxes screen tile t is in
    abbrev boxes : ℕ → ℕ → ℕ
    boxes n t = sum_to (has (t % cols) (t / cols)) n

    boxes_pairs : (rows n : ℕ) → sum_to (boxes n) (cols * rows) ≡ pairs_to s.paths cols rows n
    boxes_pairs rows zero =
        sum_same (boxes 0) (λ t. 0) (cols * rows) (λ t h. sum_zero (has (t % cols) (t / cols))) ∙ sum_none (cols * rows) ∙ sym (pairs_none s.paths cols rows)
    boxes_pairs rows (suc n) =
        omega (
          arith,
          sum_same (boxes (suc n)) (λ t. boxes n t + has (t % cols) (t / cols) n) (cols * rows) (λ t h. sum_suc (has (t % cols) (t / cols)) n),
          sum_add (boxes n) (λ t. has (t % cols) (t / cols) n) (cols * rows),
          box_tiles (path_at s.paths n) cols rows,
          boxes_pairs rows n,
          pairs_suc s.paths cols rows n,
        )

    fresh_append : (ts us : List ℕ) → fresh_of s cols (ts ++ us) ≡ fresh_of s cols ts + fresh_of s cols us
    fresh_append [] us = omega arith
    fresh_append (t ∷ ts) us = omega (arith, fresh_append ts us)

    -- a tile's fresh regions
    tile_fresh : (t : ℕ) → region_pairs * jumps_of own_words (tile_pairs s cols t) ≤ boxes (path_count s.paths) t
    unfolding tile_pairs
    tile_fresh t =
        omega (arith, jumps_most (pairs_of s (t % cols) (t / cols) (from 0 (path_count s.paths))), pairs_few (t % cols) (t / cols) (path_count s.paths))

    fresh_few : (n : ℕ) → region_pairs * fresh_of s cols (from 0 n) ≤ sum_to (boxes (path_count s.paths)) n
    fresh_few zero = omega arith
    fresh_few (suc n) =
        let z : suc n ≡ n + 1 = omega arith in
        let cut : fresh_of s cols (from 0 (suc n)) ≡ fresh_of s cols (from 0 n ++ from (0 + n) 1) =
        ap (λ (k : ℕ). fresh_of s cols (from 0 k)) z ∙ ap (fresh_of s cols) (from_add 0 n 1) in
        let m : 0 + n ≡ n = omega arith in
        let last : fresh_of s cols (from (0 + n) 1) ≡ jumps_of own_words (tile_pairs s cols n) = rw m (omega arith) in
        omega (arith, cut, fresh_append (from 0 n) (from (0 + n) 1), last, tile_fresh n, fresh_few n, sum_suc (boxes (path_count s.paths)) n)

    -- so the words told hold all regions
    pub words_enough : (rows : ℕ) → tile_words * regions_of s cols rows ≤ words_of s.paths cols rows
    unfolding regions_of words_of
    words_enough rows = omega (arith, fresh_few (cols * rows), boxes_pairs rows (path_count s.paths))

-- ---- the call

-- 15 is the only number of the tiles' lengths
long_is : (s : Tables) (cols : ℕ) (ts : List ℕ) (n item : ℕ) → long_from s cols ts ≡ Answer.Refused n item → n ≡ too_long_word
long_is s cols [] n item e = let z : ◌≡◌ {A = ℕ} 0 1 = cc in absurd (omega arith)
long_is s cols (t ∷ ts) n item e = go (leb (commands_of (tile_pairs s cols t)) most_commands) e (long_is s cols ts n item)
  where
    go : (b : Bool) → cond b (long_from s cols ts) (Answer.Refused too_long_word t) ≡ Answer.Refused n item → (long_from s cols ts ≡ Answer.Refused n item → n ≡ too_long_word) → n ≡ too_long_word
    go true q ih = ih q
    go false q ih = cc

-- Tables as a hand-out with that room left them: lists over the words told are never refused with 9
pub lists_room : (paths paints : List ℕ) (backdrops : List ℤ) (stored tally : List ℕ) (room : ℕ) → Handed room stored tally → (cols rows : ℕ) (ws : List ℕ)
    → words_of paths cols rows ≤ length ws → (item : ℕ) → (write_lists_of (tables paths paints backdrops stored tally) cols rows room ws).paper ≢ no_room_word ∷ item ∷ []
unfolding write_lists_of answer_of
lists_room paths paints backdrops stored tally room h cols rows ws enough item e =
    go (call_answer s cols rows) refl (long_from s cols (screen_tiles cols rows)) refl (first_no row) fine e
  where
    s : Tables
    s = tables paths paints backdrops stored tally

    row : List Check
    row = room_checks (regions_of s cols rows) (length ws) (fills_fit s cols room (screen_tiles cols rows))

    fine : first_no row ≡ Fine
    fine =
        none_fails row (
          le-leb (tile_words * regions_of s cols rows) (length ws) (omega (arith, words_enough s cols rows, enough)),
          (handed_fits paths paints backdrops stored tally room h cols (screen_tiles cols rows), tt),
        )

    go : (a : Answer) → call_answer s cols rows ≡ a → (l : Answer) → long_from s cols (screen_tiles cols rows) ≡ l → (v : Verdict) → v ≡ Fine
        → (on_done (then_check a (then_check l (unless v 0 Answer.Done))) ws (written (lists_of s cols rows) ws)).paper ≡ no_room_word ∷ item ∷ [] → ⊥
    go (Answer.Refused n i) f l g v k q = let z : n ≡ no_room_word = cc in omega (arith, lists_early s cols rows n i f)
    go Answer.Done f (Answer.Refused n i) g v k q = let z : n ≡ no_room_word = cc in omega (arith, long_is s cols (screen_tiles cols rows) n i g)
    go Answer.Done f Answer.Done g Fine k q = let z : ◌≡◌ {A = ℕ} 0 1 = cc in omega arith
    go Answer.Done f Answer.Done g (Against n) k q = let z : ◌≡◌ {A = ℕ} 0 1 = cc in omega arith
