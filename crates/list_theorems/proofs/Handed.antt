-- Tables as hand-out leaves them: every FILL's slots lie within the room that hand-out was told, so 9 can only be for want of words. Assumes nothing.
use mathlib.Core.Path.{◌≡◌, refl, sym, ap, subst, ◌∙◌}
use mathlib.Core.Bool.{Bool, true, false, cond, ◌&&◌}
use mathlib.Core.List.{List, [], ◌∷◌, ◌++◌}
use Prim.Native.Nat.{ℕ, ◌+◌, ◌*◌, ◌/◌, ◌%◌, ◌≤◌, ◌<◌}
use native.Mathlib.Decide.{dec_lt}
use native.Mathlib.Omega.{arith}
use lib.Dec.{ltb}
use lib.IntN.{ℤ, pos}
use lib.ListN.{length, get_or, get_or-eq_default}
use borrow.Author.Tests.{le-leb, leb-true, ltb-true}
use Rattle.lists.specs.Sums.{sum, first, from, first_within}
use Rattle.panel.specs.Limits.{most_slots}
use Rattle.panel.specs.Checks.{first_no, unless}
use Rattle.panel.specs.Paths.{path_at, path_count, tile_of}
use Rattle.panel.specs.Slots.{not32}
use Rattle.panel.specs.Answer.{Answer, Done, Refused}
use Rattle.panel.specs.Verdict.{Verdict, Fine, Against}
use Rattle.panel.proofs.CheckLaws.{all_ok, none_fails, unless_fine}
use Rattle.hand_out.specs.HandOut.{hand, out_of, on_fine, hand_checks, hand_out_of}
use Rattle.hand_out.proofs.HandLaws.{reads_back, out_once}
use Rattle.commands.specs.Numbers.{tile_words}
use Rattle.commands.specs.Pixel.{even_odd_of}
use Rattle.pairs.specs.Pairs.{Tables, tables, colour_at, rule_at, in_box, covers, bits_of, on_tile, by_path, on_path, pairs_of, tile_pairs}
use Rattle.lay_pairs.specs.Layout.{written}
use Rattle.lay_pairs.specs.Slots.{slots_fit, all_fit}
use Rattle.write_lists.specs.Lists.{call_answer, long_from, fills_fit, room_checks, screen_tiles, regions_of, then_check, answer_of, lists_of, on_done, write_lists_of}
use Rattle.pairs.specs.declared.Pair.{Pair}
use Rattle.pairs.specs.declared.Pair.TheVariants.{Fill, Solid}
use Rattle.list_theorems.specs.Written.{Wrote}
use Rattle.list_theorems.specs.Refusing.{AllShort}
use Rattle.list_theorems.proofs.Exact.{short_done}

-- ---- what hand-out leaves

pub record Handed (room : ℕ) (stored tally : List ℕ) : Type 0 where
  pub words : stored ≡ hand 0 tally
  pub in_room : sum tally ≤ room
  pub few : sum tally ≤ most_slots

pub handed : (room : ℕ) (counts kept stored tally : List ℕ) → hand_out_of room counts kept ≡ out_of Done stored tally → Handed room stored tally
unfolding hand_out_of
handed room counts kept stored tally e = go (first_no (hand_checks room counts (length kept))) refl e
  where
    go : (v : Verdict) → first_no (hand_checks room counts (length kept)) ≡ v → on_fine v counts kept ≡ out_of Done stored tally → Handed room stored tally
    go Fine q d =
        let o = out_once Done Done (hand 0 counts) stored counts tally d in
        let k = all_ok (hand_checks room counts (length kept)) q in
        let n : counts ≡ tally = o.2 in
        subst (λ (l : List ℕ). Handed room stored l) n
        (record {
          words = sym o.1;
          in_room = leb-true (sum counts) room k.1.1.0;
          few = leb-true (sum counts) most_slots k.1.1.1.0;
        })
    go (Against n) q d = let z : Refused n 0 ≡ Done = (out_once (Refused n 0) Done counts stored kept tally d).0 in let w : ◌≡◌ {A = ℕ} 0 1 = cc in absurd (omega arith)

-- ---- every FILL fits

all_fit_append : (room : ℕ) (ps qs : List Pair) → all_fit room ps ≡ true → all_fit room qs ≡ true → all_fit room (ps ++ qs) ≡ true
all_fit_append room [] qs a b = b
all_fit_append room (p ∷ ps) qs a b = go (slots_fit room p) (all_fit_append room ps qs) a
  where
    go : (c : Bool) → (all_fit room ps ≡ true → all_fit room qs ≡ true → all_fit room (ps ++ qs) ≡ true) → (c && all_fit room ps) ≡ true → (c && all_fit room (ps ++ qs)) ≡ true
    go true ih h = ih h b
    go false ih h = h

module _ (room : ℕ) (stored tally : List ℕ) (h : Handed room stored tally) where
  -- a tile's slots end within the room
  slots_end : (t : ℕ) → 0 < get_or tally t 0 → (not32 (get_or stored t 0) + get_or tally t 0 ≤ room) × (not32 (get_or stored t 0) + get_or tally t 0 ≤ most_slots)
  slots_end t k = go (dec_lt t (length tally))
    where
      go : Dec (t < length tally) → (not32 (get_or stored t 0) + get_or tally t 0 ≤ room) × (not32 (get_or stored t 0) + get_or tally t 0 ≤ most_slots)
      go (yes b) =
          let e : not32 (get_or stored t 0) ≡ first tally t = ap (λ (l : List ℕ). not32 (get_or l t 0)) h.words ∙ reads_back tally h.few t b k in
          let w = first_within tally t in
          let r = h.in_room in
          let f = h.few in
          rw e (omega arith, omega arith)
      go (no b) = let e : get_or tally t 0 ≡ 0 = get_or-eq_default tally 0 (omega arith) in absurd (omega arith)

  tile_fits : (colour rule t : ℕ) (b : ℤ) → all_fit room (on_tile colour rule (get_or tally t 0) (get_or stored t 0) b) ≡ true
  unfolding on_tile
  tile_fits colour rule t b = go (ltb 0 (get_or tally t 0)) refl (covers (even_odd_of rule) b)
    where
      go : (f : Bool) → ltb 0 (get_or tally t 0) ≡ f → (c : Bool)
          → all_fit room (cond f (Fill (get_or tally t 0) rule (not32 (get_or stored t 0)) (bits_of b) colour ∷ []) (cond c (Solid colour ∷ []) [])) ≡ true
      go true e c =
          let s = slots_end t (ltb-true 0 (get_or tally t 0) e) in
          rw (le-leb (not32 (get_or stored t 0) + get_or tally t 0) room s.0, le-leb (not32 (get_or stored t 0) + get_or tally t 0) most_slots s.1)
      go false e true = refl
      go false e false = refl

-- all the writer's FILLs, on every screen tile: they are within the room
module _ (paths paints : List ℕ) (backdrops : List ℤ) (stored tally : List ℕ) (room : ℕ) (h : Handed room stored tally) (cols : ℕ) where
  abbrev s : Tables
  s = tables paths paints backdrops stored tally

  path_fits_lem : (x y p : ℕ) → all_fit room (on_path s x y p) ≡ true
  unfolding on_path
  path_fits_lem x y p = go (in_box (path_at paths p) x y)
    where
      t : ℕ
      t = tile_of (path_at paths p) x y

      go : (b : Bool) → all_fit room (cond b (by_path s p t) []) ≡ true
      go true = tile_fits room stored tally h (colour_at paints p) (rule_at paints p) t (get_or backdrops t (pos 0))
      go false = refl

  pairs_fit : (x y : ℕ) (ps : List ℕ) → all_fit room (pairs_of s x y ps) ≡ true
  pairs_fit x y [] = refl
  pairs_fit x y (p ∷ ps) = all_fit_append room (on_path s x y p) (pairs_of s x y ps) (path_fits_lem x y p) (pairs_fit x y ps)

  pub handed_fits : (ts : List ℕ) → fills_fit s cols room ts ≡ true
  unfolding tile_pairs
  handed_fits [] = refl
  handed_fits (t ∷ ts) = rw (pairs_fit (t % cols) (t / cols) (from 0 (path_count paths))) (handed_fits ts)

  -- so a call that isn't refused for 1 to 4 or 15, with words for its regions, is done
  pub handed_done : (rows : ℕ) (ws : List ℕ) → call_answer s cols rows ≡ Done → AllShort s cols rows → tile_words * regions_of s cols rows ≤ length ws
      → Wrote s cols rows room ws (written (lists_of s cols rows) ws)
  unfolding write_lists_of answer_of
  handed_done rows ws a b c =
      let n = tile_words * regions_of s cols rows in
      let f = none_fails (room_checks (regions_of s cols rows) (length ws) (fills_fit s cols room (screen_tiles cols rows))) (le-leb n (length ws) c, (handed_fits (screen_tiles cols rows), tt)) in
      ap (λ (x : Answer). on_done x ws (written (lists_of s cols rows) ws))
      (ap (λ (x : Answer). then_check x (then_check (long_from s cols (screen_tiles cols rows))
      (unless (first_no (room_checks (regions_of s cols rows) (length ws) (fills_fit s cols room (screen_tiles cols rows)))) 0 Done))) a
      ∙ ap (λ (x : Answer). then_check x (unless (first_no (room_checks (regions_of s cols rows) (length ws) (fills_fit s cols room (screen_tiles cols rows)))) 0
      Done)) (short_done s cols (cols * rows) 0 (λ v x y. b v (omega arith)))
      ∙ unless_fine (first_no (room_checks (regions_of s cols rows) (length ws) (fills_fit s cols room (screen_tiles cols rows)))) 0 Done f)

-- told no more room than the slots handed out, the writer writes the same
pub handed_used : (paths paints : List ℕ) (backdrops : List ℤ) (stored tally : List ℕ) (room : ℕ) → Handed room stored tally → (cols rows : ℕ) (ws words : List ℕ)
    → Wrote (tables paths paints backdrops stored tally) cols rows room ws words → Wrote (tables paths paints backdrops stored tally) cols rows (sum tally) ws words
unfolding write_lists_of answer_of
handed_used paths paints backdrops stored tally room h cols rows ws words w =
    let s = tables paths paints backdrops stored tally in
    let ts = screen_tiles cols rows in
    let own : Handed (sum tally) stored tally = record { words = h.words; in_room = omega arith; few = h.few } in
    let same : fills_fit s cols (sum tally) ts ≡ fills_fit s cols room ts =
    handed_fits paths paints backdrops stored tally (sum tally) own cols ts ∙ sym (handed_fits paths paints backdrops stored tally room h cols ts) in
    ap
    (λ (b : Bool).
    on_done (then_check (call_answer s cols rows) (then_check (long_from s cols ts) (unless (first_no (room_checks (regions_of s cols rows) (length ws) b)) 0 Done))) ws
    (written (lists_of s cols rows) ws))
    same
    ∙ w
