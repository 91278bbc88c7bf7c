-- The theorems: a list written is never refused, its commands are its pairs in painting order, and its pixels are those of painting the paths one
-- after another. docs/THEOREMS.md, "Lists written". Assumes nothing.
use mathlib.Core.Path.{◌≡◌, sym, ap, subst, ◌∙◌}
use mathlib.Core.Logic.{inr, ⊎_elim}
use mathlib.Core.List.{List}
use Prim.Native.Nat.{ℕ, ◌+◌, ◌*◌, ◌/◌, ◌%◌, ◌≤◌, ◌<◌}
use native.Mathlib.Omega.{arith}
use lib.ListN.{length, get_or}
use lib.Ieee.{Float}
use borrow.Author.Tests.{le-leb, eq-eqb}
use Rattle.util.specs.Constants as Number
use Rattle.lists.specs.Run.{All}
use Rattle.lists.specs.Sums.{from}
use Rattle.panel.specs.Limits.{most_tiles, most_commands}
use Rattle.panel.specs.Widths.{segment_floats}
use Rattle.panel.specs.Answer.{Answer, Done}
use Rattle.panel.specs.Verdict.{Verdict}
use Rattle.panel.specs.Segments.{segment_at}
use Rattle.panel.proofs.CheckLaws.{none_fails}
use Rattle.panel.proofs.HeldLaws.{is_straight}
use Rattle.coverage.proofs.Crooked.{all_straight}
use Rattle.panel.proofs.KindLaws.{paper_once}
use Rattle.sides.specs.Tile.{tile_width, tile_height}
use Rattle.commands.specs.Numbers.{tile_words, start_of}
use Rattle.commands.specs.Moves.{Trace, end_of}
use Rattle.commands.specs.Pixel.{point, point_of}
use Rattle.screen_tile.specs.Tile.{clear, tile_trace, colour_at}
use Rattle.fine.specs.Fine.{fine_checks, tiles_of, shown_of, unless_no, fine_of}
use Rattle.pairs.specs.Pairs.{Tables, tile_pairs}
use Rattle.lay_pairs.specs.Layout.{own_words}
use Rattle.write_lists.specs.Lists.{fresh_of, lists_from, regions_of, lists_of, Left, ListsMet}
use Rattle.pairs.specs.declared.Pair.{Pair}
use Rattle.pairs.specs.declared.Pair.TheVariants.{Fill, Solid}
use Rattle.list_theorems.specs.Painted.{painted}
use Rattle.list_theorems.specs.Written.{Wrote, Fills, AllI32, PairsInOrder, NeverRefused, LikePainted}
use Rattle.list_theorems.proofs.Regions.{ChunkStands, InWords, Filled, Drawn, Off, all_stand, word_stays, list_goes}
use Rattle.list_theorems.proofs.Apart.{all_map, lists_in, lists_apart, tile_among, first_off}
use Rattle.list_theorems.proofs.Passed.{Passed, passed}
use Rattle.list_theorems.proofs.Pixels.{list_ends, list_paints, pairs_paint}
use Rattle.list_theorems.proofs.Screens.{tiles_shown}

-- ---- the promise

-- it admits one answer only, and one content of the words
pub one_lists : (s : Tables) (cols rows room : ℕ) (ws : List ℕ) (r r' : Answer) (after after' : List ℕ) → ListsMet s cols rows room ws r after → ListsMet s cols rows room ws r' after'
    → (r ≡ r') × (after ≡ after')
one_lists s cols rows room ws r r' after after' p q = let e = p ∙ sym q in (paper_once r r' (ap (λ (l : Left). l.paper) e), ap (λ (l : Left). l.words) e)

-- a call that answers done has written
pub met_wrote : (s : Tables) (cols rows room : ℕ) (ws after : List ℕ) → ListsMet s cols rows room ws Done after → Wrote s cols rows room ws after
met_wrote s cols rows room ws after p = sym p

-- ---- what was written

-- FILLs within the room told are not refused
drawn : {room : ℕ} {segs : List Float} → Fills room segs → (p : Pair) → Filled room p → Drawn segs p
drawn {room = room} {segs = segs} fills (Fill count rule first backdrop colour) f =
    let h = fills.enough in
    let all = all_straight segs first count (λ j l. is_straight (segment_at segs (first + j)) (fills.straight (first + j) (omega arith))) in
    rw (le-leb (first + count) (length segs / segment_floats) (omega arith), all)
drawn fills (Solid colour) f = tt

module _ (s : Tables) (cols rows room : ℕ) (ws words : List ℕ) (wrote : Wrote s cols rows room ws words) where
  p : Passed s cols rows room ws words
  p = passed s cols rows room ws words wrote

  -- all chunks stand in the words left
  pub stand : All (ChunkStands words) (lists_of s cols rows)
  unfolding lists_of regions_of
  stand =
      let n = cols * rows in
      let cs = lists_from s cols (tile_words * n) (from 0 n) in
      let r : tile_words * (n + fresh_of s cols (from 0 n)) ≤ length ws = p.regions in
      subst (λ (l : List ℕ). All (ChunkStands l) cs) (sym p.are)
      (all_stand cs ws (lists_apart s cols n 0 (tile_words * n) (omega arith))
      (all_map _ (InWords (length ws)) (λ c. ⊎_elim (λ q. omega arith) (λ q. omega arith)) cs (lists_in s cols n 0 (tile_words * n))))

  -- a word past all regions stays
  pub rest_stays : (i : ℕ) → tile_words * regions_of s cols rows ≤ i → get_or words i 0 ≡ get_or ws i 0
  unfolding lists_of regions_of
  rest_stays i h =
      let n = cols * rows in
      let cs = lists_from s cols (tile_words * n) (from 0 n) in
      ap (λ (l : List ℕ). get_or l i 0) p.are
      ∙ word_stays cs ws i (all_map _ (Off i) (λ c. ⊎_elim (λ q. inr (omega arith)) (λ q. inr (omega arith))) cs (lists_in s cols n 0 (tile_words * n)))

  -- so does the first word of each tile's own region
  pub first_stays : (t : ℕ) → t < cols * rows → get_or words (tile_words * t) 0 ≡ get_or ws (tile_words * t) 0
  unfolding lists_of
  first_stays t h =
      let n = cols * rows in
      let cs = lists_from s cols (tile_words * n) (from 0 n) in
      ap (λ (l : List ℕ). get_or l (tile_words * t) 0) p.are ∙ word_stays cs ws (tile_words * t) (first_off s cols n 0 (tile_words * n) t (omega arith))

  module _ (segs : List Float) (fills : Fills room segs) where
    pub pairs_in_order : PairsInOrder s cols rows words segs
    unfolding tile_trace lists_of
    pairs_in_order t h =
        let w = tile_among s cols (ChunkStands words) (cols * rows) 0 (tile_words * (cols * rows)) t (omega arith) (omega arith) stand in
        list_goes words segs (tile_pairs s cols t) most_commands (start_of t) own_words w.0
        (all_map (Filled room) (Drawn segs) (drawn fills) (tile_pairs s cols t) (p.filled t h)) (p.short t h) w.1

    pub never_refused : NeverRefused cols rows words segs
    never_refused t h = ap end_of (pairs_in_order t h) ∙ list_ends own_words (tile_pairs s cols t)

    colour_is : AllI32 s.backdrops → (t : ℕ) → t < cols * rows → (k : ℕ) → colour_at words segs t k ≡ painted s segs (t % cols) (t / cols) k
    unfolding colour_at
    colour_is fit t h k =
        ap (λ (x : Trace). (point_of segs k x (point Number.zero clear)).colour) (pairs_in_order t h)
        ∙ list_paints segs k (tile_pairs s cols t) own_words Number.zero clear
        ∙ pairs_paint segs k s cols t fit

    pub like_painted : AllI32 s.backdrops → LikePainted s cols rows words segs
    unfolding fine_of
    like_painted fit width pixels holds =
        let ok = none_fails (fine_checks (length segs) width cols rows 0 (cols * rows) (length pixels)) (
          eq-eqb (length segs % segment_floats) 0 fills.whole,
          (
            le-leb 0 (cols * rows) (omega arith),
            (
              le-leb (cols * rows) (cols * rows) (omega arith),
              (le-leb (cols * rows) most_tiles p.few_tiles, (le-leb (tile_width * cols) width holds.wide, (le-leb (width * (tile_height * rows)) (length pixels) holds.high, tt))),
            ),
          ),
        ) in
        ap (λ (v : Verdict). unless_no v pixels (shown_of (tiles_of words segs width cols 0 (cols * rows) pixels))) ok
        ∙ ap shown_of (tiles_shown (painted s segs) width cols rows words segs pixels never_refused (colour_is fit))
