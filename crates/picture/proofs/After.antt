-- What follows from the theorem on the picture: lines in batches and references in ranges cut anywhere; which call can refuse after a done frame; where a
-- path's pieces come from, and what a tile without any tells. Assumes nothing.
use mathlib.Core.Path.{◌≡◌, refl, sym, ap, subst, ◌∙◌}
use mathlib.Core.Logic.{inl, inr}
use mathlib.Core.Bool.{Bool, true, false, cond}
use mathlib.Core.List.{List, [], ◌∷◌}
use Prim.Native.Nat.{ℕ, ◌*◌, ◌/◌, ◌≤◌, ◌<◌}
use native.Mathlib.Decide.{dec_lt}
use native.Mathlib.Omega.{arith}
use lib.Dec.{eqb}
use lib.ListN.{length, get_or, replicate}
use lib.IntN.{ℤ, pos}
use lib.Ieee.{Float}
use borrow.Author.Tests.{eqb-true}
use Rattle.lists.specs.Run.{All, all_append, keep_if}
use Rattle.lists.specs.Tally.{zeros}
use Rattle.lists.specs.Occ.{occ}
use Rattle.panel.specs.Widths.{line_floats, segment_floats}
use Rattle.panel.specs.Kinds.{running_of}
use Rattle.panel.specs.Paths.{path_at, path_count, tile_of}
use Rattle.panel.specs.Pieces.{Pieces}
use Rattle.panel.specs.declared.kinds.Running.{Running}
use Rattle.panel.specs.Answer as Answer
use Rattle.panel.specs.declared.segments.Segment.{Segment}
use Rattle.panel.proofs.KindLaws.{paper_once}
use Rattle.panel.proofs.PathLaws.{InBox, own_tile, checked}
use Rattle.acts.specs.Acts.{st_of}
use Rattle.path_count.specs.Count.{told_of, paper_of}
use Rattle.path_count.specs.Counted.{Done}
use Rattle.backdrop.specs.Backdrop as Backdrop
use Rattle.hand_out.specs.HandOut.{hand, hand_out_of, out_of}
use Rattle.looks.specs.Look.{lent}
use Rattle.path_tiling.specs.Tiling.{Tiled, tiled, range_tiled, applied, call_of}
use Rattle.frame.specs.Frame as Frame
use Rattle.frame.specs.Framed as Framed
use Rattle.commands.specs.Numbers.{tile_words}
use Rattle.commands.specs.Pixel.{even_odd_of}
use Rattle.pairs.specs.Pairs.{tables, colour_at, rule_at, in_box, covers}
use Rattle.lay_pairs.specs.Layout.{written}
use Rattle.write_lists.specs.Lists.{call_answer, regions_of, lists_of, Left}
use Rattle.theorems.specs.Batches.{Rising, last_of, in_batches, in_ranges}
use Rattle.theorems.specs.Drawn.{Drawn, drawn, walk_of, of_path}
use Rattle.theorems.specs.Refs.{AllCounted, ref_tiles}
use Rattle.theorems.specs.Stray.{NoStray}
use Rattle.theorems.proofs.SumLaws.{passed, sums}
use Rattle.theorems.proofs.Together.{batches_counted, no_stray_cut}
use Rattle.theorems.proofs.Framing.{frame_done}
use Rattle.list_theorems.specs.Written.{Wrote, AllI32}
use Rattle.list_theorems.specs.Refusing.{AllShort, NoRoom}
use Rattle.list_theorems.proofs.Exact.{lists_exact}
use Rattle.list_theorems.proofs.Handed.{Handed, handed_done}
use Rattle.picture.specs.Picture.{line_pieces, all_pieces, pieces_of, winding_of, lay_of, path_over}
use Rattle.picture.specs.Shown.{Shows}
use Rattle.picture.specs.Own.{Among, OwnPiece}
use Rattle.picture.proofs.AtSlots.{read_length}
use Rattle.picture.proofs.Drawing.{pieces_there}
use Rattle.picture.proofs.Pictures.{calls_show}

-- ---- batches and ranges, cut anywhere

pub cut_shows : (nos : List ℕ) (coords : List Float) (paths : List ℕ) (n : ℕ) (refs : List ℕ) (bs : List ℤ) (cs rs : List ℕ) (m e : ℕ) (es : List ℕ)
    → Rising 0 (e ∷ es) → last_of e es ≤ length coords / line_floats
    → in_batches (e ∷ es) (running_of 0 0) nos coords paths (replicate n (pos 0)) (zeros n) refs ≡ told_of (paper_of (Done (running_of (last_of e es) m))) (st_of bs cs rs m)
    → (summed : List ℤ) → Backdrop.backdrop_of paths bs ≡ Backdrop.out_of Answer.Done summed → AllI32 summed
    → (room : ℕ) (kept stored tally : List ℕ) → hand_out_of room cs kept ≡ out_of Answer.Done stored tally
    → (p q : Pieces) → m ≤ length p.segments / segment_floats → (f : ℕ) (fs : List ℕ) → Rising 0 (f ∷ fs) → last_of f fs ≡ m
    → in_ranges 0 (f ∷ fs) (lent nos coords paths stored rs) p ≡ tiled Answer.Done q
    → (paints : List ℕ) (cols rows : ℕ) (ws words : List ℕ) → Wrote (tables paths paints summed stored tally) cols rows room ws words
    → Shows paths paints (drawn nos coords (last_of e es)) cols rows words q.segments
cut_shows nos coords paths n refs bs cs rs m e es rise there told summed added fit room kept stored tally out p q enough f fs up last cut paints cols rows ws words wrote =
    let all = batches_counted nos coords paths n refs bs cs rs m e es rise there told in
    let one = (no_stray_cut (last_of e es) nos coords paths n refs bs cs rs m room kept stored tally p all out f fs up last).0 in
    let r = call_of 0 m (lent nos coords paths stored rs) p in
    let same : range_tiled r p ≡ tiled Answer.Done q = sym one ∙ cut in
    let ends : r.answer ≡ Answer.Done = paper_once r.answer Answer.Done (ap (λ (t : Tiled). t.paper) same) in
    subst (λ (x : Pieces). Shows paths paints (drawn nos coords (last_of e es)) cols rows words x.segments) (ap (λ (t : Tiled). t.pieces) same)
    (calls_show (last_of e es) nos coords paths n refs bs cs rs m all summed added room kept p enough paints cols rows ws words fit stored tally out ends wrote)

-- ---- which call can refuse after a done frame: fine never (`frame_shows`); lists, over paints and a screen that pass 1 to 4, with 15, or with 9 for want of words

module _ (nos : List ℕ) (coords : List Float) (paths : List ℕ) (backs : List ℤ) (stored tally refs : List ℕ) (p : Pieces)
    (s : Running) (bs : List ℤ) (ts ks rs : List ℕ) (q : Pieces)
    (e : Frame.frame_of nos coords paths backs stored tally refs p ≡ Frame.out_of (Framed.Done s) bs ts ks rs q)
    (room : ℕ) (fits : s.refs ≤ room) (paints : List ℕ) (cols rows : ℕ) (ws : List ℕ) (ok : call_answer (tables paths paints bs ts ks) cols rows ≡ Answer.Done)
    (short : AllShort (tables paths paints bs ts ks) cols rows) where
  tabled : Handed room ts ks
  tabled =
      let f = frame_done nos coords paths backs stored tally refs p bs ts ks rs q s e in
      record { words = f.handed; in_room = omega (arith, f.sums.total); few = omega (arith, f.sums.total, f.room) }

  -- where no tile has too many commands and the words are enough, the lists are written
  pub lists_done : tile_words * regions_of (tables paths paints bs ts ks) cols rows ≤ length ws
      → Wrote (tables paths paints bs ts ks) cols rows room ws (written (lists_of (tables paths paints bs ts ks) cols rows) ws)
  lists_done h = handed_done paths paints bs ts ks room tabled cols rows ws ok short h

  -- so 9 is for want of words
  pub nine_is_words : NoRoom (tables paths paints bs ts ks) cols rows room (length ws) → length ws < tile_words * regions_of (tables paths paints bs ts ks) cols rows
  nine_is_words h = go (dec_lt (length ws) (tile_words * regions_of (tables paths paints bs ts ks) cols rows))
    where
      go : Dec (length ws < tile_words * regions_of (tables paths paints bs ts ks) cols rows) → length ws < tile_words * regions_of (tables paths paints bs ts ks) cols rows
      go (yes l) = l
      go (no l) =
          let w = lists_done (omega arith) in
          let x = lists_exact (tables paths paints bs ts ks) cols rows room ws ok in
          absurd ((x.none.0 (ap (λ (o : Left). o.paper) w)).1 h)

-- ---- a quiet picture is a quiet beam

-- where the pieces come from
own_more : (paths : List ℕ) (p x y : ℕ) (d : Drawn) (lines : List Drawn) (s : Segment) → OwnPiece paths p x y lines s → OwnPiece paths p x y (d ∷ lines) s
own_more paths p x y d lines s o = record { line = o.line; there = inr o.there; own = o.own; piece = o.piece }

all_more : (paths : List ℕ) (p x y : ℕ) (d : Drawn) (lines : List Drawn) (ss : List Segment) → All (OwnPiece paths p x y lines) ss → All (OwnPiece paths p x y (d ∷ lines)) ss
all_more paths p x y d lines [] h = tt
all_more paths p x y d lines (s ∷ ss) h = (own_more paths p x y d lines s h.0, all_more paths p x y d lines ss h.1)

line_own : (paths : List ℕ) (p x y : ℕ) (d : Drawn) (lines : List Drawn) → d.path ≡ p → (ss : List Segment)
    → All (λ s. Among s (line_pieces x y (walk_of paths d))) ss → All (OwnPiece paths p x y (d ∷ lines)) ss
line_own paths p x y d lines e [] h = tt
line_own paths p x y d lines e (s ∷ ss) h = (record { line = d; there = inl refl; own = e; piece = h.0 }, line_own paths p x y d lines e ss h.1)

among_more : {A : Type 0} (ys zs : List A) (z : A) → All (λ y. Among y zs) ys → All (λ y. Among y (z ∷ zs)) ys
among_more [] zs z h = tt
among_more (y ∷ ys) zs z h = (inr h.0, among_more ys zs z h.1)

all_among : {A : Type 0} (xs : List A) → All (λ x. Among x xs) xs
all_among [] = tt
all_among (x ∷ xs) = (inl refl, among_more xs xs x (all_among xs))

-- each piece of a path is one of its own lines', and that line is in the list
pub pieces_own : (paths : List ℕ) (p x y : ℕ) (lines : List Drawn) → All (OwnPiece paths p x y lines) (pieces_of paths p x y lines)
unfolding pieces_of
pieces_own paths p x y [] = tt
pieces_own paths p x y (d ∷ ds) = go (eqb d.path p) refl (pieces_own paths p x y ds)
  where
    go : (k : Bool) → eqb d.path p ≡ k → All (OwnPiece paths p x y ds) (all_pieces paths x y (of_path p ds))
        → All (OwnPiece paths p x y (d ∷ ds)) (all_pieces paths x y (keep_if k d (of_path p ds)))
    go true e h =
        all_append (OwnPiece paths p x y (d ∷ ds)) (line_pieces x y (walk_of paths d)) (all_pieces paths x y (of_path p ds))
        (line_own paths p x y d ds (eqb-true d.path p e) (line_pieces x y (walk_of paths d)) (all_among (line_pieces x y (walk_of paths d))))
        (all_more paths p x y d ds (all_pieces paths x y (of_path p ds)) h)
    go false e h = all_more paths p x y d ds (all_pieces paths x y (of_path p ds)) h

-- a path with no piece in a tile, whose winding doesn't cover there, is not drawn there at all
pub not_drawn : (paths paints : List ℕ) (lines : List Drawn) (x y k q : ℕ) (px : List Float) → pieces_of paths q x y lines ≡ []
    → covers (even_odd_of (rule_at paints q)) (winding_of paths q x y lines) ≡ false → path_over paths paints lines x y k q px ≡ px
unfolding path_over
not_drawn paths paints lines x y k q px e f = go (in_box (path_at paths q) x y)
  where
    go : (c : Bool) → cond c (lay_of k (colour_at paints q) (rule_at paints q) (pieces_of paths q x y lines) (winding_of paths q x y lines) px) px ≡ px
    go true = rw (e, f)
    go false = refl

-- after the calls: a tile has as many pieces of its path as it has references; so where it has none, no step that was counted lies there
module _ (b : ℕ) (nos : List ℕ) (coords : List Float) (paths : List ℕ) (n : ℕ) (refs : List ℕ) (bs : List ℤ) (cs rs : List ℕ) (m : ℕ)
    (counted : AllCounted b nos coords paths n refs bs cs rs m) (summed : List ℤ) (added : Backdrop.backdrop_of paths bs ≡ Backdrop.out_of Answer.Done summed)
    (p : Pieces) (ends : (call_of 0 m (lent nos coords paths (hand 0 cs) rs) p).answer ≡ Answer.Done)
    (stray : NoStray nos coords paths cs rs m p (call_of 0 m (lent nos coords paths (hand 0 cs) rs) p))
    (q x y : ℕ) (there : q < path_count paths) (box : InBox (path_at paths q) x y) where
  pub pieces_counted : length (pieces_of paths q x y (drawn nos coords b)) ≡ get_or cs (tile_of (path_at paths q) x y) 0
  pieces_counted =
      sym (ap length (pieces_there b nos coords paths n refs bs cs rs m counted summed added p ends stray [] q x y there box))
      ∙ read_length (applied (call_of 0 m (lent nos coords paths (hand 0 cs) rs) p).writes p).segments _ _

  pub quiet_tile : pieces_of paths q x y (drawn nos coords b) ≡ [] → occ (tile_of (path_at paths q) x y) (ref_tiles nos coords paths rs m) ≡ 0
  quiet_tile e =
      let f = (checked paths n (passed b nos coords paths n refs bs cs rs m counted)).fits q there in
      let inside : tile_of (path_at paths q) x y < n = omega (arith, (own_tile (path_at paths q) x y box).1, f.within) in
      sym ((sums b nos coords paths n refs bs cs rs m counted).each (tile_of (path_at paths q) x y) inside) ∙ sym pieces_counted ∙ ap length e
