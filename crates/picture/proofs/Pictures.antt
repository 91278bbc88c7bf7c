-- The theorem: from lines to pixels. If the calls are done one after another, or a frame, its lists and fine are, the pixels are the picture of the
-- lines. And what follows for a tile whose paths' lines are the same. Assumes nothing.
use mathlib.Core.Path.{◌≡◌, refl, sym, ap, subst, ◌∙◌}
use mathlib.Core.Bool.{Bool, true, false, cond}
use mathlib.Core.List.{List}
use Prim.Native.Nat.{ℕ, ◌/◌, ◌≤◌, ◌<◌}
use native.Mathlib.Omega.{arith}
use lib.ListN.{length}
use lib.IntN.{ℤ, pos, ◌+ℤ◌}
use lib.Ieee.{Float}
use Rattle.lists.specs.Run.{act_all}
use Rattle.lists.specs.Sums.{sum}
use Rattle.panel.specs.Widths.{segment_floats}
use Rattle.panel.specs.Limits.{most_slots, most_tiles}
use Rattle.panel.specs.Paths.{path_at, path_count}
use Rattle.panel.specs.Paints.{colour_at, rule_at}
use Rattle.panel.specs.Pieces.{Pieces}
use Rattle.panel.specs.declared.kinds.Running.{Running}
use Rattle.panel.specs.Answer.{Done}
use Rattle.panel.proofs.PathLaws.{checked}
use Rattle.backdrop.specs.Backdrop as Backdrop
use Rattle.hand_out.specs.HandOut.{hand, hand_out_of, out_of}
use Rattle.looks.specs.Look.{lent}
use Rattle.path_tiling.specs.Tiling.{Range, applied, call_of}
use Rattle.frame.specs.Frame as Frame
use Rattle.frame.specs.Framed as Framed
use Rattle.screen_tile.specs.Tile.{clear}
use Rattle.fine.specs.Fine.{shown}
use Rattle.pairs.specs.Pairs.{tables, in_box}
use Rattle.theorems.specs.Drawn.{Drawn, drawn, walk_of, of_path}
use Rattle.theorems.specs.Refs.{AllCounted}
use Rattle.theorems.proofs.Exact.{HandCase, unpaired, many, over, fine, hand_case}
use Rattle.theorems.proofs.SumLaws.{passed}
use Rattle.theorems.proofs.StrayLaws.{handed_is, no_stray}
use Rattle.theorems.proofs.Framing.{frame_done, counts_long}
use Rattle.list_theorems.specs.Painted.{screen_of}
use Rattle.list_theorems.specs.Written.{Wrote, AllI32}
use Rattle.call_theorems.proofs.Drawn.{drawn_like_painted}
use Rattle.picture.specs.Picture.{all_pieces, pieces_of, line_winding, winding_of, lay_of, path_over, pixel_of, picture_of}
use Rattle.picture.specs.Shown.{Shows}
use Rattle.picture.proofs.Drawing.{call_whole, pixels_same, same_acts}

-- ---- the calls one by one

module _ (b : ℕ) (nos : List ℕ) (coords : List Float) (paths : List ℕ) (n : ℕ) (refs : List ℕ) (bs : List ℤ) (cs rs : List ℕ) (m : ℕ)
    (counted : AllCounted b nos coords paths n refs bs cs rs m) (summed : List ℤ) (added : Backdrop.backdrop_of paths bs ≡ Backdrop.out_of Done summed)
    (room : ℕ) (kept : List ℕ) (p : Pieces) (enough : m ≤ length p.segments / segment_floats)
    (paints : List ℕ) (cols rows : ℕ) (ws words : List ℕ) (fit : AllI32 summed) where
  abbrev segments_after : List ℕ → List Float
  segments_after stored = (applied (call_of 0 m (lent nos coords paths stored rs) p).writes p).segments

  as_handed : hand_out_of room cs kept ≡ out_of Done (hand 0 cs) cs → (call_of 0 m (lent nos coords paths (hand 0 cs) rs) p).answer ≡ Done
      → Wrote (tables paths paints summed (hand 0 cs) cs) cols rows room ws words → Shows paths paints (drawn nos coords b) cols rows words (segments_after (hand 0 cs))
  unfolding picture_of
  as_handed out tiled wrote width pixels holds =
      let L = lent nos coords paths (hand 0 cs) rs in
      let stray = no_stray b nos coords paths n refs bs cs rs m room kept (hand 0 cs) cs p counted out in
      drawn_like_painted b nos coords paths n refs bs cs rs m counted room kept (hand 0 cs) cs out p (call_whole L p m tiled) enough tiled paints summed cols rows ws words wrote fit
      width pixels holds
      ∙ ap (λ (c : ℕ → ℕ → ℕ → List Float). shown Done (screen_of c width cols rows pixels))
      (pixels_same b nos coords paths n refs bs cs rs m counted summed added p tiled stray paints)

  -- lines counted into zeroed tiles, summed, handed out, tiled and listed with no refusal: fine shows the picture of the lines
  pub calls_show : (stored tally : List ℕ) → hand_out_of room cs kept ≡ out_of Done stored tally → (call_of 0 m (lent nos coords paths stored rs) p).answer ≡ Done
      → Wrote (tables paths paints summed stored tally) cols rows room ws words → Shows paths paints (drawn nos coords b) cols rows words (segments_after stored)
  calls_show stored tally out =
      let k = handed_is room cs kept stored tally out in
      let Goal : List ℕ → List ℕ → Type 0 = λ st tl. hand_out_of room cs kept ≡ out_of Done st tl → (call_of 0 m (lent nos coords paths st rs) p).answer ≡ Done
      → Wrote (tables paths paints summed st tl) cols rows room ws words → Shows paths paints (drawn nos coords b) cols rows words (segments_after st) in
      subst (λ (st : List ℕ). Goal st tally) (sym k.0) (subst (λ (tl : List ℕ). Goal (hand 0 cs) tl) (sym k.1) as_handed) out

-- ---- a frame

module _ (nos : List ℕ) (coords : List Float) (paths : List ℕ) (backs : List ℤ) (stored tally refs : List ℕ) (p : Pieces)
    (s : Running) (bs : List ℤ) (ts ks rs : List ℕ) (q : Pieces)
    (e : Frame.frame_of nos coords paths backs stored tally refs p ≡ Frame.out_of (Framed.Done s) bs ts ks rs q)
    (room : ℕ) (fits : s.refs ≤ room) (paints : List ℕ) (cols rows : ℕ) (ws words : List ℕ) (fit : AllI32 bs) where
  -- a frame that is done, its lists and fine: the picture of the frame's lines, whatever was lent in backdrops, stored words, tally, references, segments,
  -- tags and words before
  pub frame_shows : Wrote (tables paths paints bs ts ks) cols rows room ws words → Shows paths paints (drawn nos coords (length nos)) cols rows words q.segments
  frame_shows wrote =
      let f = frame_done nos coords paths backs stored tally refs p bs ts ks rs q s e in
      let c = f.counts in
      let call = f.called in
      let tiled : (call_of 0 s.refs (lent nos coords paths ts rs) p).answer ≡ Done = ap (λ (r : Range). r.answer) call in
      let enough : s.refs ≤ length p.segments / segment_floats = omega (arith, f.room) in
      let same : (applied (call_of 0 s.refs (lent nos coords paths ts rs) p).writes p).segments ≡ q.segments =
      ap (λ (r : Range). (applied r.writes p).segments) call ∙ sym (ap (λ (x : Pieces). x.segments) f.pieces) in
      let long = counts_long (length nos) nos coords paths (length stored) refs c.marks ks rs s.refs c.all in
      let ok = checked paths (length stored) (passed (length nos) nos coords paths (length stored) refs c.marks ks rs s.refs c.all) in
      subst (λ (l : List Float). Shows paths paints (drawn nos coords (length nos)) cols rows words l) same
      (calls_show (length nos) nos coords paths (length stored) refs c.marks ks rs s.refs c.all bs c.sums room ks p enough paints cols rows ws words fit ts ks
      (handed ks f.sums.total (omega (arith, long, ok.tiled)) (omega (arith, f.room)) ∙ ap (λ (st : List ℕ). out_of Done st ks) (sym f.handed)) tiled wrote)
    where
      handed : (cs : List ℕ) → sum cs ≡ s.refs → length cs ≤ most_tiles → s.refs ≤ most_slots → hand_out_of room cs cs ≡ out_of Done (hand 0 cs) cs
      handed cs total few slots = go (hand_case room cs cs)
        where
          go : HandCase room cs cs → hand_out_of room cs cs ≡ out_of Done (hand 0 cs) cs
          go (unpaired a x) = absurd (a refl)
          go (many a b x) = absurd (omega arith)
          go (over a b d x) = absurd (omega (arith, total))
          go (fine a b d x) = x

-- ---- what follows

-- a path's part of a pixel is told by that path's own lines alone
path_isolated : (paths paints : List ℕ) (ds es : List Drawn) (x y k q : ℕ) → (in_box (path_at paths q) x y ≡ true → of_path q ds ≡ of_path q es) → (px : List Float)
    → path_over paths paints ds x y k q px ≡ path_over paths paints es x y k q px
unfolding path_over pieces_of winding_of
path_isolated paths paints ds es x y k q h px = go (in_box (path_at paths q) x y) refl
  where
    part : List Drawn → List Float
    part l = lay_of k (colour_at paints q) (rule_at paints q) (all_pieces paths x y l)
        (act_all (λ d w. w +ℤ line_winding x y (walk_of paths d)) l (pos 0)) px

    go : (c : Bool) → in_box (path_at paths q) x y ≡ c → cond c (part (of_path q ds)) px ≡ cond c (part (of_path q es)) px
    go true e = ap part (h e)
    go false e = refl

-- **Beam isolation to the pixel.** On a screen tile where the lines of each path whose box has that tile are the same, in order, the pixels are equal
pub tile_isolated : (paths paints : List ℕ) (ds es : List Drawn) (x y : ℕ) → ((q : ℕ) → q < path_count paths → in_box (path_at paths q) x y ≡ true → of_path q ds ≡ of_path q es)
    → (k : ℕ) → pixel_of paths paints ds x y k ≡ pixel_of paths paints es x y k
unfolding pixel_of
tile_isolated paths paints ds es x y h k =
    same_acts (path_over paths paints ds x y k) (path_over paths paints es x y k) (path_count paths) 0 (path_count paths) (omega arith)
    (λ q l px. path_isolated paths paints ds es x y k q (h q l) px) clear

-- **Order.** Lines of different paths may change places, each path's own order kept: no pixel changes
pub any_order : (paths paints : List ℕ) (ds es : List Drawn) → ((q : ℕ) → q < path_count paths → of_path q ds ≡ of_path q es) → (width cols rows : ℕ) (pixels : List ℕ)
    → picture_of paths paints ds width cols rows pixels ≡ picture_of paths paints es width cols rows pixels
unfolding picture_of
any_order paths paints ds es h width cols rows pixels =
    let same : pixel_of paths paints ds ≡ pixel_of paths paints es = λ i x y k. tile_isolated paths paints ds es x y (λ q l b. h q l) k i in
    ap (λ (c : ℕ → ℕ → ℕ → List Float). screen_of c width cols rows pixels) same
