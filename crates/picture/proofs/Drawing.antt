-- The picture is a function of the lines: after counting, sums, hand-out, tiling, lists and fine, each with no refusal, and after a frame that is done, its
-- lists and fine, the pixels are the picture of the lines, whatever was lent before. Assumes nothing.
use mathlib.Core.Path.{◌≡◌, refl, sym, ap, subst, ◌∙◌}
use mathlib.Core.Bool.{Bool, true, false, cond, ◌&&◌, ◌||◌}
use mathlib.Core.List.{List, [], ◌∷◌}
use Prim.Native.Nat.{ℕ, zero, suc, ◌+◌, ◌-◌, ◌/◌, ◌%◌, ◌≤◌, ◌<◌}
use native.Mathlib.Omega.{arith}
use lib.Dec.{leb, ltb, eqb}
use lib.ListN.{length, get_or}
use lib.IntN.{ℤ, pos}
use lib.Ieee.{Float}
use borrow.Author.Tests.{eqb-true}
use Rattle.lists.specs.Run.{All, act_all, keep_if}
use Rattle.lists.specs.Sums.{sum, first, from}
use Rattle.panel.specs.Limits.{most_slots}
use Rattle.panel.specs.Refusals.{not_whole, no_such, coordinate}
use Rattle.panel.specs.Widths.{path_words, line_floats, ref_words, segment_floats}
use Rattle.panel.specs.Paths.{path_at, path_count, tile_of, paths_answer}
use Rattle.panel.specs.Paints.{colour_at, rule_at}
use Rattle.panel.specs.Pieces.{Pieces}
use Rattle.panel.specs.Slots.{not32}
use Rattle.panel.specs.Segments.{segment_at}
use Rattle.panel.specs.declared.kinds.Path.{Path}
use Rattle.panel.specs.Answer.{Answer, Done, Refused}
use Rattle.panel.proofs.BoolLaws.{both}
use Rattle.panel.proofs.PathLaws.{InBox, own_tile, checked}
use Rattle.backdrop.specs.Backdrop as Backdrop
use Rattle.backdrop.specs.Backdrop.{backdrop_at}
use Rattle.backdrop.proofs.CellLaws.{row_held, backdrop_cell}
use Rattle.hand_out.specs.HandOut.{hand}
use Rattle.hand_out.proofs.HandLaws.{reads_back}
use Rattle.walk.specs.Lent.{reached_of, walked_of}
use Rattle.walk.specs.Skip.{flat_of, past_of}
use Rattle.walk.specs.Setup.{ends_of}
use Rattle.walk.specs.Page.{line_of}
use Rattle.walk.specs.declared.kinds.Walk.{Walk}
use Rattle.walk.specs.Walked as Found
use Rattle.looks.specs.Look.{Lent, lent}
use Rattle.path_tiling.specs.Tiling.{Range, applied, slots_of, range_of, whole_of, checks_of, checked_then, call_of}
use Rattle.screen_tile.specs.Tile.{clear}
use Rattle.pairs.specs.Pairs.{Tables, tables, in_box}
use Rattle.theorems.specs.Drawn.{Drawn, drawn, walk_of, of_path}
use Rattle.theorems.specs.Refs.{AllCounted}
use Rattle.theorems.specs.Stray.{NoStray}
use Rattle.theorems.proofs.SumLaws.{sums, passed, whole}
use Rattle.theorems.proofs.Isolation.{seen_back}
use Rattle.theorems.proofs.Framing.{counts_long}
use Rattle.pairs.proofs.PairLaws.{box_in}
use Rattle.list_theorems.specs.Painted.{paint_tile, paint_path, painted}
use Rattle.picture.specs.Picture.{pieces_of, winding_of, lay_of, path_over, pixel_of}
use Rattle.picture.proofs.AtSlots.{read_from, tile_laid}
use Rattle.picture.proofs.AtTile.{pieces_read}
use Rattle.picture.proofs.Windings.{row_sum}

-- ---- lists

pub same_acts : {W : Type 0} (f g : ℕ → W → W) (n a b : ℕ) → a + n ≤ b → ((p : ℕ) → p < b → (w : W) → f p w ≡ g p w) → (w : W) → act_all f (from a n) w ≡ act_all g (from a n) w
same_acts f g zero a b h e w = refl
same_acts f g (suc n) a b h e w = same_acts f g n (suc a) b (omega arith) e (f a w) ∙ ap (act_all g (from (suc a) n)) (e a (omega arith) w)

-- a line of path p is walked over p's box
walk_box : (paths : List ℕ) (d : Drawn) (v : Walk) (c : Path) → walk_of paths d ≡ Found.Line v c → c ≡ path_at paths d.path
unfolding walk_of walked_of
walk_box paths d v c e = go (reached_of d.ends.p0 d.ends.p1) (ltb d.path (path_count paths)) skipped e
  where
    b : Path
    b = path_at paths d.path

    skipped : Bool
    skipped =
        flat_of (ends_of d.ends.p0 d.ends.p1).s0 (ends_of d.ends.p0 d.ends.p1).s1
        || past_of (ends_of d.ends.p0 d.ends.p1).s0 (ends_of d.ends.p0 d.ends.p1).s1 (path_at paths d.path)

    go : (q r s : Bool) → cond q (cond r (cond s Found.Skipped (Found.Line (line_of d.ends.p0 d.ends.p1) (path_at paths d.path))) (Found.Refused no_such))
        (Found.Refused coordinate) ≡ Found.Line v c
        → c ≡ path_at paths d.path
    go true true true h = let z : ◌≡◌ {A = ℕ} 0 1 = cc in absurd (omega arith)
    go true true false h = let z : path_at paths d.path ≡ c = cc in sym z
    go true false s h = let z : ◌≡◌ {A = ℕ} 0 1 = cc in absurd (omega arith)
    go false r s h = let z : ◌≡◌ {A = ℕ} 0 1 = cc in absurd (omega arith)

own_boxes : (paths : List ℕ) (p : ℕ) (ds : List Drawn) → All (λ d. (v : Walk) (c : Path) → walk_of paths d ≡ Found.Line v c → c ≡ path_at paths p) (of_path p ds)
own_boxes paths p [] = tt
own_boxes paths p (d ∷ ds) = go (eqb d.path p) refl (own_boxes paths p ds)
  where
    P : Drawn → Type 0
    P e = (v : Walk) (c : Path) → walk_of paths e ≡ Found.Line v c → c ≡ path_at paths p

    go : (k : Bool) → eqb d.path p ≡ k → All (λ e. (v : Walk) (c : Path) → walk_of paths e ≡ Found.Line v c → c ≡ path_at paths p) (of_path p ds)
        → All (λ e. (v : Walk) (c : Path) → walk_of paths e ≡ Found.Line v c → c ≡ path_at paths p) (keep_if k d (of_path p ds))
    go true q h = ((λ v c e. walk_box paths d v c e ∙ ap (path_at paths) (eqb-true d.path p q)), h)
    go false q h = h

-- a call of tiling that was done is its range
call_range : (L : Lent) (p : Pieces) (m : ℕ) → (call_of 0 m L p).answer ≡ Done → call_of 0 m L p ≡ range_of L (slots_of (length p.segments)) (m - 0) 0
unfolding call_of
call_range L p m e = go (checks_of 0 m L p) e
  where
    go : (a : Answer) → (checked_then a (range_of L (slots_of (length p.segments)) (m - 0) 0)).answer ≡ Done
        → checked_then a (range_of L (slots_of (length p.segments)) (m - 0) 0) ≡ range_of L (slots_of (length p.segments)) (m - 0) 0
    go Done h = refl
    go (Refused why item) h = let z : ◌≡◌ {A = ℕ} 0 1 = cc in absurd (omega arith)

-- and whole segments were lent
pub call_whole : (L : Lent) (p : Pieces) (m : ℕ) → (call_of 0 m L p).answer ≡ Done → length p.segments % segment_floats ≡ 0
unfolding call_of checks_of whole_of
call_whole L p m e = go whole_test refl e
  where
    A : Bool
    A =
        eqb (length L.coords % line_floats) 0 && eqb (length L.path_nos) (length L.coords / line_floats) && eqb (length L.paths % path_words) 0
        && eqb (length L.refs % ref_words) 0

    whole_test : Bool
    whole_test =
        A && eqb (length p.segments % segment_floats) 0 && eqb (length p.tags) (length p.segments / segment_floats) && leb 0 m && leb m (length L.refs / ref_words)

    go : (t : Bool) → whole_test ≡ t
        → (checked_then (cond t (paths_answer L.paths (length L.stored)) (Refused not_whole 0)) (range_of L (slots_of (length p.segments)) (m - 0) 0)).answer ≡ Done
        → length p.segments % segment_floats ≡ 0
    go false q h = let z : ◌≡◌ {A = ℕ} 0 1 = cc in absurd (omega arith)
    go true q h =
        let S = eqb (length p.segments % segment_floats) 0 in
        let T = eqb (length p.tags) (length p.segments / segment_floats) in
        let i = both (A && S && T && leb 0 m) (leb m (length L.refs / ref_words)) q in
        let j = both (A && S && T) (leb 0 m) i.0 in
        let k = both (A && S) T j.0 in
        eqb-true (length p.segments % segment_floats) 0 (both A S k.0).1

-- ---- lines counted, summed, handed out and tiled

module _ (b : ℕ) (nos : List ℕ) (coords : List Float) (paths : List ℕ) (n : ℕ) (refs : List ℕ) (bs : List ℤ) (cs rs : List ℕ) (m : ℕ)
    (counted : AllCounted b nos coords paths n refs bs cs rs m) (summed : List ℤ) (added : Backdrop.backdrop_of paths bs ≡ Backdrop.out_of Done summed)
    (p : Pieces) (tiled : (call_of 0 m (lent nos coords paths (hand 0 cs) rs) p).answer ≡ Done)
    (stray : NoStray nos coords paths cs rs m p (call_of 0 m (lent nos coords paths (hand 0 cs) rs) p)) (paints : List ℕ) where
  abbrev L₀ : Lent
  L₀ = lent nos coords paths (hand 0 cs) rs

  abbrev after : List Float
  after = (applied (call_of 0 m L₀ p).writes p).segments

  abbrev lines : List Drawn
  lines = drawn nos coords b

  abbrev now : Tables
  now = tables paths paints summed (hand 0 cs) cs

  few : sum cs ≤ most_slots
  few = omega (arith, (sums b nos coords paths n refs bs cs rs m counted).total, (whole b nos coords paths n refs bs cs rs m counted).few)

  module _ (q x y : ℕ) (there : q < path_count paths) (box : InBox (path_at paths q) x y) where
    pub pieces_there : read_from after (not32 (get_or (hand 0 cs) (tile_of (path_at paths q) x y) 0)) (get_or cs (tile_of (path_at paths q) x y) 0) ≡ pieces_of paths q x y lines
    pieces_there = go (get_or cs t 0) refl
      where
        t : ℕ
        t = tile_of (path_at paths q) x y

        r : call_of 0 m L₀ p ≡ range_of L₀ (slots_of (length p.segments)) (m - 0) 0
        r = call_range L₀ p m tiled

        read : read_from after (first cs (tile_of (path_at paths q) x y)) (get_or cs (tile_of (path_at paths q) x y) 0) ≡ pieces_of paths q x y lines
        read =
            pieces_read b nos coords paths n refs bs cs rs m counted (slots_of (length p.segments))
            (subst (λ (o : Range). o.answer ≡ Done) r tiled) after
            (subst (λ (o : Range). All (λ w. segment_at after w.slot ≡ w.segment) o.writes) r stray.kept) q x y there box

        long : length cs ≡ n
        long = counts_long b nos coords paths n refs bs cs rs m counted

        inside : tile_of (path_at paths q) x y < length cs
        inside =
            let f = (checked paths n (passed b nos coords paths n refs bs cs rs m counted)).fits q there in
            omega (arith, (own_tile (path_at paths q) x y box).1, f.within, long)

        go : (c : ℕ) → get_or cs (tile_of (path_at paths q) x y) 0 ≡ c
            → read_from after (not32 (get_or (hand 0 cs) (tile_of (path_at paths q) x y) 0)) (get_or cs (tile_of (path_at paths q) x y) 0) ≡ pieces_of paths q x y lines
        go zero e = rw e (rw e at read)
        go (suc c) e =
            ap (λ (f : ℕ). read_from after f (get_or cs (tile_of (path_at paths q) x y) 0)) (reads_back cs few (tile_of (path_at paths q) x y) inside (omega (arith, e))) ∙ read

    winding_there : backdrop_at summed (tile_of (path_at paths q) x y) ≡ winding_of paths q x y lines
    unfolding winding_of
    winding_there =
        backdrop_cell paths bs summed added q x y there box
        ∙ row_sum paths (path_at paths q) x y box (of_path q lines) (own_boxes paths q lines) bs
        (λ t l k. let h = row_held (path_at paths q) x y t box l k in
        let f = (checked paths n (passed b nos coords paths n refs bs cs rs m counted)).fits q there in
        seen_back b nos coords paths n refs bs cs rs m counted q t (there, h.0, h.1) (omega (arith, h.1, f.within)))

  -- each path puts on a pixel what the picture has of it
  path_same : (x y k q : ℕ) → q < path_count paths → (px : List Float) → paint_path now after x y k q px ≡ path_over paths paints lines x y k q px
  unfolding paint_path path_over
  path_same x y k q there px = go (in_box (path_at paths q) x y) refl
    where
      t : ℕ
      t = tile_of (path_at paths q) x y

      go : (c : Bool) → in_box (path_at paths q) x y ≡ c
          → cond c (paint_tile after k (colour_at paints q) (rule_at paints q) (get_or cs (tile_of (path_at paths q) x y) 0) (get_or (hand 0 cs) (tile_of (path_at paths q) x y) 0)
          (get_or summed (tile_of (path_at paths q) x y) (pos 0)) px) px
          ≡ cond c (lay_of k (colour_at paints q) (rule_at paints q) (pieces_of paths q x y lines) (winding_of paths q x y lines) px) px
      go true e =
          let box = box_in (path_at paths q) x y e in
          tile_laid after k (colour_at paints q) (rule_at paints q) (get_or cs (tile_of (path_at paths q) x y) 0) (get_or (hand 0 cs) (tile_of (path_at paths q) x y) 0)
          (get_or summed (tile_of (path_at paths q) x y) (pos 0)) px (pieces_of paths q x y lines) (winding_of paths q x y lines) (pieces_there q x y there box) (winding_there q x y there box)
      go false e = refl

  -- so the colours painted by the tables are the picture's
  pub pixels_same : painted now after ≡ pixel_of paths paints lines
  unfolding painted pixel_of
  pixels_same = λ i x y k. one x y k i
    where
      one : (x y k : ℕ) → painted now after x y k ≡ pixel_of paths paints lines x y k
      one x y k = same_acts (paint_path now after x y k) (path_over paths paints lines x y k) (path_count paths) 0 (path_count paths) (omega arith) (λ q h px. path_same x y k q h px) clear
