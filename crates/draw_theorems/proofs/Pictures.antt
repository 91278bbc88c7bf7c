-- A drawing that is done shows the picture of its lines; and fine refuses none. Assumes nothing.
use mathlib.Core.Path.{◌≡◌, refl, sym, ap, subst, ◌∙◌}
use mathlib.Core.List.{List, [], ◌∷◌}
use Prim.Native.Nat.{ℕ, ◌*◌, ◌≤◌}
use native.Mathlib.Omega.{arith}
use lib.ListN.{length}
use lib.IntN.{ℤ}
use lib.Ieee.{Float}
use borrow.Author.Tests.{leb-true}
use Rattle.panel.specs.Kinds as Kinds
use Rattle.panel.specs.Checks.{first_no}
use Rattle.panel.specs.Pieces.{Pieces}
use Rattle.panel.specs.declared.kinds.Running.{Running}
use Rattle.panel.specs.Verdict.{Verdict, Fine, Against}
use Rattle.panel.specs.Answer.{Answer}
use Rattle.panel.proofs.CheckLaws.{all_ok}
use Rattle.path_tiling.specs.Tiling.{slots_of}
use Rattle.path_tiling.proofs.WriteLaws.{length_applied}
use Rattle.frame.specs.Frame as Frame
use Rattle.frame.specs.Frame.{answer_on, stage_no}
use Rattle.frame.specs.declared.kinds.Stage.{Stage}
use Rattle.frame.specs.Framed.{Framed}
use Rattle.fine.specs.Fine.{Shown, shown, fine_of}
use Rattle.pairs.specs.Pairs.{Tables, tables}
use Rattle.write_lists.specs.Lists.{Left, left, answer_of, on_done, lists_of, write_lists_of}
use Rattle.lay_pairs.specs.Layout.{written}
use Rattle.theorems.specs.Drawn.{drawn}
use Rattle.theorems.proofs.Framing as Framing
use Rattle.list_theorems.specs.Written.{AllI32, Holds}
use Rattle.page_check.specs.Page.{page_checks}
use Rattle.paint.specs.Parts.{lists_no, fine_no}
use Rattle.paint.specs.Paint.{Painted, paper_of, paint_of, painted_of, go_on}
use Rattle.paint.specs.Drawn.{Done, Refused}
use Rattle.draw.specs.Draw.{Out, out_of, framed_of, draw_of, drawn_on, after_frame, with_paint, unless_no}
use Rattle.picture.specs.Picture.{picture_of}
use Rattle.picture.proofs.Pictures.{frame_shows}
use Rattle.draw_theorems.specs.Drawing.{ShowsLines}
use Rattle.draw_theorems.proofs.Said.{frame_said}

-- ---- the lists of a page answer something

lists_said : (t : Tables) (cols rows room : ℕ) (ws : List ℕ) → (a : Answer) × ((write_lists_of t cols rows room ws).paper ≡ Kinds.paper_of a)
unfolding write_lists_of
lists_said t cols rows room ws = go (answer_of t cols rows room (length ws))
  where
    go : (a : Answer) → (b : Answer) × ((on_done a ws (written (lists_of t cols rows) ws)).paper ≡ Kinds.paper_of b)
    go Answer.Done = (Answer.Done, refl)
    go (Answer.Refused n item) = (Answer.Refused n item, refl)

early : (at : Stage) → stage_no at ≤ lists_no
early Stage.Lent = omega arith
early Stage.Count = omega arith
early Stage.Backdrop = omega arith
early Stage.HandOut = omega arith
early Stage.Tile = omega arith

module _ (nos : List ℕ) (coords : List Float) (paths paints : List ℕ) (backs : List ℤ) (stored tally refs : List ℕ) (p : Pieces)
    (width cols rows : ℕ) (words pixels : List ℕ) where
  abbrev page : List ℕ
  page = picture_of paths paints (drawn nos coords (length nos)) width cols rows pixels

  -- ---- how a drawing ends: refused by a part before fine, or done with the picture shown

  data Ends (paper px : List ℕ) : Type 0 where
    stopped : (at n item : ℕ) (s : Running) → at ≤ lists_no → paper ≡ paper_of (Refused at n item s) → Ends paper px
    showed : (s : Running) → paper ≡ paper_of (Done s) → px ≡ page → Ends paper px

  module _ (holds : Holds width cols rows pixels) (o : Frame.Out) (eo : Frame.frame_of nos coords paths backs stored tally refs p ≡ o) (fit : AllI32 o.backs) where
    abbrev lists : Tables
    lists = tables paths paints o.backs o.stored o.tally

    abbrev room : ℕ
    room = slots_of (length o.pieces.segments)

    -- fine over the lists of a done frame shows the page
    shows : (s : Running) (ws : List ℕ) → o.paper ≡ Frame.paper_of (Framed.Done s) → write_lists_of lists cols rows room words ≡ left Answer.Done ws
        → fine_of ws o.pieces.segments width cols rows 0 (cols * rows) pixels ≡ shown Answer.Done page
    shows s ws e wrote =
        let told : o ≡ Frame.out_of (Framed.Done s) o.backs o.stored o.tally o.refs o.pieces =
        λ i. record { paper = e i; backs = o.backs; stored = o.stored; tally = o.tally; refs = o.refs; pieces = o.pieces } in
        let is = eo ∙ told in
        let f = Framing.frame_done nos coords paths backs stored tally refs p o.backs o.stored o.tally o.refs o.pieces s is in
        let same : length o.pieces.segments ≡ length p.segments = ap (λ (q : Pieces). length q.segments) f.pieces ∙ length_applied f.writes p in
        let fits : s.refs ≤ room = subst (λ (n : ℕ). s.refs ≤ slots_of n) (sym same) f.room in
        frame_shows nos coords paths backs stored tally refs p s o.backs o.stored o.tally o.refs o.pieces is room fits paints cols rows words ws fit
        wrote width pixels holds

    painted_ends : (s : Running) → o.paper ≡ Frame.paper_of (Framed.Done s)
        → Ends (painted_of s lists o.pieces.segments width cols rows words pixels).paper (painted_of s lists o.pieces.segments width cols rows words pixels).pixels
    unfolding painted_of
    painted_ends s e = go (lists_said lists cols rows room words).0 (lists_said lists cols rows room words).1
      where
        l : Left
        l = write_lists_of lists cols rows room words

        f : Shown
        f = fine_of l.words o.pieces.segments width cols rows 0 (cols * rows) pixels

        whole : Answer → Answer → Painted
        whole a b = go_on a lists_no s (λ d. paint_of d l.words pixels)
            (go_on b fine_no s (λ d. paint_of d l.words f.pixels) (paint_of (Done s) l.words f.pixels))

        go : (a : Answer) → l.paper ≡ Kinds.paper_of a → Ends (whole (answer_on l.paper) (answer_on f.answer)).paper (whole (answer_on l.paper) (answer_on f.answer)).pixels
        go (Answer.Refused n item) q = rw q (stopped lists_no n item s (omega arith) refl)
        go Answer.Done q =
            let wrote : l ≡ left Answer.Done l.words = λ i. record { paper = q i; words = l.words } in
            let x = shows s l.words e wrote in
            rw (q, x) (showed s refl refl)

    framed_ends : Ends (with_paint o
        (after_frame (drawn_on o.paper) (λ d. paint_of d words pixels) (λ s. painted_of s lists o.pieces.segments width cols rows words pixels))).paper
        (with_paint o
        (after_frame (drawn_on o.paper) (λ d. paint_of d words pixels) (λ s. painted_of s lists o.pieces.segments width cols rows words pixels))).pixels
    framed_ends =
        let w = subst (λ (x : Frame.Out). (f : Framed) × (x.paper ≡ Frame.paper_of f)) eo (frame_said nos coords paths backs stored tally refs p) in
        go w.0 w.1
      where
        go : (f : Framed) → o.paper ≡ Frame.paper_of f → Ends (with_paint o
            (after_frame (drawn_on o.paper) (λ d. paint_of d words pixels) (λ s. painted_of s lists o.pieces.segments width cols rows words pixels))).paper
            (with_paint o
            (after_frame (drawn_on o.paper) (λ d. paint_of d words pixels) (λ s. painted_of s lists o.pieces.segments width cols rows words pixels))).pixels
        go (Framed.Refused at n item s) q = rw q (stopped (stage_no at) n item s (early at) refl)
        go (Framed.Done s) q = rw q (painted_ends s q)

  ends : AllI32 (draw_of nos coords paths paints backs stored tally refs p width cols rows words pixels).backs
      → Ends (draw_of nos coords paths paints backs stored tally refs p width cols rows words pixels).paper
      (draw_of nos coords paths paints backs stored tally refs p width cols rows words pixels).pixels
  unfolding draw_of framed_of
  ends fit = go v refl u refl fit
    where
      v : Verdict
      v = first_no (Frame.lent_checks (length nos) (length coords) (length backs) (length stored) (length tally) (length refs) (length p.segments) (length p.tags))

      u : Verdict
      u = first_no (page_checks (length paths) (length paints) (length stored) width cols rows (length pixels))

      kept : Verdict → Verdict → Out
      kept a b = unless_no a (λ d. out_of d backs stored tally refs p words pixels)
          (unless_no b (λ d. out_of d backs stored tally refs p words pixels) (framed_of nos coords paths paints backs stored tally refs p width cols rows words pixels))

      go : (a : Verdict) → v ≡ a → (b : Verdict) → u ≡ b → AllI32 (kept a b).backs → Ends (kept a b).paper (kept a b).pixels
      go (Against n) x b y h = stopped 1 n 0 (Kinds.running_of 0 0) (omega arith) refl
      go Fine x (Against n) y h = stopped 1 n 0 (Kinds.running_of 0 0) (omega arith) refl
      go Fine x Fine y h =
          let ok = all_ok (page_checks (length paths) (length paints) (length stored) width cols rows (length pixels)) y in
          framed_ends (record { wide = leb-true _ _ ok.1.1.1.1.1.0; high = leb-true _ _ ok.1.1.1.1.1.1.0 })
          (Frame.frame_of nos coords paths backs stored tally refs p) refl h

  -- ---- the theorems

  -- a drawing that is done shows the picture of its lines, whatever was lent in backdrops, stored words, tally, references, segments, tags and words before
  pub drawing_shows : (s : Running) (bs : List ℤ) (ts ks rs : List ℕ) (q : Pieces) (ws px : List ℕ) → AllI32 bs
      → draw_of nos coords paths paints backs stored tally refs p width cols rows words pixels ≡ out_of (Done s) bs ts ks rs q ws px
      → ShowsLines nos coords paths paints width cols rows pixels px
  drawing_shows s bs ts ks rs q ws px fit e =
      go (subst (λ (o : Out). Ends o.paper o.pixels) e (ends (subst (λ (o : Out). AllI32 o.backs) (sym e) fit)))
    where
      go : Ends (paper_of (Done s)) px → px ≡ page
      go (stopped at n item r h x) = let z : ◌≡◌ {A = ℕ} 3 5 = ap length x in absurd (omega (arith, z))
      go (showed r x y) = y

  -- no drawing is refused by fine
  pub never_fine : (n item : ℕ) (s : Running) (bs : List ℤ) (ts ks rs : List ℕ) (q : Pieces) (ws px : List ℕ) → AllI32 bs
      → draw_of nos coords paths paints backs stored tally refs p width cols rows words pixels ≡ out_of (Refused fine_no n item s) bs ts ks rs q ws px → ⊥
  never_fine n item s bs ts ks rs q ws px fit e =
      go (subst (λ (o : Out). Ends o.paper o.pixels) e (ends (subst (λ (o : Out). AllI32 o.backs) (sym e) fit)))
    where
      second : List ℕ → ℕ
      second [] = 0
      second (a ∷ []) = 0
      second (a ∷ b ∷ more) = b

      go : Ends (paper_of (Refused fine_no n item s)) px → ⊥
      go (stopped at m i r h x) = let z : fine_no ≡ at = ap second x in omega (arith, z, h)
      go (showed r x y) = let z : ◌≡◌ {A = ℕ} 5 3 = ap length x in omega (arith, z)
