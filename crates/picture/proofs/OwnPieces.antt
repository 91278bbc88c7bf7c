-- The references of lines in a path's tile, in order, have the pieces of that path's own lines there, in order: other paths' lines have no reference in it.
-- Assumes nothing.
use mathlib.Core.Path.{◌≡◌, refl, sym, ap, subst, ◌∙◌}
use mathlib.Core.Logic.{◌≢◌}
use mathlib.Core.Bool.{Bool, true, false, cond, ◌&&◌}
use mathlib.Core.List.{List, [], ◌∷◌, ◌++◌, map, append_assoc, append-nil}
use Prim.Native.Nat.{ℕ, zero, suc, ◌-◌, ◌≤◌, ◌<◌}
use native.Mathlib.Decide.{ℕ_discrete}
use lib.Dec.{eqb}
use lib.ListN.{get_or}
use lib.Ieee.{Float}
use borrow.Author.Tests.{eq-eqb, ne_eqb}
use Rattle.lists.specs.Sums.{from}
use Rattle.panel.specs.Paths.{path_at, path_count, end_of, tile_of, paths_answer}
use Rattle.panel.specs.declared.kinds.Path.{Path}
use Rattle.panel.specs.Answer as Answer
use Rattle.panel.specs.declared.segments.Segment.{Segment}
use Rattle.panel.proofs.PathLaws.{InBox, own_tile, tile_once, checked, one_path}
use Rattle.walk.specs.Step.{step_of, last_z_word, cross_of}
use Rattle.walk.specs.Lent.{walk_at}
use Rattle.walk.specs.declared.kinds.Walk.{Walk}
use Rattle.walk.specs.Walked.{Walked, Refused, Skipped, Line}
use Rattle.walk.specs.Stepped as On
use Rattle.walk.proofs.Tiles.{step_told, number_is, tile_in_lem}
use Rattle.walk.proofs.Walks.{line_told}
use Rattle.clip.specs.Page.{clipped_of}
use Rattle.segment.specs.Clips.{piece_of}
use Rattle.acts.specs.Acts.{Act, mark, visit, stop, on, row_acts, cross_acts, step_acts, steps_acts}
use Rattle.acts.specs.Line.{plan_acts}
use Rattle.hits.specs.Steps.{hit_of, hit_at}
use Rattle.walked_lines.specs.Line.{plan_of}
use Rattle.theorems.specs.Drawn.{Drawn, drawn_at, drawn, walk_of, acts_by, of_path}
use Rattle.theorems.specs.Events.{Event, events_in, events_at, events_of}
use Rattle.theorems.proofs.Acts.{walk_is}
use Rattle.picture.specs.Picture.{kept_in, step_piece, step_pieces, line_pieces, all_pieces, pieces_of}
use Rattle.picture.proofs.Gather.{gather}

-- ---- a reference's piece, by its line's walk and its step

abbrev pub step_kept_word : Walk → ℕ → On.Step → List Segment
step_kept_word w i (On.Tile t x y z) = kept_in (piece_of w i z x y)
step_kept_word w i On.Refused = []

abbrev pub walk_piece : Walked → ℕ → List Segment
walk_piece (Refused n) i = []
walk_piece Skipped i = []
walk_piece (Line w b) i = step_kept_word w i (step_of w.pace b i)

abbrev pub event_piece : (nos : List ℕ) (coords : List Float) (paths : List ℕ) → Event → List Segment
event_piece nos coords paths e = walk_piece (walk_at nos coords paths e.line) e.step

-- ---- lists

gather_append : (piece : Event → List Segment) (t : ℕ) (xs ys : List Event) → gather piece t (xs ++ ys) ≡ gather piece t xs ++ gather piece t ys
gather_append piece t [] ys = refl
gather_append piece t (e ∷ xs) ys =
    let here : List Segment = cond (eqb e.tile t) (piece e) [] in
    ap (λ (r : List Segment). here ++ r) (gather_append piece t xs ys) ∙ sym (append_assoc here (gather piece t xs) (gather piece t ys))

events_append : (l : ℕ) (xs ys : List Act) → events_in l (xs ++ ys) ≡ events_in l xs ++ events_in l ys
events_append l [] ys = refl
events_append l (mark t ∷ xs) ys = events_append l xs ys
events_append l (visit t i ∷ xs) ys = ap (λ (r : List Event). record { line = l; tile = t; step = i } ∷ r) (events_append l xs ys)
events_append l (stop n ∷ xs) ys = events_append l xs ys

-- rows' marks are no references
rows_none : (l first top width n y : ℕ) → events_in l (row_acts first top width n y) ≡ []
unfolding row_acts
rows_none l first top width zero y = refl
rows_none l first top width (suc n) y = rows_none l first top width n (suc y)

cross_none : (l : ℕ) (c : Bool) (t : ℕ) → events_in l (cross_acts c t) ≡ []
cross_none l true t = refl
cross_none l false t = refl

-- ---- two tiles of one box are one where column and row are

same_tile_lem : (b : Path) (u v x y : ℕ) → InBox b u v → InBox b x y → eqb (tile_of b u v) (tile_of b x y) ≡ (eqb u x && eqb v y)
same_tile_lem b u v x y h k = go (ℕ_discrete u x) (ℕ_discrete v y)
  where
    go : Dec (u ≡ x) → Dec (v ≡ y) → eqb (tile_of b u v) (tile_of b x y) ≡ (eqb u x && eqb v y)
    go (yes p) (yes q) = rw (eq-eqb u x p, eq-eqb v y q) (eq-eqb (tile_of b u v) (tile_of b x y) (rw (p, q)))
    go (yes p) (no q) =
        rw (eq-eqb u x p, ne_eqb v y q) (ne_eqb (tile_of b u v) (tile_of b x y) (λ e. q (tile_once b u v x y h k e).1))
    go (no p) q = rw (ne_eqb u x p) (ne_eqb (tile_of b u v) (tile_of b x y) (λ e. p (tile_once b u v x y h k e).0))

-- ---- a line's steps

module _ (w : Walk) (b : Path) (l t : ℕ) (piece : Event → List Segment)
    (is : (u i : ℕ) → piece (record { line = l; tile = u; step = i }) ≡ step_kept_word w i (step_of w.pace b i)) where
  abbrev events_step : On.Step → ℕ → List Event
  events_step s i = events_in l (step_acts (hit_of w.pace b i s) i)

  one_event : (i : ℕ) (u : ℕ) (c : Bool) → gather piece t (events_in l (step_acts (on u c) i)) ≡ cond (eqb u t) (step_kept_word w i (step_of w.pace b i)) []
  one_event i u c =
      rw (cross_none l c u)
      (append-nil (cond (eqb u t) (piece (record { line = l; tile = u; step = i })) []) ∙ ap (λ (r : List Segment). cond (eqb u t) r []) (is u i))

  -- over the box that has the tile in column x and row y
  module _ (x y : ℕ) (in_box_lem : InBox b x y) (at : t ≡ tile_of b x y) where
    step_own : (i : ℕ) (s : On.Step) → step_of w.pace b i ≡ s → gather piece t (events_step s i) ≡ step_piece w i x y s
    step_own i (On.Tile u c r z) e =
        let m = (step_told w.pace b i u c r z e).within in
        let box : InBox b c r = record { left = m.col_least; right = m.col_most; top = m.row_least; bottom = m.row_most } in
        let same : eqb u.0 t ≡ (eqb c x && eqb r y) = rw (number_is w.pace b i u c r z e, at) (same_tile_lem b c r x y box in_box_lem) in
        one_event i u.0 (cross_of w.pace.on_top b.x1 i (last_z_word w.pace i) c z)
        ∙ rw (e, same)
    step_own i On.Refused e = refl

    pub steps_own : (n i : ℕ) → gather piece t (events_in l (steps_acts (hit_at w.pace b) n i)) ≡ step_pieces w b x y n i
    unfolding steps_acts step_pieces hit_at
    steps_own zero i = refl
    steps_own (suc n) i =
        let s = step_of w.pace b i in
        ap (gather piece t) (events_append l (step_acts (hit_of w.pace b i s) i) (steps_acts (hit_at w.pace b) n (suc i)))
        ∙ gather_append piece t (events_step s i) (events_in l (steps_acts (hit_at w.pace b) n (suc i)))
        ∙ rw (step_own i s refl, steps_own n (suc i))

  -- over another path's box
  module _ (elsewhere : (u : ℕ) → b.first ≤ u → u < end_of b → u ≢ t) where
    step_none : (i : ℕ) (s : On.Step) → step_of w.pace b i ≡ s → gather piece t (events_step s i) ≡ []
    step_none i (On.Tile u c r z) e =
        let m = tile_in_lem w.pace b i u c r z e in
        one_event i u.0 (cross_of w.pace.on_top b.x1 i (last_z_word w.pace i) c z)
        ∙ rw (ne_eqb u.0 t (elsewhere u.0 m.0 m.1))
    step_none i On.Refused e = refl

    pub steps_none : (n i : ℕ) → gather piece t (events_in l (steps_acts (hit_at w.pace b) n i)) ≡ []
    unfolding steps_acts hit_at
    steps_none zero i = refl
    steps_none (suc n) i =
        let s = step_of w.pace b i in
        ap (gather piece t) (events_append l (step_acts (hit_of w.pace b i s) i) (steps_acts (hit_at w.pace b) n (suc i)))
        ∙ gather_append piece t (events_step s i) (events_in l (steps_acts (hit_at w.pace b) n (suc i)))
        ∙ rw (step_none i s refl, steps_none n (suc i))

-- ---- the lines of a list

module _ (nos : List ℕ) (coords : List Float) (paths : List ℕ) (tiles : ℕ) (ok : paths_answer paths tiles ≡ Answer.Done)
    (p x y : ℕ) (there : p < path_count paths) (in_box_lem : InBox (path_at paths p) x y) where
  t : ℕ
  t = tile_of (path_at paths p) x y

  piece : Event → List Segment
  piece e = event_piece nos coords paths e

  plan_events : (l : ℕ) (w : Walk) (b : Path)
      → events_in l (plan_acts (plan_of w b)) ≡ events_in l (steps_acts (hit_at w.pace b) ((clipped_of w b).imax - (clipped_of w b).imin) (clipped_of w b).imin)
  unfolding plan_of
  plan_events l w b =
      let c = clipped_of w b in
      events_append l (row_acts b.first b.y0 (Rattle.panel.specs.Paths.width_of b) (c.ymax - c.ymin) c.ymin) (steps_acts (hit_at w.pace b) (c.imax - c.imin) c.imin)
      ∙ rw (rows_none l b.first b.y0 (Rattle.panel.specs.Paths.width_of b) (c.ymax - c.ymin) c.ymin)

  -- one line: its pieces there if it is of path p, and else none
  line_pieces_lem : (l : ℕ) → gather piece t (events_at nos coords paths l) ≡ cond (eqb (get_or nos l 0) p) (line_pieces x y (walk_of paths (drawn_at nos coords l))) []
  unfolding piece t
  line_pieces_lem l = go (walk_of paths (drawn_at nos coords l)) refl (ℕ_discrete (get_or nos l 0) p)
    where
      none : (c : Bool) → ◌≡◌ {A = List Segment} [] (cond c [] [])
      none true = refl
      none false = refl

      go : (f : Walked) → walk_of paths (drawn_at nos coords l) ≡ f → Dec (get_or nos l 0 ≡ p)
          → gather piece t (events_in l (acts_by f)) ≡ cond (eqb (get_or nos l 0) p) (line_pieces x y f) []
      go (Refused n) e d = none (eqb (get_or nos l 0) p)
      go Skipped e d = none (eqb (get_or nos l 0) p)
      go (Line w b) e (yes q) =
          let f : walk_at nos coords paths l ≡ Line w b = walk_is nos coords paths l ∙ e in
          let told = line_told nos coords paths l w b f in
          let box : b ≡ path_at paths p = told.path_is ∙ ap (path_at paths) q in
          let mine : InBox b x y = rw box in_box_lem in
          let at : tile_of (path_at paths p) x y ≡ tile_of b x y = rw box in
          let is : (u i : ℕ) → piece (record { line = l; tile = u; step = i }) ≡ step_kept_word w i (step_of w.pace b i) = λ u i. ap (λ (h : Walked). walk_piece h i) f in
          rw (eq-eqb (get_or nos l 0) p q)
          (ap (gather piece t) (plan_events l w b)
          ∙ steps_own w b l t piece is x y mine at ((clipped_of w b).imax - (clipped_of w b).imin) (clipped_of w b).imin)
      go (Line w b) e (no q) =
          let f : walk_at nos coords paths l ≡ Line w b = walk_is nos coords paths l ∙ e in
          let told = line_told nos coords paths l w b f in
          let is : (u i : ℕ) → piece (record { line = l; tile = u; step = i }) ≡ step_kept_word w i (step_of w.pace b i) = λ u i. ap (λ (h : Walked). walk_piece h i) f in
          let apart : (u : ℕ) → b.first ≤ u → u < end_of b → u ≢ t = λ u lo hi same.
          let held : (b.first ≤ t) × (t < end_of b) = subst (λ (v : ℕ). (b.first ≤ v) × (v < end_of b)) same (lo, hi) in
          q (one_path paths tiles (checked paths tiles ok) (get_or nos l 0) p t told.path_in there
          (subst (λ (h : Path). (h.first ≤ t) × (t < end_of h)) told.path_is held) (own_tile (path_at paths p) x y in_box_lem)) in
          rw (ne_eqb (get_or nos l 0) p q)
          (ap (gather piece t) (plan_events l w b)
          ∙ steps_none w b l t piece is apart ((clipped_of w b).imax - (clipped_of w b).imin) (clipped_of w b).imin)

  lines_pieces : (a n : ℕ) → gather piece t (events_of nos coords paths (from a n)) ≡ all_pieces paths x y (of_path p (map (drawn_at nos coords) (from a n)))
  lines_pieces a zero = refl
  lines_pieces a (suc n) =
      gather_append piece t (events_at nos coords paths a) (events_of nos coords paths (from (suc a) n))
      ∙ rw (line_pieces_lem a, lines_pieces (suc a) n) (go (eqb (get_or nos a 0) p))
    where
      rest : List Drawn
      rest = of_path p (map (drawn_at nos coords) (from (suc a) n))

      go : (c : Bool) → cond c (line_pieces x y (walk_of paths (drawn_at nos coords a))) [] ++ all_pieces paths x y rest
          ≡ all_pieces paths x y (Rattle.lists.specs.Run.keep_if c (drawn_at nos coords a) rest)
      go true = refl
      go false = refl

  -- the references of the first b lines, in tile t
  pub own_pieces : (b : ℕ) → gather (event_piece nos coords paths) (tile_of (path_at paths p) x y) (events_of nos coords paths (from 0 b)) ≡ pieces_of paths p x y (drawn nos coords b)
  unfolding pieces_of piece t
  own_pieces b = lines_pieces 0 b
