-- A tile's summed backdrop is its path's winding there: what the marks of the path's own lines add up to in its row, from the box's first column to the
-- tile's. Assumes nothing.
use mathlib.Core.Path.{◌≡◌, refl, sym, ap, subst, ◌∙◌}
use mathlib.Core.Bool.{Bool, true, false, not, cond, ◌&&◌}
use mathlib.Core.List.{List, [], ◌∷◌, ◌++◌}
use Prim.Native.Nat.{ℕ, zero, suc, ◌+◌, ◌-◌, ◌*◌, ◌≤◌, ◌<◌}
use native.Mathlib.Decide.{ℕ_discrete, dec_lt, dec_le}
use native.Mathlib.Nat.{zero-add, add-zero}
use native.Mathlib.Omega.{arith}
use lib.Dec.{eqb, leb, ltb}
use lib.IntN.{ℤ, pos, neg_ℤ, ◌+ℤ◌, +ℤ_idl, +ℤ_idr, +ℤ_assoc, +ℤ_comm, pos-+ℤ-pos, neg_ℤ-+ℤ}
use lib.Ieee.{eq}
use borrow.Author.Tests.{le-leb, lt-leb, lt-ltb, le-ltb, ltb-true, eq-eqb, ne_eqb}
use Rattle.lists.specs.Run.{All, act_all}
use Rattle.lists.specs.Occ.{bit, is, occ, is_same, is_other}
use Rattle.panel.specs.Paths.{width_of}
use Rattle.panel.specs.declared.kinds.Path.{Path}
use Rattle.panel.proofs.BoolLaws.{both}
use Rattle.panel.proofs.PathLaws.{InBox, cell_once}
use Rattle.backdrop.specs.Backdrop.{backdrop_at}
use Rattle.backdrop.proofs.CellLaws.{sum_of, row_start}
use Rattle.walk.specs.Step.{step_of, last_z_word, cross_of}
use Rattle.walk.specs.declared.kinds.Pace.{Pace}
use Rattle.walk.specs.declared.kinds.Walk.{Walk}
use Rattle.walk.specs.Walked.{Walked, Refused, Skipped, Line}
use Rattle.walk.specs.Stepped as On
use Rattle.walk.proofs.Tiles.{step_told, number_is}
use Rattle.clip.specs.Page.{clipped_of}
use Rattle.clip.proofs.Laws.{clip_left}
use Rattle.acts.specs.Acts.{Act, mark, visit, stop, row_acts, cross_acts, step_acts, steps_acts, delta_of}
use Rattle.acts.specs.Line.{plan_acts}
use Rattle.acts.proofs.Once as Once
use Rattle.hits.specs.Steps.{hit_of, hit_at}
use Rattle.walked_lines.specs.Line.{plan_of}
use Rattle.theorems.specs.Drawn.{Drawn, walk_of, acts_by, delta_by, marks_in, marks_of}
use Rattle.theorems.proofs.Isolation.{add_if, marks_at}
use Rattle.picture.specs.Picture.{step_mark, step_marks, line_marks, times, line_winding}

-- ---- whole numbers with a sign

times_add : (up : Bool) (a b : ℕ) → times up (a + b) ≡ times up a +ℤ times up b
times_add true a b = sym (pos-+ℤ-pos a b)
times_add false a b = ap neg_ℤ (sym (pos-+ℤ-pos a b)) ∙ neg_ℤ-+ℤ (pos a) (pos b)

times_none : (up : Bool) → times up 0 ≡ pos 0
times_none true = refl
times_none false = refl

times_one : (up : Bool) → delta_of up ≡ times up 1
times_one true = refl
times_one false = refl

swap : (a b c d : ℤ) → (a +ℤ b) +ℤ (c +ℤ d) ≡ (a +ℤ c) +ℤ (b +ℤ d)
swap a b c d =
    +ℤ_assoc a b (c +ℤ d)
    ∙ ap (λ (z : ℤ). a +ℤ z) (sym (+ℤ_assoc b c d) ∙ ap (λ (z : ℤ). z +ℤ d) (+ℤ_comm b c) ∙ +ℤ_assoc c b d)
    ∙ sym (+ℤ_assoc a c (b +ℤ d))

-- ---- sums over lines of sums over tiles

module _ {A : Type 0} where
  adds : (A → ℤ) → List A → ℤ → ℤ
  adds f ds w = act_all (λ d v. v +ℤ f d) ds w

  adds_both : (f g : A → ℤ) (ds : List A) (a b : ℤ) → adds f ds a +ℤ adds g ds b ≡ adds (λ d. f d +ℤ g d) ds (a +ℤ b)
  unfolding adds
  adds_both f g [] a b = refl
  adds_both f g (d ∷ ds) a b = adds_both f g ds (a +ℤ f d) (b +ℤ g d) ∙ ap (adds (λ e. f e +ℤ g e) ds) (swap a (f d) b (g d))

  adds_none : (ds : List A) → adds (λ d. pos 0) ds (pos 0) ≡ pos 0
  unfolding adds
  adds_none [] = refl
  adds_none (d ∷ ds) = adds_none ds

  -- of each line what it adds in the m tiles from tile `at` on
  abbrev pub row_of : (ℕ → A → ℤ) → ℕ → ℕ → A → ℤ
  row_of v at zero d = pos 0
  row_of v at (suc m) d = v at d +ℤ row_of v (suc at) m d

  pub sum_lines : (v : ℕ → A → ℤ) (ds : List A) (bs : List ℤ) (at m : ℕ) → ((t : ℕ) → at ≤ t → t < at + m → backdrop_at bs t ≡ act_all (λ d w. w +ℤ v t d) ds (pos 0))
      → sum_of bs at m ≡ act_all (λ d w. w +ℤ row_of v at m d) ds (pos 0)
  unfolding sum_of adds
  sum_lines v ds bs at zero h = sym (adds_none ds)
  sum_lines v ds bs at (suc m) h =
      ap (λ (z : ℤ). z +ℤ sum_of bs (suc at) m) (h at (omega arith) (omega arith))
      ∙ ap (λ (z : ℤ). adds (v at) ds (pos 0) +ℤ z) (sum_lines v ds bs (suc at) m (λ t l k. h t (omega arith) (omega arith)))
      ∙ adds_both (v at) (row_of v (suc at) m) ds (pos 0) (pos 0)

-- ---- the marks of one line

-- at one tile
mark_sum : (t : ℕ) (up : Bool) (xs : List Act) (w : ℤ) → marks_at t (marks_in (delta_of up) xs) w ≡ w +ℤ times up (occ t (Once.marks_of xs))
mark_sum t up [] w = sym (ap (λ (z : ℤ). w +ℤ z) (times_none up) ∙ +ℤ_idr w)
mark_sum t up (visit u i ∷ xs) w = mark_sum t up xs w
mark_sum t up (stop n ∷ xs) w = mark_sum t up xs w
mark_sum t up (mark u ∷ xs) w = go (ℕ_discrete u t) (mark_sum t up xs)
  where
    go : Dec (u ≡ t) → ((v : ℤ) → marks_at t (marks_in (delta_of up) xs) v ≡ v +ℤ times up (occ t (Once.marks_of xs)))
        → marks_at t (marks_in (delta_of up) xs) (add_if (is u t) (delta_of up) w) ≡ w +ℤ times up (is u t + occ t (Once.marks_of xs))
    go (yes e) ih =
        rw (is_same u t e)
        (ih (w +ℤ delta_of up)
        ∙ +ℤ_assoc w (delta_of up) (times up (occ t (Once.marks_of xs)))
        ∙ ap (λ (z : ℤ). w +ℤ z) (ap (λ (z : ℤ). z +ℤ times up (occ t (Once.marks_of xs))) (times_one up) ∙ sym (times_add up 1 (occ t (Once.marks_of xs)))))
    go (no e) ih = rw (is_other u t e, zero-add (occ t (Once.marks_of xs))) (ih w)

-- in the m tiles from tile `at` on
range_occ : ℕ → ℕ → List ℕ → ℕ
range_occ at zero l = 0
range_occ at (suc m) l = occ at l + range_occ (suc at) m l

in_range : ℕ → ℕ → ℕ → ℕ
in_range at m u = bit (leb at u && ltb u (at + m))

range_none : (at m : ℕ) → range_occ at m [] ≡ 0
unfolding range_occ
range_none at zero = refl
range_none at (suc m) = omega (arith, range_none (suc at) m)

in_yes : (at m u : ℕ) → at ≤ u → u < at + m → in_range at m u ≡ 1
unfolding in_range
in_yes at m u h k = rw (le-leb at u h, lt-ltb u (at + m) k)

in_no : (at m u : ℕ) → (at ≤ u → u < at + m → ⊥) → in_range at m u ≡ 0
unfolding in_range
in_no at m u h = go (dec_lt u at) (dec_lt u (at + m))
  where
    go : Dec (u < at) → Dec (u < at + m) → bit (leb at u && ltb u (at + m)) ≡ 0
    go (yes p) q = rw (lt-leb at u p)
    go (no p) (yes q) = absurd (h (omega arith) q)
    go (no p) (no q) = let z : at ≤ u = omega arith in let y : at + m ≤ u = omega arith in rw (le-leb at u z, le-ltb u (at + m) y)

range_cons : (at m u : ℕ) (l : List ℕ) → range_occ at m (u ∷ l) ≡ in_range at m u + range_occ at m l
unfolding range_occ
range_cons at zero u l = rw (in_no at 0 u (λ p q. omega arith))
range_cons at (suc m) u l = go (ℕ_discrete u at) (range_cons (suc at) m u l)
  where
    go : Dec (u ≡ at) → range_occ (suc at) m (u ∷ l) ≡ in_range (suc at) m u + range_occ (suc at) m l
        → is u at + occ at l + range_occ (suc at) m (u ∷ l) ≡ in_range at (suc m) u + (occ at l + range_occ (suc at) m l)
    go (yes e) ih = omega (arith, is_same u at e, ih, in_yes at (suc m) u (omega arith) (omega arith), in_no (suc at) m u (λ p q. omega arith))
    go (no e) ih = side (dec_lt u at) (dec_lt u (at + suc m))
      where
        side : Dec (u < at) → Dec (u < at + suc m) → is u at + occ at l + range_occ (suc at) m (u ∷ l) ≡ in_range at (suc m) u + (occ at l + range_occ (suc at) m l)
        side (yes p) q = omega (arith, is_other u at e, ih, in_no at (suc m) u (λ a b. omega arith), in_no (suc at) m u (λ a b. omega arith))
        side (no p) (yes q) = omega (arith, is_other u at e, ih, in_yes at (suc m) u (omega arith) q, in_yes (suc at) m u (omega (arith, e)) (omega arith))
        side (no p) (no q) = omega (arith, is_other u at e, ih, in_no at (suc m) u (λ a b. omega arith), in_no (suc at) m u (λ a b. omega arith))

range_append : (at m : ℕ) (xs ys : List ℕ) → range_occ at m (xs ++ ys) ≡ range_occ at m xs + range_occ at m ys
range_append at m [] ys = omega (arith, range_none at m)
range_append at m (x ∷ xs) ys = omega (arith, range_cons at m x (xs ++ ys), range_append at m xs ys, range_cons at m x xs)

row_times : (up : Bool) (l : List ℕ) (at m : ℕ) → row_of (λ t (d : List ℕ). times up (occ t d)) at m l ≡ times up (range_occ at m l)
unfolding range_occ
row_times up l at zero = sym (times_none up)
row_times up l at (suc m) = ap (λ (z : ℤ). times up (occ at l) +ℤ z) (row_times up l (suc at) m) ∙ sym (times_add up (occ at l) (range_occ (suc at) m l))

marks_append : (xs ys : List Act) → Once.marks_of (xs ++ ys) ≡ Once.marks_of xs ++ Once.marks_of ys
marks_append [] ys = refl
marks_append (mark t ∷ xs) ys = ap (λ (r : List ℕ). t ∷ r) (marks_append xs ys)
marks_append (visit t i ∷ xs) ys = marks_append xs ys
marks_append (stop n ∷ xs) ys = marks_append xs ys

-- ---- a line's marks in the row of the tile in column x and row y, up to it

module _ (b : Path) (x y : ℕ) (in_box_lem : InBox b x y) where
  -- a cell of the box is among those tiles where its row is y and its column is not right of x
  cell_in_row : (c r : ℕ) → b.x0 ≤ c → c < b.x1 → b.y0 ≤ r → in_range (row_start b y) (suc (x - b.x0)) (b.first + (r - b.y0) * width_of b + (c - b.x0)) ≡ bit (eqb r y && leb c x)
  cell_in_row c r h k l = go (ℕ_discrete r y) (dec_le c x)
    where
      u : ℕ
      u = b.first + (r - b.y0) * width_of b + (c - b.x0)

      go : Dec (r ≡ y) → Dec (c ≤ x) → in_range (row_start b y) (suc (x - b.x0)) (b.first + (r - b.y0) * width_of b + (c - b.x0)) ≡ bit (eqb r y && leb c x)
      go (yes e) (yes f) =
          let same : (r - b.y0) * width_of b ≡ (y - b.y0) * width_of b = ap (λ (z : ℕ). (z - b.y0) * width_of b) e in
          rw (eq-eqb r y e, le-leb c x f) (in_yes (row_start b y) (suc (x - b.x0)) u (omega (arith, same)) (omega (arith, same)))
      go (yes e) (no f) =
          let same : (r - b.y0) * width_of b ≡ (y - b.y0) * width_of b = ap (λ (z : ℕ). (z - b.y0) * width_of b) e in
          let far : x < c = omega arith in
          rw (eq-eqb r y e, lt-leb c x far) (in_no (row_start b y) (suc (x - b.x0)) u (λ p q. omega (arith, same, in_box_lem.left)))
      go (no e) f =
          rw (ne_eqb r y e)
          (in_no (row_start b y) (suc (x - b.x0)) u
          (λ p q. let d : ℕ = (r - b.y0) * width_of b + (c - b.x0) - (y - b.y0) * width_of b in
          let o = cell_once (width_of b) (r - b.y0) (c - b.x0) (y - b.y0) d (omega arith) (omega (arith, in_box_lem.left, in_box_lem.right)) (omega arith) in
          e (omega (arith, o.0, in_box_lem.top))))

  -- rows that the line passes left of the box
  rows_marked : (n r : ℕ) → b.x0 < b.x1 → b.y0 ≤ r
      → range_occ (row_start b y) (suc (x - b.x0)) (Once.marks_of (row_acts b.first b.y0 (width_of b) n r)) ≡ bit (leb r y && ltb y (r + n))
  unfolding row_acts
  rows_marked zero r wide h = range_none (row_start b y) (suc (x - b.x0)) ∙ sym (empty (dec_le r y))
    where
      empty : Dec (r ≤ y) → bit (leb r y && ltb y (r + 0)) ≡ 0
      empty (yes e) = let z : r + 0 ≤ y = omega arith in rw (le-leb r y e, le-ltb y (r + 0) z)
      empty (no e) = let z : y < r = omega arith in rw (lt-leb r y z)
  rows_marked (suc n) r wide h =
      let here = cell_in_row b.x0 r (omega arith) wide h in
      let flat : b.first + (r - b.y0) * width_of b + (b.x0 - b.x0) ≡ b.first + (r - b.y0) * width_of b = omega arith in
      range_cons (row_start b y) (suc (x - b.x0)) (b.first + (r - b.y0) * width_of b) (Once.marks_of (row_acts b.first b.y0 (width_of b) n (suc r)))
      ∙ join (ℕ_discrete r y) (rw flat at here) (rows_marked n (suc r) wide (omega arith))
    where
      rest : ℕ
      rest = range_occ (row_start b y) (suc (x - b.x0)) (Once.marks_of (row_acts b.first b.y0 (width_of b) n (suc r)))

      left : leb b.x0 x ≡ true
      left = le-leb b.x0 x in_box_lem.left

      join : Dec (r ≡ y) → in_range (row_start b y) (suc (x - b.x0)) (b.first + (r - b.y0) * width_of b) ≡ bit (eqb r y && leb b.x0 x)
          → range_occ (row_start b y) (suc (x - b.x0)) (Once.marks_of (row_acts b.first b.y0 (width_of b) n (suc r))) ≡ bit (leb (suc r) y && ltb y (suc r + n))
          → in_range (row_start b y) (suc (x - b.x0)) (b.first + (r - b.y0) * width_of b)
          + range_occ (row_start b y) (suc (x - b.x0)) (Once.marks_of (row_acts b.first b.y0 (width_of b) n (suc r)))
          ≡ bit (leb r y && ltb y (r + suc n))
      join (yes e) p q =
          let a : y < suc r = omega arith in
          let z : r ≤ y = omega arith in
          let w : y < r + suc n = omega arith in
          rw (p, q, eq-eqb r y e, left, lt-leb (suc r) y a, le-leb r y z, lt-ltb y (r + suc n) w)
      join (no e) p q = rw (p, q, ne_eqb r y e, zero-add (bit (leb (suc r) y && ltb y (suc r + n)))) (same (dec_lt y r))
        where
          more : suc r + n ≡ r + suc n
          more = omega arith

          same : Dec (y < r) → bit (leb (suc r) y && ltb y (suc r + n)) ≡ bit (leb r y && ltb y (r + suc n))
          same (yes f) = let a : y < suc r = omega arith in rw (lt-leb r y f, lt-leb (suc r) y a)
          same (no f) = let a : suc r ≤ y = omega (arith, e) in let z : r ≤ y = omega arith in rw (le-leb (suc r) y a, le-leb r y z, more)

  -- a step's mark
  step_marked : (p : Pace) (i : ℕ) (s : On.Step) → step_of p b i ≡ s
      → range_occ (row_start b y) (suc (x - b.x0)) (Once.marks_of (step_acts (hit_of p b i s) i)) ≡ step_mark p b i x y s
  step_marked p i (On.Tile t c r z) e = go (cross_of p.on_top b.x1 i (last_z_word p i) c z) refl
    where
      go : (v : Bool) → cross_of p.on_top b.x1 i (last_z_word p i) c z ≡ v
          → range_occ (row_start b y) (suc (x - b.x0)) (Once.marks_of (cross_acts v t.0)) ≡ bit (v && (eqb r y && ltb c x))
      go false q = range_none (row_start b y) (suc (x - b.x0))
      go true q =
          let w = (step_told p b i t c r z e).within in
          let right : c + 1 < b.x1 = ltb-true (c + 1) b.x1
          (both (cond (eqb i 0) p.on_top (eq (last_z_word p i) z)) (ltb (c + 1) b.x1) q).1 in
          let number : t.0 + 1 ≡ b.first + (r - b.y0) * width_of b + (c + 1 - b.x0) = omega (arith, number_is p b i t c r z e, w.col_least) in
          let cell = cell_in_row (c + 1) r (omega (arith, w.col_least)) right w.row_least in
          let less : leb (c + 1) x ≡ ltb c x = side (dec_lt c x) in
          range_cons (row_start b y) (suc (x - b.x0)) (t.0 + 1) []
          ∙ rw (range_none (row_start b y) (suc (x - b.x0)), number, cell, less) (add-zero (bit (eqb r y && ltb c x)))
        where
          side : Dec (c < x) → leb (c + 1) x ≡ ltb c x
          side (yes f) = let a : c + 1 ≤ x = omega arith in rw (lt-ltb c x f, le-leb (c + 1) x a)
          side (no f) = let a : x < c + 1 = omega arith in let z : x ≤ c = omega arith in rw (le-ltb c x z, lt-leb (c + 1) x a)
  step_marked p i On.Refused e = range_none (row_start b y) (suc (x - b.x0))

  steps_marked : (p : Pace) (n i : ℕ) → range_occ (row_start b y) (suc (x - b.x0)) (Once.marks_of (steps_acts (hit_at p b) n i)) ≡ step_marks p b x y n i
  unfolding steps_acts step_marks hit_at
  steps_marked p zero i = range_none (row_start b y) (suc (x - b.x0))
  steps_marked p (suc n) i =
      let s = step_of p b i in
      let row = range_occ (row_start b y) (suc (x - b.x0)) in
      ap row (marks_append (step_acts (hit_of p b i s) i) (steps_acts (hit_at p b) n (suc i)))
      ∙ range_append (row_start b y) (suc (x - b.x0)) (Once.marks_of (step_acts (hit_of p b i s) i)) (Once.marks_of (steps_acts (hit_at p b) n (suc i)))
      ∙ rw (step_marked p i s refl, steps_marked p n (suc i))

  -- all of a walk's marks
  plan_marked : (w : Walk) → range_occ (row_start b y) (suc (x - b.x0)) (Once.marks_of (plan_acts (plan_of w b))) ≡ line_marks x y w b
  unfolding plan_of
  plan_marked w =
      let c = clipped_of w b in
      let wide : b.x0 < b.x1 = omega (arith, in_box_lem.left, in_box_lem.right) in
      let rows = row_acts b.first b.y0 (width_of b) (c.ymax - c.ymin) c.ymin in
      let steps = steps_acts (hit_at w.pace b) (c.imax - c.imin) c.imin in
      ap (range_occ (row_start b y) (suc (x - b.x0))) (marks_append rows steps)
      ∙ range_append (row_start b y) (suc (x - b.x0)) (Once.marks_of rows) (Once.marks_of steps)
      ∙ rw (rows_marked (c.ymax - c.ymin) c.ymin wide (clip_left w b).top, steps_marked w.pace (c.imax - c.imin) c.imin)
      (ap (λ (k : ℕ). k + step_marks w.pace b x y (c.imax - c.imin) c.imin) (same c))
    where
      same : (c : Rattle.clip.specs.declared.Clip.Clip) → bit (leb c.ymin y && ltb y (c.ymin + (c.ymax - c.ymin))) ≡ bit (leb c.ymin y && ltb y c.ymax)
      same c = go (dec_lt y c.ymin) (dec_lt y c.ymax)
        where
          go : Dec (y < c.ymin) → Dec (y < c.ymax) → bit (leb c.ymin y && ltb y (c.ymin + (c.ymax - c.ymin))) ≡ bit (leb c.ymin y && ltb y c.ymax)
          go (yes p) q = rw (lt-leb c.ymin y p)
          go (no p) (yes q) = let z : y < c.ymin + (c.ymax - c.ymin) = omega arith in rw (lt-ltb y c.ymax q, lt-ltb y (c.ymin + (c.ymax - c.ymin)) z)
          go (no p) (no q) =
              let z : c.ymax ≤ y = omega arith in
              let a : c.ymin + (c.ymax - c.ymin) ≤ y = omega arith in
              rw (le-ltb y c.ymax z, le-ltb y (c.ymin + (c.ymax - c.ymin)) a)

-- what a line adds at a tile, whatever was there
abbrev pub adds_at : List ℕ → ℕ → Drawn → ℤ
adds_at paths t d = marks_at t (marks_of paths d) (pos 0)

-- marks add to what is there
marks_from : (t : ℕ) (paths : List ℕ) (d : Drawn) (w : ℤ) → marks_at t (marks_of paths d) w ≡ w +ℤ adds_at paths t d
marks_from t paths d w = go (walk_of paths d)
  where
    go : (f : Walked) → marks_at t (marks_in (delta_by f) (acts_by f)) w ≡ w +ℤ marks_at t (marks_in (delta_by f) (acts_by f)) (pos 0)
    go (Refused n) = sym (+ℤ_idr w)
    go Skipped = sym (+ℤ_idr w)
    go (Line v b) =
        let up = (plan_of v b).up in
        let xs = plan_acts (plan_of v b) in
        mark_sum t up xs w
        ∙ ap (λ (z : ℤ). w +ℤ z) (sym (mark_sum t up xs (pos 0) ∙ +ℤ_idl (times up (occ t (Once.marks_of xs)))))

up_is : (v : Walk) (c : Path) → (plan_of v c).up ≡ not v.e.is_down
unfolding plan_of
up_is v c = refl

-- in a row up to a tile it adds its winding there, over the box that has the tile
row_winding : (paths : List ℕ) (b : Path) (x y : ℕ) (in_box_lem : InBox b x y) (d : Drawn) → ((v : Walk) (c : Path) → walk_of paths d ≡ Line v c → c ≡ b)
    → row_of (adds_at paths) (row_start b y) (suc (x - b.x0)) d ≡ line_winding x y (walk_of paths d)
row_winding paths b x y in_box_lem d own = fixed (adds_at paths) (row_start b y) (suc (x - b.x0)) ∙ go (walk_of paths d) refl
  where
    fixed : (v : ℕ → Drawn → ℤ) (at n : ℕ) → row_of v at n d ≡ row_of (λ t (e : Drawn). v t d) at n d
    fixed v at zero = refl
    fixed v at (suc n) = ap (λ (z : ℤ). v at d +ℤ z) (fixed v (suc at) n)

    none : (f : ℕ → ℤ) → ((t : ℕ) → f t ≡ pos 0) → (at n : ℕ) → row_of (λ t (e : Drawn). f t) at n d ≡ pos 0
    none f h at zero = refl
    none f h at (suc n) = rw (h at, none f h (suc at) n)

    alike : (f g : ℕ → ℤ) → ((t : ℕ) → f t ≡ g t) → (at n : ℕ) → row_of (λ t (e : Drawn). f t) at n d ≡ row_of (λ t (e : Drawn). g t) at n d
    alike f g h at zero = refl
    alike f g h at (suc n) = rw (h at, alike f g h (suc at) n)

    moved : (f : ℕ → List ℕ → ℤ) (l : List ℕ) (at n : ℕ) → row_of (λ t (e : Drawn). f t l) at n d ≡ row_of f at n l
    moved f l at zero = refl
    moved f l at (suc n) = ap (λ (z : ℤ). f at l +ℤ z) (moved f l (suc at) n)

    go : (f : Walked) → walk_of paths d ≡ f → row_of (λ t (e : Drawn). marks_at t (marks_in (delta_by f) (acts_by f)) (pos 0)) (row_start b y) (suc (x - b.x0)) d ≡ line_winding x y f
    go (Refused n) e = none (λ t. pos 0) (λ t. refl) (row_start b y) (suc (x - b.x0))
    go Skipped e = none (λ t. pos 0) (λ t. refl) (row_start b y) (suc (x - b.x0))
    go (Line v c) e =
        let up = (plan_of v c).up in
        let xs = plan_acts (plan_of v c) in
        let same : c ≡ b = own v c e in
        alike (λ t. marks_at t (marks_in (delta_of up) xs) (pos 0)) (λ t. times up (occ t (Once.marks_of xs)))
        (λ t. mark_sum t up xs (pos 0) ∙ +ℤ_idl (times up (occ t (Once.marks_of xs)))) (row_start b y) (suc (x - b.x0))
        ∙ moved (λ t (l : List ℕ). times up (occ t l)) (Once.marks_of xs) (row_start b y) (suc (x - b.x0))
        ∙ row_times up (Once.marks_of xs) (row_start b y) (suc (x - b.x0))
        ∙ ap (times up) (subst (λ (h : Path). range_occ (row_start b y) (suc (x - b.x0)) (Once.marks_of (plan_acts (plan_of v h))) ≡ line_marks x y v h) (sym same) (plan_marked b x y in_box_lem v))
        ∙ ap (λ (u : Bool). times u (line_marks x y v c)) (up_is v c)

-- ---- a path's lines

-- a row of backdrops, where each is what the lines ds add there, sums up to their winding at its end
pub row_sum : (paths : List ℕ) (b : Path) (x y : ℕ) → InBox b x y → (ds : List Drawn) → All (λ d. (v : Walk) (c : Path) → walk_of paths d ≡ Line v c → c ≡ b) ds → (bs : List ℤ)
    → ((t : ℕ) → row_start b y ≤ t → t < row_start b y + suc (x - b.x0) → backdrop_at bs t ≡ act_all (λ d. marks_at t (marks_of paths d)) ds (pos 0))
    → sum_of bs (row_start b y) (suc (x - b.x0)) ≡ act_all (λ d w. w +ℤ line_winding x y (walk_of paths d)) ds (pos 0)
row_sum paths b x y in_box_lem ds own bs h =
    sum_lines (adds_at paths) ds bs (row_start b y) (suc (x - b.x0)) (λ t l k. h t l k ∙ from t ds (pos 0)) ∙ each ds own (pos 0)
  where
    from : (t : ℕ) (es : List Drawn) (w : ℤ) → act_all (λ d. marks_at t (marks_of paths d)) es w ≡ act_all (λ d v. v +ℤ adds_at paths t d) es w
    from t [] w = refl
    from t (d ∷ es) w = from t es (marks_at t (marks_of paths d) w) ∙ ap (act_all (λ e v. v +ℤ adds_at paths t e) es) (marks_from t paths d w)

    each : (es : List Drawn) → All (λ d. (v : Walk) (c : Path) → walk_of paths d ≡ Line v c → c ≡ b) es → (w : ℤ)
        → act_all (λ d v. v +ℤ row_of (adds_at paths) (row_start b y) (suc (x - b.x0)) d) es w ≡ act_all (λ d v. v +ℤ line_winding x y (walk_of paths d)) es w
    each [] o w = refl
    each (d ∷ es) o w =
        each es o.1 (w +ℤ row_of (adds_at paths) (row_start b y) (suc (x - b.x0)) d)
        ∙ ap (λ (z : ℤ). act_all (λ e v. v +ℤ line_winding x y (walk_of paths e)) es (w +ℤ z)) (row_winding paths b x y in_box_lem d o.0)
