-- A line's walk, its clip and its outcome: enough that its check tells of its run.
-- Assumes nothing.
use mathlib.Core.Path.{◌≡◌, refl, sym, ap, ◌∙◌, subst}
use mathlib.Core.Bool.{Bool, true, false, not, ◌&&◌, ◌||◌, false≢true}
use mathlib.Core.List.{List}
use Prim.Native.Nat.{ℕ, ◌+◌, ◌-◌, ◌<◌, ◌≤◌, ◌^◌, min}
use native.Mathlib.Nat.{le_trans}
use native.Mathlib.Omega.{arith}
use lib.Dec.{leb, ltb}
use lib.ListN.{get_or}
use lib.Ieee.{Float}
use borrow.Author.Tests.{ltb-true, ltb-false, le-leb, lt-leb}
use Rattle.lists.specs.Run.{Step, taken, halted, done, refused}
use Rattle.panel.proofs.BoolLaws.{both, second_false}
use Rattle.panel.specs.Widths.{step_range}
use Rattle.panel.proofs.LimitLaws.{packs}
use Rattle.panel.specs.Limits.{most_lines, most_steps, most_slots}
use Rattle.panel.specs.Refusals.{count_over, no_room_word, line_number}
use Rattle.panel.specs.declared.kinds.Path.{Path}
use Rattle.panel.specs.Verdict.{Verdict}
use Rattle.panel.specs.Verdict.{Fine, Against}
use Rattle.panel.proofs.PathLaws.{Fits, checked}
use Rattle.walk.specs.Lent.{walk_at}
use Rattle.walk.specs.declared.kinds.Walk.{Walk}
use Rattle.walk.specs.Walked.{Walked}
use Rattle.walk.specs.Walked.{Refused as WalkRefused, Skipped, Line}
use Rattle.walk.proofs.Boxes.{fits_boxed}
use Rattle.walk.proofs.Walks.{StartsAt, line_starts, line_told}
use Rattle.clip.specs.Page.{clipped_of}
use Rattle.clip.specs.declared.Clip.{Clip}
use Rattle.clip.proofs.Laws.{Left, clip_left}
use Rattle.acts.specs.Acts.{St, run_acts, check_no, delta_of, is_done}
use Rattle.acts.specs.Rows.{RowsIn}
use Rattle.acts.specs.Line.{Plan, plan_acts, plan_step, halt_if}
use Rattle.acts.proofs.Plans.{plan_visits, plan_marks}
use Rattle.acts.proofs.Lines.{plan_far, plan_full, plan_refused, plan_fine, plan_done}
use Rattle.acts.proofs.Whole.{plan_made_lem}
use Rattle.hits.specs.Notes.{OnTiles}
use Rattle.walked_lines.specs.Line.{rows_by, plan_by, plan_of, walked_step, line_step, line_ran, Lent, Walkable, Clipped}
use Rattle.hits.proofs.StepLaws.{apart}

-- ---- a walk that a line has

module _ (nos : List ℕ) (coords : List Float) (paths : List ℕ) (k : ℕ) (w : Walk) (b : Path) (e : walk_at nos coords paths k ≡ Line w b) (backs counts : ℕ) (l : Lent paths backs counts) where
  fits : Fits b counts
  fits =
      let g = line_told nos coords paths k w b e in
      subst (λ (x : Path). Fits x counts) (sym g.path_is) ((checked paths counts l.passed).fits (get_or nos k 0) g.path_in)

  pub on_tiles : OnTiles b backs counts
  on_tiles =
      let few = (checked paths counts l.passed).tiled in
      record { boxed = fits_boxed b counts few fits; within = fits.within; paired = l.paired; few = few }

  pub walkable : Walkable w b
  walkable =
      let g = line_told nos coords paths k w b e in
      record { p0 = _; p1 = _; reached = g.reached; walked = g.walk_is; wide = omega (arith, g.wide, fits.across) }

pub starts : (w : Walk) (b : Path) → Walkable w b → StartsAt w.pace
starts w b k = subst (λ (x : Walk). StartsAt x.pace) (sym k.walked) (line_starts k.p0 k.p1 k.reached)

-- ---- its clip

module _ (w : Walk) (b : Path) (c : Clip) (e : c ≡ clipped_of w b) where
  pub left : Left b c
  left = subst (Left b) (sym e) (clip_left w b)

  pub clipped : b.x0 < b.x1 → (c.imin < c.imax → c.imax ≤ most_steps) → Clipped b c
  clipped h k = record { wide = h; top = left.top; bottom = left.bottom; onward = left.onward; last = λ p. le_trans (k p) packs.steps }

pub rows_in : (b : Path) (c : Clip) (backs counts : ℕ) → OnTiles b backs counts → Clipped b c → RowsIn (rows_by b c) backs
rows_in b c backs counts o k =
    record {
      bottom = b.y1;
      below_top = k.top;
      above_bottom = k.bottom;
      wide = omega (arith, k.wide);
      tiles = omega (arith, o.within, o.paired);
      few = omega (arith, o.paired, o.few);
    }

-- ---- the tests of a walk's step numbers and of the room

either : (m n : ℕ) (q : Bool) → (ltb m n || q) ≡ false → (n ≤ m) × (q ≡ false)
either m n q e = go (ltb m n) refl e
  where
    go : (p : Bool) → ltb m n ≡ p → (p || q) ≡ false → (n ≤ m) × (q ≡ false)
    go true f g = absurd (false≢true (sym g))
    go false f g = (ltb-false m n f, g)

pub not_far : (imin imax : ℕ) → (ltb imin imax && ltb most_steps imax) ≡ false → imin < imax → imax ≤ most_steps
not_far imin imax e h = ltb-false most_steps imax (second_false (ltb imin imax) (ltb most_steps imax) (borrow.Author.Tests.lt-ltb imin imax h) e)

-- and so a reference holds every step number
not_past : (imin imax : ℕ) → (ltb imin imax && ltb most_steps imax) ≡ false → imin < imax → imax ≤ step_range
not_past imin imax e h = le_trans (not_far imin imax e h) packs.steps

pub is_far : (imin imax : ℕ) → (ltb imin imax && ltb most_steps imax) ≡ true → (imin < imax) × (most_steps < imax)
is_far imin imax e = let t = both (ltb imin imax) (ltb most_steps imax) e in (ltb-true imin imax t.0, ltb-true most_steps imax t.1)

pub no_room : (room after : ℕ) → (ltb room after || ltb most_slots after) ≡ true → min room most_slots < after
no_room room after e = go (ltb room after) refl (ltb most_slots after) refl e
  where
    go : (p : Bool) → ltb room after ≡ p → (q : Bool) → ltb most_slots after ≡ q → (p || q) ≡ true → min room most_slots < after
    go true f q g h = omega (arith, ltb-true room after f)
    go false f true g h = omega (arith, ltb-true most_slots after g)
    go false f false g h = absurd (false≢true h)

pub has_room : (room after : ℕ) → (ltb room after || ltb most_slots after) ≡ false → after ≤ min room most_slots
has_room room after e =
    let t = either room after (ltb most_slots after) e in
    omega (arith, t.0, ltb-false most_slots after t.1)

-- ---- a walk's outcome. The plan is that of the clip in hand

plan_is : (w : Walk) (b : Path) (c : Clip) → c ≡ clipped_of w b → plan_of w b ≡ plan_by (not w.e.is_down) w.pace b c
unfolding plan_of
plan_is w b c e = rw e

module _ (room l : ℕ) (w : Walk) (b : Path) (c : Clip) (e : c ≡ clipped_of w b) (s : St) where
  -- the same of the plan by the clip
  by_clip : (o : Step St ℕ) → plan_step room l (plan_by (not w.e.is_down) w.pace b c) s ≡ o → line_ran o s ≡ line_ran (plan_step room l (plan_of w b) s) s
  by_clip o q = ap (λ (x : Step St ℕ). line_ran x s) (sym q ∙ ap (λ (p : Plan). plan_step room l p s) (sym (plan_is w b c e)))

  pub walk_far : (ltb c.imin c.imax && ltb most_steps c.imax) ≡ true → refused s count_over ≡ line_ran (plan_step room l (plan_of w b) s) s
  walk_far h = let f = is_far c.imin c.imax h in by_clip (halted count_over) (plan_far room l _ s f.0 f.1)

  module _ (h : (ltb c.imin c.imax && ltb most_steps c.imax) ≡ false) where
    pub walk_full : (ltb room (s.made + (c.imax - c.imin)) || ltb most_slots (s.made + (c.imax - c.imin))) ≡ true → refused s no_room_word ≡ line_ran (plan_step room l (plan_of w b) s) s
    walk_full k = by_clip (halted no_room_word) (plan_full room l _ s (not_far c.imin c.imax h) (no_room room (s.made + (c.imax - c.imin)) k))

    module _ (k : (ltb room (s.made + (c.imax - c.imin)) || ltb most_slots (s.made + (c.imax - c.imin))) ≡ false) where
      module _ (backs counts : ℕ) (o : OnTiles b backs counts) (g : Walkable w b) (v : Verdict)
          (q : v ≡ check_no (delta_of (not w.e.is_down)) (plan_acts (plan_by (not w.e.is_down) w.pace b c)) s.backs s.counts) where
        pub walk_refused : (m : ℕ) → v ≡ Against m → refused s m ≡ line_ran (plan_step room l (plan_of w b) s) s
        walk_refused m r =
            by_clip (halted m)
            (plan_refused room l (plan_by (not w.e.is_down) w.pace b c) s
            (plan_marks (plan_by (not w.e.is_down) w.pace b c) step_range (apart w.pace b (starts w b g) o.boxed) (not_past c.imin c.imax h)
            (omega (arith, g.wide)) (left w b c e).top)
            (plan_visits (plan_by (not w.e.is_down) w.pace b c) step_range (apart w.pace b (starts w b g) o.boxed) (not_past c.imin c.imax h) (omega (arith, g.wide)))
            v q (not_far c.imin c.imax h) (has_room room (s.made + (c.imax - c.imin)) k) m r)

        pub walk_fine : v ≡ Fine → is_done (run_acts (delta_of (not w.e.is_down)) l (plan_acts (plan_by (not w.e.is_down) w.pace b c)) s) ≡ true
        walk_fine r =
            plan_fine room l (plan_by (not w.e.is_down) w.pace b c) s
            (plan_marks (plan_by (not w.e.is_down) w.pace b c) step_range (apart w.pace b (starts w b g) o.boxed) (not_past c.imin c.imax h)
            (omega (arith, g.wide)) (left w b c e).top)
            (plan_visits (plan_by (not w.e.is_down) w.pace b c) step_range (apart w.pace b (starts w b g) o.boxed) (not_past c.imin c.imax h) (omega (arith, g.wide)))
            v q r

      pub walk_done : (s' : St) → done s' ≡ run_acts (delta_of (not w.e.is_down)) l (plan_acts (plan_by (not w.e.is_down) w.pace b c)) s → done s' ≡
          line_ran (plan_step room l (plan_of w b) s) s
      walk_done s' q = by_clip (taken s') (plan_done room l _ s s' (not_far c.imin c.imax h) (has_room room (s.made + (c.imax - c.imin)) k) q)

-- ---- a line's outcome

module _ (nos : List ℕ) (coords : List Float) (paths : List ℕ) (room l k : ℕ) (s : St) where
  pub line_over : most_lines ≤ l → refused s line_number ≡ line_ran (line_step nos coords paths room l k s) s
  unfolding line_step
  line_over h = rw (le-leb _ _ h)

  pub line_walked : (x : Walked) → l < most_lines → walk_at nos coords paths k ≡ x → line_step nos coords paths room l k s ≡ walked_step room l x s
  unfolding line_step
  line_walked x h e = rw (lt-leb _ _ h, e)

-- the outcome of a line's answer, taken apart
pub ran_taken : (o : Step St ℕ) (s u : St) → done u ≡ line_ran o s → o ≡ taken u
ran_taken (taken v) s u e = let q : v ≡ u = cc in ap taken q
ran_taken (halted n) s u e = let z : ◌≡◌ {A = ℕ} 0 1 = cc in absurd (omega arith)

pub ran_halted : (o : Step St ℕ) (s u : St) (n : ℕ) → refused u n ≡ line_ran o s → (o ≡ halted n) × (u ≡ s)
ran_halted (taken v) s u n e = let z : ◌≡◌ {A = ℕ} 0 1 = cc in absurd (omega arith)
ran_halted (halted m) s u n e = let q : m ≡ n = cc in (ap halted q, cc)

-- a line that is taken leaves the references within the limit, or as they are
halt_taken : (b : Bool) (n : ℕ) (o : Step St ℕ) (u : St) → halt_if b n o ≡ taken u → o ≡ taken u
halt_taken false n o u e = e
halt_taken true n o u e = let z : ◌≡◌ {A = ℕ} 0 1 = cc in absurd (omega arith)

pub line_made : (nos : List ℕ) (coords : List Float) (paths : List ℕ) (room l k : ℕ) (s u : St) → s.made < 2 ^ 32 → line_step nos coords paths room l k s ≡ taken u → u.made < 2 ^ 32
unfolding line_step
line_made nos coords paths room l k s u h e = go (walk_at nos coords paths k) (halt_taken (leb most_lines l) line_number (walked_step room l (walk_at nos coords paths k) s) u e)
  where
    go : (x : Walked) → walked_step room l x s ≡ taken u → u.made < 2 ^ 32
    go (WalkRefused n) f = let z : ◌≡◌ {A = ℕ} 0 1 = cc in absurd (omega arith)
    go Skipped f = let q : s ≡ u = cc in omega (arith, ap (λ (t : St). t.made) q)
    go (Line w b) f = omega (arith, plan_made_lem room l (plan_of w b) s u f)
