-- All acts of a line are on its own path's tiles; and what a line that is taken did. Assumes nothing.
use mathlib.Core.Path.{◌≡◌, refl, sym, ap, subst}
use mathlib.Core.Bool.{Bool, true, false, not, cond}
use mathlib.Core.List.{List, ◌∷◌}
use Prim.Native.Nat.{ℕ, zero, suc, ◌+◌, ◌-◌, ◌≤◌, ◌<◌, min}
use native.Mathlib.Omega.{arith}
use lib.Dec.{ltb, leb, eqb}
use lib.ListN.{get_or}
use lib.Ieee.{Float, eq}
use borrow.Author.Tests.{ltb-true, leb-false}
use Rattle.lists.specs.Run.{Step, taken, done, All, all_append}
use Rattle.panel.specs.Limits.{most_lines, most_steps, most_slots}
use Rattle.panel.specs.Refusals.{count_over, line_number}
use Rattle.panel.specs.Paths.{end_of, width_of, path_at, paths_answer}
use Rattle.panel.specs.declared.kinds.Path.{Path}
use Rattle.panel.specs.Answer.{Done}
use Rattle.panel.proofs.PathLaws.{Holds, checked}
use Rattle.panel.proofs.BoolLaws.{both}
use Rattle.walk.specs.Lent.{walk_at}
use Rattle.walk.specs.Step.{Boxed, step_of, last_z_word, cross_of}
use Rattle.walk.specs.declared.kinds.Walk.{Walk}
use Rattle.walk.specs.Stepped as On
use Rattle.walk.specs.Walked.{Walked, Refused, Skipped, Line}
use Rattle.walk.proofs.Boxes.{fits_boxed}
use Rattle.walk.proofs.Tiles.{tile_in_lem, mark_in}
use Rattle.walk.proofs.Walks.{line_told}
use Rattle.clip.specs.declared.Clip.{Clip}
use Rattle.clip.specs.Page.{clipped_of}
use Rattle.clip.proofs.Laws.{Left, clip_left}
use Rattle.acts.specs.Acts.{St, Act, mark, visit, stop, row_acts, cross_acts, step_acts, steps_acts, run_acts, delta_of}
use Rattle.acts.specs.Rows.{RowsIn, rows_acts}
use Rattle.acts.specs.Line.{Plan, plan_acts, halt_if, too_far, plan_step}
use Rattle.acts.specs.declared.rows.Rows.{Rows}
use Rattle.acts.proofs.Laws.{row_below}
use Rattle.acts.proofs.Whole.{plan_taken, plan_refs_lem}
use Rattle.hits.specs.Steps.{hit_at, hit_of}
use Rattle.walked_lines.proofs.Lines.{not_far}
use Rattle.walked_lines.specs.Line.{rows_by, plan_by, plan_of, walked_step, line_step}
use Rattle.theorems.specs.Drawn.{acts_by, delta_by}
use Rattle.theorems.specs.Events.{StepOn}

-- an act of a walk w over the box of path b: on b's tiles, and a visit is where the step falls
abbrev pub ActOwn : Walk → Path → Act → Type 0
ActOwn w b (mark t) = Holds b t
ActOwn w b (visit t i) = Holds b t × StepOn w b t i × (i < most_steps)
ActOwn w b (stop n) = Unit {0}

module _ (w : Walk) (b : Path) (k : Boxed b) where
  rows_own : (r : Rows) → RowsIn r (end_of b) → r.first ≡ b.first → (n y : ℕ) → r.low ≤ y → y + n ≤ r.high
      → All (ActOwn w b) (row_acts r.first r.top r.width n y)
  unfolding row_acts
  rows_own r h e zero y p q = tt
  rows_own r h e (suc n) y p q =
      ((omega arith, row_below r (end_of b) y h p (omega arith)), rows_own r h e n (suc y) (omega arith) (omega arith))

  hit_own : (i : ℕ) → i < most_steps → (s : On.Step) → step_of w.pace b i ≡ s → All (ActOwn w b) (step_acts (hit_of w.pace b i s) i)
  hit_own i h (On.Tile t x y z) e = go (cross_of w.pace.on_top b.x1 i (last_z_word w.pace i) x z) refl
    where
      here : Holds b t.0
      here = tile_in_lem w.pace b i t x y z e

      fell : StepOn w b t.0 i
      fell = record { tile = t; x = x; y = y; z = z; fell = e; number = refl }

      go : (c : Bool) → cross_of w.pace.on_top b.x1 i (last_z_word w.pace i) x z ≡ c → All (ActOwn w b) (visit t.0 i ∷ cross_acts c t.0)
      go true f =
          let r : x + 1 < b.x1 = ltb-true (x + 1) b.x1 (both (cond (eqb i 0) w.pace.on_top (eq (last_z_word w.pace i) z)) (ltb (x + 1) b.x1) f).1 in
          ((here, fell, h), ((omega (arith, here.0), mark_in w.pace b i t x y z e r), tt))
      go false f = ((here, fell, h), tt)
  hit_own i h On.Refused e = (tt, tt)

  steps_own : (n i : ℕ) → (0 < n → i + n ≤ most_steps) → All (ActOwn w b) (steps_acts (hit_at w.pace b) n i)
  unfolding steps_acts hit_at
  steps_own zero i h = tt
  steps_own (suc n) i h =
      let g = h (omega arith) in
      all_append (ActOwn w b) (step_acts (hit_at w.pace b i) i) (steps_acts (hit_at w.pace b) n (suc i))
      (hit_own i (omega arith) (step_of w.pace b i) refl) (steps_own n (suc i) (λ p. omega arith))

  by_clip : (up : Bool) (c : Clip) → Left b c → b.x0 < b.x1 → (c.imin < c.imax → c.imax ≤ most_steps)
      → All (ActOwn w b) (plan_acts (plan_by up w.pace b c))
  unfolding row_acts
  by_clip up c f wide g =
      let r : RowsIn (rows_by b c) (end_of b) =
      record { bottom = b.y1; below_top = f.top; above_bottom = f.bottom; wide = omega arith; tiles = omega arith; few = k.last } in
      all_append (ActOwn w b) (rows_acts (rows_by b c)) (steps_acts (hit_at w.pace b) (c.imax - c.imin) c.imin)
      (rows_by_lem r c.ymax refl (c.ymax - c.ymin) refl)
      (steps_own (c.imax - c.imin) c.imin (λ p. let q = g (omega arith) in omega arith))
    where
      rows_by_lem : RowsIn (rows_by b c) (end_of b) → (y : ℕ) → y ≡ c.ymax → (n : ℕ) → n ≡ c.ymax - c.ymin → All (ActOwn w b) (row_acts b.first b.y0 (width_of b) n c.ymin)
      rows_by_lem r y e zero q = tt
      rows_by_lem r y e (suc n) q = rows_own (rows_by b c) r refl (suc n) c.ymin (omega arith) (omega arith)

  pub plan_own : b.x0 < b.x1 → too_far (plan_of w b) ≡ false → All (ActOwn w b) (plan_acts (plan_of w b))
  unfolding plan_of
  plan_own wide e =
      by_clip (not w.e.is_down) (clipped_of w b) (clip_left w b) wide
      (not_far (clipped_of w b).imin (clipped_of w b).imax e)

-- ---- a line that is taken

-- what its acts are on: those of a line with no walk are none
abbrev pub WalkOwn : Walked → Type 0
WalkOwn (Refused n) = Unit {0}
WalkOwn Skipped = Unit {0}
WalkOwn (Line w b) = All (ActOwn w b) (plan_acts (plan_of w b))

-- its largest step number is within the limit
abbrev pub NearWalk : Walked → Type 0
NearWalk (Refused n) = Unit {0}
NearWalk Skipped = Unit {0}
NearWalk (Line w b) = too_far (plan_of w b) ≡ false

pub record Took (nos : List ℕ) (coords : List Float) (paths : List ℕ) (room l : ℕ) (s u : St) : Type 0 where
  pub below : l < most_lines
  pub ran : run_acts (delta_by (walk_at nos coords paths l)) l (acts_by (walk_at nos coords paths l)) s ≡ done u
  pub own : WalkOwn (walk_at nos coords paths l)
  pub near : NearWalk (walk_at nos coords paths l)
  pub fits : s.made ≤ min room most_slots → u.made ≤ min room most_slots

go_on : (b : Bool) (n : ℕ) (o : Step St ℕ) (u : St) → halt_if b n o ≡ taken u → (b ≡ false) × (o ≡ taken u)
go_on false n o u e = (refl, e)
go_on true n o u e = let z : ◌≡◌ {A = ℕ} 0 1 = cc in absurd (omega arith)

plan_near : (room l : ℕ) (p : Plan) (s u : St) → plan_step room l p s ≡ taken u → too_far p ≡ false
unfolding plan_step
plan_near room l p s u e = (go_on (too_far p) count_over _ u e).0

module _ (nos : List ℕ) (coords : List Float) (paths : List ℕ) (tiles : ℕ) (passed : paths_answer paths tiles ≡ Done) where
  line_box : (l : ℕ) (w : Walk) (b : Path) → walk_at nos coords paths l ≡ Line w b → Boxed b × (b.x0 < b.x1)
  line_box l w b e =
      let g = line_told nos coords paths l w b e in
      let c = checked paths tiles passed in
      let f = c.fits (get_or nos l 0) g.path_in in
      let same = g.path_is in
      let x : Boxed b = subst Boxed (sym same) (fits_boxed (path_at paths (get_or nos l 0)) tiles c.tiled f) in
      (x, omega (arith, g.wide, x.left))

  pub took : (room l : ℕ) (s u : St) → line_step nos coords paths room l l s ≡ taken u → Took nos coords paths room l s u
  unfolding line_step run_acts
  took room l s u e =
      let t = go_on (leb most_lines l) line_number (walked_step room l (walk_at nos coords paths l) s) u e in
      go (leb-false most_lines l t.0) (walk_at nos coords paths l) refl t.1
    where
      go : l < most_lines → (x : Walked) → walk_at nos coords paths l ≡ x → walked_step room l x s ≡ taken u → Took nos coords paths room l s u
      go h (Refused n) q f = let z : ◌≡◌ {A = ℕ} 0 1 = cc in absurd (omega arith)
      go h Skipped q f =
          let g : s ≡ u = cc in
          record { below = h; ran = rw q (ap done g); own = rw q tt; near = rw q tt; fits = λ p. omega (arith, ap (λ (v : St). v.made) g) }
      go h (Line w b) q f =
          let r = plan_taken room l (plan_of w b) s u f in
          let x = line_box l w b q in
          record {
            below = h;
            ran = rw q r.0;
            near = rw q (plan_near room l (plan_of w b) s u f);
            own = rw q (plan_own w b x.0 x.1 (plan_near room l (plan_of w b) s u f));
            fits = λ p. omega (arith, r.1, plan_refs_lem (plan_of w b), Rattle.acts.proofs.Whole.run_made (delta_of (plan_of w b).up) l (plan_acts (plan_of w b)) s u r.0);
          }
