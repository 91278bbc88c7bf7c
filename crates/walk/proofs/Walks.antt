-- What is known of a line that is walked: its ends were checked, so it starts at whole numbers and has few steps. Assumes nothing.
--     line_starts    a checked line's first column and row, and its sign
--     line_few       its count of steps: 1 at least, below 4 times the limit in tiles
--     line_told      what `Line w b` tells, of a line as it is lent
--     last_z         z of the step before, as the file computes it, is that step's z
use Prim.Native.Nat.{ℕ, ◌+◌, ◌<◌}
use native.Mathlib.Omega.{arith}
use mathlib.Core.Path.{◌≡◌, refl, sym, ap, ◌∙◌, subst}
use mathlib.Core.Bool.{Bool, true, false, cond, ◌||◌, true≢false}
use mathlib.Core.Logic.{◌≢◌}
use mathlib.Core.List.{List}
use lib.Dec.{ltb, eqb}
use lib.ListN.{get_or}
use lib.Ieee.{Float, le, lt}
use Rattle.float32.specs.Meaning.{min_of}
use borrow.Author.Tests.{ltb-true, eq-eqb}
use Rattle.util.specs.declared.Vec2.{Vec2}
use Rattle.panel.specs.Widths.{step_range}
use Rattle.panel.specs.Refusals.{coordinate, no_such}
use Rattle.panel.specs.Paths.{path_at, path_count}
use Rattle.panel.specs.declared.kinds.Path.{Path}
use Rattle.exact.specs.Reach.{Starts}
use Rattle.exact.proofs.Bounds.{line_at_lem}
use Rattle.exact.proofs.Less.{one_less}
use Rattle.exact.proofs.Limits.{far}
use Rattle.walk.specs.Num.{float}
use Rattle.walk.specs.Setup.{ends_of, slope_of, walk_on}
use Rattle.walk.specs.Page.{line_of, by_parts}
use Rattle.walk.specs.Skip.{flat_of, past_of}
use Rattle.walk.specs.Step.{z_at, last_z_word}
use Rattle.walk.specs.Lent.{line_at, reached_of, Reached, walked_of, walk_at}
use Rattle.walk.specs.declared.kinds.Pace.{Pace}
use Rattle.walk.specs.declared.kinds.Walk.{Walk}
use Rattle.walk.specs.Walked.{Walked}
use Rattle.walk.specs.Walked.{Refused, Skipped, Line}
use Rattle.walk.proofs.Counts.{Few, ends_scaled, counts_few}
use Rattle.walk.proofs.Lines.{skipped}

abbrev pub StartsAt : Pace → Type 0
StartsAt p = Starts p.sign p.x0 p.y0

on_starts : (p0 p1 : Vec2) → Reached p0 p1 → StartsAt (walk_on (ends_of p0 p1)).pace
unfolding walk_on slope_of
on_starts p0 p1 h =
    let c = (ends_scaled p0 p1 h).0 in
    line_at_lem (le (ends_of p0 p1).s0.x (ends_of p0 p1).s1.x) (ends_of p0 p1).s0.x (ends_of p0 p1).s0.y c.in_x c.in_y

pub line_starts : (p0 p1 : Vec2) → Reached p0 p1 → StartsAt (line_of p0 p1).pace
line_starts p0 p1 h = subst (λ (w : Walk). StartsAt w.pace) (by_parts p0 p1) (on_starts p0 p1 h)

on_few : (p0 p1 : Vec2) → Reached p0 p1 → Few (walk_on (ends_of p0 p1)).k.count_x (walk_on (ends_of p0 p1)).k.count
unfolding walk_on
on_few p0 p1 h = let c = ends_scaled p0 p1 h in counts_few (ends_of p0 p1).s0 (ends_of p0 p1).s1 c.0 c.1

pub line_few : (p0 p1 : Vec2) → Reached p0 p1 → Few (line_of p0 p1).k.count_x (line_of p0 p1).k.count
line_few p0 p1 h = subst (λ (w : Walk). Few w.k.count_x w.k.count) (by_parts p0 p1) (on_few p0 p1 h)

-- ---- a line that is walked
pub record LineTold (nos : List ℕ) (coords : List Float) (paths : List ℕ) (l : ℕ) (w : Walk) (b : Path) : Type 0 where
  pub reached : Reached (line_at coords l).p0 (line_at coords l).p1
  pub path_in : get_or nos l 0 < path_count paths
  pub path_is : b ≡ path_at paths (get_or nos l 0)
  pub walk_is : w ≡ line_of (line_at coords l).p0 (line_at coords l).p1
  pub wide : b.x1 ≢ b.x0

-- of a box with no columns every line is skipped
no_columns : (p0 p1 : Vec2) (b : Path) → b.x1 ≡ b.x0 → skipped p0 p1 b ≡ true
unfolding past_of
no_columns p0 p1 b e = go (flat_of (ends_of p0 p1).s0 (ends_of p0 p1).s1) (le (float b.y1) (ends_of p0 p1).s0.y) (lt (ends_of p0 p1).s1.y (float b.y0))
    (le (float b.x1) (min_of (ends_of p0 p1).s0.x (ends_of p0 p1).s1.x)) (eqb b.x1 b.x0) (eq-eqb b.x1 b.x0 e)
  where
    go : (p q r s t : Bool) → t ≡ true → (p || (q || (r || (s || t)))) ≡ true
    go true q r s t h = refl
    go false true r s t h = refl
    go false false true s t h = refl
    go false false false true t h = refl
    go false false false false t h = h

pub line_told : (nos : List ℕ) (coords : List Float) (paths : List ℕ) (l : ℕ) (w : Walk) (b : Path) → walk_at nos coords paths l ≡ Line w b → LineTold nos coords paths l w b
unfolding walk_at walked_of
line_told nos coords paths l w b e = go (reached_of p0 p1) refl (ltb n (path_count paths)) refl (skipped p0 p1 (path_at paths n)) refl e
  where
    n : ℕ
    n = get_or nos l 0

    p0 : Vec2
    p0 = (line_at coords l).p0

    p1 : Vec2
    p1 = (line_at coords l).p1

    none : {A : Type 0} (v : Walked) → v ≡ Line w b → (v ≡ Skipped) → A
    none v p q = let z : ◌≡◌ {A = ℕ} 0 1 = cc in absurd (omega arith)

    no : {A : Type 0} (v : Walked) (m : ℕ) → v ≡ Line w b → (v ≡ Refused m) → A
    no v m p q = let z : ◌≡◌ {A = ℕ} 0 1 = cc in absurd (omega arith)

    go : (r : Bool) → reached_of p0 p1 ≡ r → (i : Bool) → ltb n (path_count paths) ≡ i → (s : Bool) → skipped p0 p1 (path_at paths n) ≡ s
        → cond r (cond i (cond s Skipped (Line (line_of p0 p1) (path_at paths n))) (Refused no_such)) (Refused coordinate) ≡ Line w b → LineTold nos coords paths l w b
    go false hr i hi s hs e = no _ _ e refl
    go true hr false hi s hs e = no _ _ e refl
    go true hr true hi true hs e = none _ e refl
    go true hr true hi false hs e =
        let q : b ≡ path_at paths n = cc in
        record {
          reached = hr;
          path_in = ltb-true n (path_count paths) hi;
          path_is = q;
          walk_is = cc;
          wide = λ d. true≢false (sym (no_columns p0 p1 (path_at paths n) (rw q at d)) ∙ hs);
        }

-- ---- z of the step before
pub last_z : (p : Pace) (i : ℕ) → i < step_range → last_z_word p (i + 1) ≡ z_at p.a p.b (float i)
last_z p i h = ap (λ (f : Float). z_at p.a p.b f) (one_less i (omega (arith, far.steps)))
