-- The grounds of 6, 10 and 12 in the rules' words are what the definitions test. Assumes nothing.
use mathlib.Core.Path.{◌≡◌, refl, sym, ap, subst, ◌∙◌}
use mathlib.Core.Logic.{◌↔◌, ◌⊎◌, inl, inr}
use mathlib.Core.Bool.{Bool, true, false, cond, not, ◌&&◌, false≢true}
use mathlib.Core.List.{List, [], ◌∷◌, ◌++◌, append_assoc}
use Prim.Native.Nat.{ℕ, zero, suc, ◌+◌, ◌-◌, ◌≤◌, ◌<◌}
use native.Mathlib.Omega.{arith}
use lib.Dec.{T, leb, ltb}
use lib.IntN.{ℤ, pos, negsuc}
use lib.Ieee.{Float, nan, inf, fin, of_bits, le, lt, is_nan}
use lib.Ieee.Scale.{finite}
use borrow.Author.Tests.{le-leb, lt-leb, lt-ltb, le-ltb, leb-true, leb-false, ltb-true, ltb-false}
use Rattle.float32.specs.Meaning.{abs_of}
use Rattle.float32.proofs.Order.{le_of_not_lt, not_lt_of_le}
use Rattle.lists.specs.Run.{All, done, refused, run_stopped}
use Rattle.util.specs.declared.Vec2.{Vec2}
use Rattle.exact.specs.Reach.{in_reach}
use Rattle.panel.specs.Limits.{coord_most}
use Rattle.panel.specs.Refusals.{outside}
use Rattle.panel.specs.declared.kinds.Path.{Path}
use Rattle.walk.specs.Num.{inside_of}
use Rattle.walk.specs.Lent.{reached_of}
use Rattle.walk.specs.Step.{tile_in, step_of}
use Rattle.panel.specs.declared.lines.LineEnds.{LineEnds}
use Rattle.walk.specs.declared.kinds.Pace.{Pace}
use Rattle.walk.specs.declared.kinds.Walk.{Walk}
use Rattle.walk.specs.Stepped.{Step}
use Rattle.walk.specs.Stepped as On
use Rattle.walk.proofs.Boxes.{ok_of, tile_yes, tile_no}
use Rattle.panel.specs.Segments.{InTile, held_of}
use Rattle.panel.proofs.HeldLaws.{in_held, held_not}
use Rattle.segment.specs.Clips.{segment_of, piece_of}
use Rattle.panel.specs.declared.segments.Segment.{Segment}
use Rattle.segment.specs.Piece.{Kept, Crooked}
use Rattle.acts.specs.Acts.{St, Act, mark, visit, stop, Hit, on, off, row_acts, step_acts, steps_acts, act, run_acts}
use Rattle.acts.specs.Rows.{rows_acts}
use Rattle.acts.specs.Line.{Plan, plan_acts}
use Rattle.acts.proofs.Laws.{steps_turn, steps_halves}
use Rattle.hits.specs.Steps.{hit_of, hit_at}
use Rattle.walked_lines.specs.Line.{plan_of}
use Rattle.theorems.specs.Refusing.{BadCoordinate, BadEnds, z_of, column_of, row_of, Off, StepOutside, EndOutside, StopsAt, acts_before}

clash : {A : Type 0} → ◌≡◌ {A = ℕ} 0 1 → A
clash z = absurd (omega arith)

-- ---- two tests: the second fails where the first holds

and_false : (a b : Bool) → (a && b) ≡ false → (a ≡ false) ⊎ (b ≡ false)
and_false true b e = inr e
and_false false b e = inl refl

false_left : (a b : Bool) → a ≡ false → (a && b) ≡ false
false_left a b e = rw e

false_right : (a b : Bool) → b ≡ false → (a && b) ≡ false
false_right true b e = e
false_right false b e = refl

-- ---- 6

limit_is : T (not (is_nan coord_most))
unfolding coord_most of_bits is_nan
limit_is = tt

reach_why : (x : Float) → in_reach x ≡ false → BadCoordinate x
unfolding abs_of is_nan
reach_why nan e = inl refl
reach_why (inf s) e = inl refl
reach_why (fin s m k) e = go (lt coord_most (fin false m k)) refl
  where
    go : (b : Bool) → lt coord_most (fin false m k) ≡ b → BadCoordinate (fin s m k)
    go true f = inr f
    go false f = absurd (false≢true (sym e ∙ le_of_not_lt (fin false m k) coord_most tt limit_is f))

over_limit : (y : Float) → lt coord_most y ≡ true → le y coord_most ≡ false
over_limit y h = go (le y coord_most) refl
  where
    go : (b : Bool) → le y coord_most ≡ b → b ≡ false
    go true f = sym h ∙ not_lt_of_le y coord_most f
    go false f = refl

reach_halts : (x : Float) → BadCoordinate x → in_reach x ≡ false
unfolding abs_of le coord_most of_bits
reach_halts nan h = refl
reach_halts (inf s) h = refl
reach_halts (fin s m k) (inl h) = absurd (false≢true (sym h))
reach_halts (fin s m k) (inr h) = over_limit (fin false m k) h

pub reach_exact : (x : Float) → (in_reach x ≡ false) ↔ BadCoordinate x
reach_exact x = (reach_why x, reach_halts x)

pub ends_exact : (e : LineEnds) → (reached_of e.p0 e.p1 ≡ false) ↔ BadEnds e
ends_exact e = (why, halts)
  where
    a : Bool
    a = in_reach e.p0.x

    b : Bool
    b = in_reach e.p0.y

    c : Bool
    c = in_reach e.p1.x

    d : Bool
    d = in_reach e.p1.y

    first : (a ≡ false) ⊎ (b ≡ false) → BadEnds e
    first (inl h) = inl (reach_why e.p0.x h)
    first (inr h) = inr (inl (reach_why e.p0.y h))

    last : (c ≡ false) ⊎ (d ≡ false) → BadEnds e
    last (inl h) = inr (inr (inl (reach_why e.p1.x h)))
    last (inr h) = inr (inr (inr (reach_why e.p1.y h)))

    which : ((a && b) ≡ false) ⊎ ((c && d) ≡ false) → BadEnds e
    which (inl h) = first (and_false a b h)
    which (inr h) = last (and_false c d h)

    why : reached_of e.p0 e.p1 ≡ false → BadEnds e
    why h = which (and_false (a && b) (c && d) h)

    halts : BadEnds e → reached_of e.p0 e.p1 ≡ false
    halts (inl h) = false_left (a && b) (c && d) (false_left a b (reach_halts e.p0.x h))
    halts (inr (inl h)) = false_left (a && b) (c && d) (false_right a b (reach_halts e.p0.y h))
    halts (inr (inr (inl h))) = false_right (a && b) (c && d) (false_left c d (reach_halts e.p1.x h))
    halts (inr (inr (inr h))) = false_right (a && b) (c && d) (false_right c d (reach_halts e.p1.y h))

pub ends_good : (e : LineEnds) → (BadEnds e → ⊥) → reached_of e.p0 e.p1 ≡ true
ends_good e h = go (reached_of e.p0 e.p1) refl
  where
    go : (b : Bool) → reached_of e.p0 e.p1 ≡ b → b ≡ true
    go true f = refl
    go false f = absurd (h ((ends_exact e).0 f))

pub good_ends : (e : LineEnds) → reached_of e.p0 e.p1 ≡ true → BadEnds e → ⊥
good_ends e h k = false≢true (sym ((ends_exact e).1 k) ∙ h)

-- ---- 10

inside_why : (v : ℤ) (low high : ℕ) → inside_of v low high ≡ false → Off v low high
unfolding inside_of
inside_why (pos n) low high e = go (and_false (leb low n) (ltb n high) e)
  where
    go : (leb low n ≡ false) ⊎ (ltb n high ≡ false) → Off (pos n) low high
    go (inl h) = inl (lt-ltb n low (leb-false low n h))
    go (inr h) = inr (le-leb high n (ltb-false n high h))
inside_why (negsuc n) low high e = inl refl

inside_halts : (v : ℤ) (low high : ℕ) → Off v low high → inside_of v low high ≡ false
unfolding inside_of
inside_halts (pos n) low high (inl h) = false_left (leb low n) (ltb n high) (lt-leb low n (ltb-true n low h))
inside_halts (pos n) low high (inr h) = false_right (leb low n) (ltb n high) (le-ltb n high (leb-true high n h))
inside_halts (negsuc n) low high h = refl

tile_why : (b : Path) (x y : ℤ) (z : Float) → tile_in b x y z ≡ On.Refused → (finite z ≡ false) ⊎ Off x b.x0 b.x1 ⊎ Off y b.y0 b.y1
tile_why b x y z e = go (ok_of b x y z) refl
  where
    col : Bool
    col = inside_of x b.x0 b.x1

    row : Bool
    row = inside_of y b.y0 b.y1

    inner : (col ≡ false) ⊎ (row ≡ false) → (finite z ≡ false) ⊎ Off x b.x0 b.x1 ⊎ Off y b.y0 b.y1
    inner (inl h) = inr (inl (inside_why x b.x0 b.x1 h))
    inner (inr h) = inr (inr (inside_why y b.y0 b.y1 h))

    which : (finite z ≡ false) ⊎ ((col && row) ≡ false) → (finite z ≡ false) ⊎ Off x b.x0 b.x1 ⊎ Off y b.y0 b.y1
    which (inl h) = inl h
    which (inr h) = inner (and_false col row h)

    go : (t : Bool) → ok_of b x y z ≡ t → (finite z ≡ false) ⊎ Off x b.x0 b.x1 ⊎ Off y b.y0 b.y1
    go true q = let f = tile_yes b x y z q ∙ e in clash cc
    go false q = which (and_false (finite z) (col && row) q)

tile_halts : (b : Path) (x y : ℤ) (z : Float) → (finite z ≡ false) ⊎ Off x b.x0 b.x1 ⊎ Off y b.y0 b.y1 → tile_in b x y z ≡ On.Refused
tile_halts b x y z h = sym (tile_no b x y z (go h))
  where
    go : (finite z ≡ false) ⊎ Off x b.x0 b.x1 ⊎ Off y b.y0 b.y1 → ok_of b x y z ≡ false
    go (inl f) = false_left (finite z) (inside_of x b.x0 b.x1 && inside_of y b.y0 b.y1) f
    go (inr (inl f)) =
        false_right (finite z) (inside_of x b.x0 b.x1 && inside_of y b.y0 b.y1)
        (false_left (inside_of x b.x0 b.x1) (inside_of y b.y0 b.y1) (inside_halts x b.x0 b.x1 f))
    go (inr (inr f)) =
        false_right (finite z) (inside_of x b.x0 b.x1 && inside_of y b.y0 b.y1)
        (false_right (inside_of x b.x0 b.x1) (inside_of y b.y0 b.y1) (inside_halts y b.y0 b.y1 f))

pub step_exact : (p : Pace) (b : Path) (i : ℕ) → (step_of p b i ≡ On.Refused) ↔ StepOutside p b i
unfolding step_of
step_exact p b i = (tile_why b (column_of p i) (row_of p i) (z_of p i), tile_halts b (column_of p i) (row_of p i) (z_of p i))

-- the same of where a step of counting falls
hit_off : (p : Pace) (b : Path) (i : ℕ) (s : Step) → hit_of p b i s ≡ off → s ≡ On.Refused
hit_off p b i (On.Tile t x y z) e = clash cc
hit_off p b i On.Refused e = refl

pub hit_exact : (p : Pace) (b : Path) (i : ℕ) → (hit_at p b i ≡ off) ↔ StepOutside p b i
unfolding hit_at
hit_exact p b i = (
  (λ e. (step_exact p b i).0 (hit_off p b i (step_of p b i) e)),
  (λ h. rw ((step_exact p b i).1 h)),
)

-- ---- a walk that comes to a stop

-- an act that is no stop
abbrev Goes : Act → Type 0
Goes (mark t) = Unit {0}
Goes (visit t i) = Unit {0}
Goes (stop n) = ⊥

past : (xs B before after : List Act) (m : ℕ) → All Goes xs → xs ++ B ≡ before ++ stop m ∷ after → (bs : List Act) × (before ≡ xs ++ bs) × (B ≡ bs ++ stop m ∷ after)
past [] B before after m h e = (before, refl, e)
past (x ∷ xs) B [] after m h e = let p : x ≡ stop m = cc in absurd (subst Goes p h.0)
past (x ∷ xs) B (a ∷ before) after m h e =
    let p : a ≡ x = cc in
    let t : xs ++ B ≡ before ++ stop m ∷ after = cc in
    let r = past xs B before after m h.1 t in
    (r.0, (λ i. p i ∷ r.1 i), r.2)

rows_go : (first top width k y : ℕ) → All Goes (row_acts first top width k y)
unfolding row_acts
rows_go first top width zero y = tt
rows_go first top width (suc k) y = (tt, rows_go first top width k (suc y))

on_goes : (t i : ℕ) (x : Bool) → All Goes (step_acts (on t x) i)
on_goes t i true = (tt, (tt, tt))
on_goes t i false = (tt, tt)

-- the steps before the stop are those before a step that is off
pub record StopsIn (f : ℕ → Hit) (k i : ℕ) (before : List Act) (m : ℕ) : Type 0 where
  pub step : ℕ
  pub inside : step < k
  pub are : before ≡ steps_acts f step i
  pub is_off : f (i + step) ≡ off
  pub number : m ≡ outside

steps_stop : (f : ℕ → Hit) (k i : ℕ) (before after : List Act) (m : ℕ) → steps_acts f k i ≡ before ++ stop m ∷ after → StopsIn f k i before m
unfolding steps_acts
steps_stop f zero i [] after m e = clash cc
steps_stop f zero i (a ∷ before) after m e = clash cc
steps_stop f (suc k) i before after m e = go (f i) refl before e (steps_stop f k (suc i))
  where
    later : (h : Hit) → f i ≡ h → (before bs : List Act) → before ≡ step_acts h i ++ bs → StopsIn f k (suc i) bs m → StopsIn f (suc k) i before m
    later h q before bs e w =
        let z : i + suc w.step ≡ suc i + w.step = omega arith in
        record {
          step = suc w.step;
          inside = omega (arith, w.inside);
          are = e ∙ ap (λ (l : List Act). step_acts h i ++ l) w.are ∙ ap (λ (x : Hit). step_acts x i ++ steps_acts f w.step (suc i)) (sym q);
          is_off = rw z w.is_off;
          number = w.number;
        }

    go : (h : Hit) → f i ≡ h → (before : List Act) → step_acts h i ++ steps_acts f k (suc i) ≡ before ++ stop m ∷ after
        → ((before after : List Act) (m : ℕ) → steps_acts f k (suc i) ≡ before ++ stop m ∷ after → StopsIn f k (suc i) before m) → StopsIn f (suc k) i before m
    go (on t x) q before d ih =
        let r = past (step_acts (on t x) i) (steps_acts f k (suc i)) before after m (on_goes t i x) d in
        later (on t x) q before r.0 r.1 (ih r.0 after m r.2)
    go off q [] d ih =
        let z : i + 0 ≡ i = omega arith in
        let n : stop outside ≡ stop m = cc in
        let o : outside ≡ m = cc in
        record { step = 0; inside = omega arith; are = refl; is_off = rw z q; number = sym o }
    go off q (a ∷ before) d ih =
        let p : a ≡ stop outside = cc in
        let t : steps_acts f k (suc i) ≡ before ++ stop m ∷ after = cc in
        later off q (a ∷ before) before (λ r. p r ∷ before) (ih before after m t)

-- so of a plan's acts: the stop is step i's, and all before that step is done
pub record PlanStops (p : Plan) (δ : ℤ) (l : ℕ) (s u : St) (m : ℕ) : Type 0 where
  pub step : ℕ
  pub low : p.imin ≤ step
  pub high : step < p.imax
  pub ran : run_acts δ l (acts_before p step) s ≡ done u
  pub is_off : p.hit step ≡ off
  pub number : m ≡ outside

pub plan_stops : (p : Plan) (δ : ℤ) (l : ℕ) (s u : St) (m : ℕ) → StopsAt δ l (plan_acts p) s u (stop m) → PlanStops p δ l s u m
plan_stops p δ l s u m w =
    let r = past (rows_acts p.rows) (steps_acts p.hit (p.imax - p.imin) p.imin) w.before w.after m
    (rows_go p.rows.first p.rows.top p.rows.width (p.rows.high - p.rows.low) p.rows.low) w.split in
    let t = steps_stop p.hit (p.imax - p.imin) p.imin r.0 w.after m r.2 in
    let z : p.imin + t.step - p.imin ≡ t.step = omega arith in
    let are : acts_before p (p.imin + t.step) ≡ w.before =
    ap (λ (k : ℕ). rows_acts p.rows ++ steps_acts p.hit k p.imin) z ∙ ap (λ (xs : List Act). rows_acts p.rows ++ xs) (sym t.are) ∙ sym r.1 in
    record {
      step = p.imin + t.step;
      low = omega arith;
      high = omega (arith, t.inside);
      ran = ap (λ (xs : List Act). run_acts δ l xs s) are ∙ w.ran;
      is_off = t.is_off;
      number = t.number;
    }

-- and back
pub plan_halts : (p : Plan) (δ : ℤ) (l : ℕ) (s u : St) (i : ℕ) → p.imin ≤ i → i < p.imax → run_acts δ l (acts_before p i) s ≡ done u → p.hit i ≡ off
    → run_acts δ l (plan_acts p) s ≡ refused u outside
unfolding run_acts
plan_halts p δ l s u i low high ran e =
    let rest : List Act = steps_acts p.hit (p.imax - (i + 1)) (i + 1) in
    let here : steps_acts p.hit (p.imax - i) i ≡ stop outside ∷ rest = steps_turn p.hit i p.imax high ∙ ap (λ (h : Hit). step_acts h i ++ rest) e in
    let all : steps_acts p.hit (p.imax - p.imin) p.imin ≡ steps_acts p.hit (i - p.imin) p.imin ++ stop outside ∷ rest =
    steps_halves p.hit p.imin i p.imax low (omega arith) ∙ ap (λ (xs : List Act). steps_acts p.hit (i - p.imin) p.imin ++ xs) here in
    run_stopped (act δ l) (plan_acts p) s u outside
    (record {
      before = acts_before p i;
      culprit = stop outside;
      after = rest;
      split = ap (λ (xs : List Act). rows_acts p.rows ++ xs) all ∙ sym (append_assoc (rows_acts p.rows) (steps_acts p.hit (i - p.imin) p.imin) (stop outside ∷ rest));
      ran = ran;
      halts = refl;
    })

-- a plan's step falls as the walk's
pub plan_hit : (w : Walk) (b : Path) (i : ℕ) → ((plan_of w b).hit i ≡ off) ↔ StepOutside w.pace b i
unfolding plan_of
plan_hit w b i = hit_exact w.pace b i

-- ---- 12

not_held : (p : Vec2) → held_of p ≡ false → InTile p → ⊥
not_held p e h = false≢true (sym e ∙ in_held p h)

crooked_if : (b : Bool) (s : Segment) → cond b (Kept s) Crooked ≡ Crooked → b ≡ false
crooked_if true s e = clash cc
crooked_if false s e = refl

pub piece_exact : (w : Walk) (i : ℕ) (z : Float) (x y : ℕ) → (piece_of w i z x y ≡ Crooked) ↔ EndOutside (segment_of w i z x y)
unfolding piece_of
piece_exact w i z x y = (why, halts)
  where
    s : Segment
    s = segment_of w i z x y

    which : (held_of s.p0 ≡ false) ⊎ (held_of s.p1 ≡ false) → EndOutside s
    which (inl e) = inl (not_held s.p0 e)
    which (inr e) = inr (not_held s.p1 e)

    why : cond (held_of s.p0 && held_of s.p1) (Kept s) Crooked ≡ Crooked → EndOutside s
    why e = which (and_false (held_of s.p0) (held_of s.p1) (crooked_if (held_of s.p0 && held_of s.p1) s e))

    halts : EndOutside s → cond (held_of s.p0 && held_of s.p1) (Kept s) Crooked ≡ Crooked
    halts (inl h) = rw (false_left (held_of s.p0) (held_of s.p1) (held_not s.p0 h))
    halts (inr h) = rw (false_right (held_of s.p0) (held_of s.p1) (held_not s.p1 h))
