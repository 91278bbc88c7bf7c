-- Lines that pass 5, 6 and 7, in boxes with a margin, counted into zeroed tiles: all are counted, or the room for references ends. Assumes nothing.
--     line_room       such a line, where those before it are counted, is refused for want of room alone
--     count_fit       so a call counts all lines, or stops with 9 where the room ends
--     count_all       with room for all steps it counts all lines
--     count_answers   so its answer is 0
use mathlib.Core.Path.{◌≡◌, refl, sym, ap, ◌∙◌}
use mathlib.Core.Bool.{true, false}
use mathlib.Core.List.{List, [], ◌∷◌}
use Prim.Native.Nat.{ℕ, zero, suc, ◌+◌, ◌-◌, ◌/◌, ◌≤◌, ◌<◌, ◌^◌}
use native.Mathlib.Decide.{dec_lt}
use native.Mathlib.Omega.{arith}
use lib.ListN.{length, get_or, replicate, length-replicate, get_or-eq_default}
use lib.IntN.{ℤ, pos, ◌+ℤ◌}
use lib.Signed.{mag}
use lib.Ieee.{Float}
use borrow.Author.Tests.{lt-ltb}
use Rattle.lists.specs.Run.{Ran, done, refused, halted, All, all_append}
use Rattle.lists.specs.Tally.{zeros}
use Rattle.panel.specs.Limits.{most_steps, most_count}
use Rattle.panel.specs.Refusals.{no_room_word, outside}
use Rattle.panel.specs.Signed.{in_i32}
use Rattle.panel.specs.Widths.{ref_words}
use Rattle.panel.specs.Kinds.{running_of}
use Rattle.panel.specs.Paths.{path_at, paths_answer}
use Rattle.panel.specs.Answer as Answer
use Rattle.panel.specs.declared.kinds.Path.{Path}
use Rattle.panel.specs.Verdict.{Against}
use Rattle.panel.proofs.SignLaws.{mag_in}
use Rattle.panel.proofs.PathLaws.{checked}
use Rattle.backdrop.proofs.RowLaws.{sum_mag}
use Rattle.walk.specs.Lent.{line_at, walk_at}
use Rattle.walk.specs.Step.{Boxed}
use Rattle.walk.specs.declared.kinds.Walk.{Walk}
use Rattle.walk.specs.Walked.{Line}
use Rattle.walk.proofs.Boxes.{fits_boxed}
use Rattle.walk.proofs.Walks.{line_told}
use Rattle.acts.specs.Acts.{St, Act, mark, visit, stop, Hit, on, off, row_acts, step_acts, steps_acts, check_no, run_acts, verdict_of, delta_of}
use Rattle.acts.specs.Rows.{rows_acts}
use Rattle.acts.specs.Line.{Plan, plan_acts, Refusal}
use Rattle.acts.proofs.Once.{check_run}
use Rattle.walked_lines.specs.Line.{plan_of, line_step}
use Rattle.path_count.specs.Count.{Told, batch, batch_told, call_answer, counted, paper_of, CountMet}
use Rattle.path_count.specs.Counted.{Counted}
use Rattle.path_count.proofs.Batches.{counted_once}
use Rattle.theorems.specs.StepNumbers.{few}
use Rattle.theorems.specs.Refs.{from_zero, AllCounted}
use Rattle.theorems.specs.Refusing.{ActWhy, LineWhy, five, six, seven, eight, nine, ten, stops}
use Rattle.theorems.proofs.Grounds.{good_ends}
use Rattle.theorems.proofs.Exact.{no_clash, run_halts, line_exact}
use Rattle.theorems.proofs.ExactRuns.{batch_exact}
use Rattle.theorems.proofs.SumLaws.{call_fine, start_of}
use Rattle.theorems.proofs.BatchLaws.{answer_first}
use Rattle.theorems.proofs.Calm.{plan_once, delta_one, back_mag, backs_long}
use Rattle.theorems.proofs.StepLaws.{steps_exact}
use Rattle.theorems.proofs.Margins.{walked_few, margin_line}
use Rattle.margin_theorems.specs.Fit.{Fit, FitCount, all, full, steps_at, steps_of, room_of}
use Rattle.margin_theorems.proofs.Few.{count_most, made_most, steps_part}

-- ---- acts on tiles whose counts and backdrops are small

-- a stop says 10
abbrev Outer : Act → Type 0
Outer (mark t) = Unit {0}
Outer (visit t i) = Unit {0}
Outer (stop n) = n ≡ outside

rows_outer : (first top width k y : ℕ) → All Outer (row_acts first top width k y)
unfolding row_acts
rows_outer first top width zero y = tt
rows_outer first top width (suc k) y = (tt, rows_outer first top width k (suc y))

step_outer : (h : Hit) (i : ℕ) → All Outer (step_acts h i)
step_outer (on t true) i = (tt, (tt, tt))
step_outer (on t false) i = (tt, tt)
step_outer off i = (refl, tt)

steps_outer : (f : ℕ → Hit) (k i : ℕ) → All Outer (steps_acts f k i)
unfolding steps_acts
steps_outer f zero i = tt
steps_outer f (suc k) i = all_append Outer (step_acts (f i) i) (steps_acts f k (suc i)) (step_outer (f i) i) (steps_outer f k (suc i))

plan_outer : (p : Plan) → All Outer (plan_acts p)
plan_outer p =
    all_append Outer (rows_acts p.rows) (steps_acts p.hit (p.imax - p.imin) p.imin)
    (rows_outer p.rows.first p.rows.top p.rows.width (p.rows.high - p.rows.low) p.rows.low) (steps_outer p.hit (p.imax - p.imin) p.imin)

-- held against such tiles, acts say 10 or nothing
module _ (δ : ℤ) (bs : List ℤ) (cs : List ℕ) (calm : (t : ℕ) → in_i32 (get_or bs t (pos 0) +ℤ δ) ≡ true) (low : (t : ℕ) → get_or cs t 0 < most_count) (n : ℕ) where
  only_ten : (xs : List Act) → All Outer xs → check_no δ xs bs cs ≡ Against n → n ≡ outside
  unfolding check_no
  only_ten [] o e = no_clash cc
  only_ten (mark t ∷ xs) o e = only_ten xs o.1 (rw (calm t) at e)
  only_ten (visit t i ∷ xs) o e = only_ten xs o.1 (rw (lt-ltb (get_or cs t 0) most_count (low t)) at e)
  only_ten (stop m ∷ xs) o e = let q : m ≡ n = cc in sym q ∙ o.0

few_steps : few ≤ most_steps
unfolding most_steps
few_steps = omega arith

-- the box of a fit line's path is a checked one
pub fit_boxed : (nos : List ℕ) (coords : List Float) (paths : List ℕ) (n : ℕ) → paths_answer paths n ≡ Answer.Done → (l : ℕ) → Fit nos coords paths l → Boxed (path_at paths (get_or nos l 0))
fit_boxed nos coords paths n ok l fit =
    let c = checked paths n ok in fits_boxed (path_at paths (get_or nos l 0)) n c.tiled (c.fits (get_or nos l 0) fit.there)

-- ---- line l, where the lines before it are counted

module _ (nos : List ℕ) (coords : List Float) (paths : List ℕ) (n : ℕ) (ok : paths_answer paths n ≡ Answer.Done) (refs : List ℕ) (l : ℕ) (u : St)
    (before : AllCounted l nos coords paths n refs u.backs u.counts u.refs u.made) (fit : Fit nos coords paths l) where
  boxed : Boxed (path_at paths (get_or nos l 0))
  boxed = fit_boxed nos coords paths n ok l fit

  back_small : (t : ℕ) → mag (get_or u.backs t (pos 0)) ≤ 2 ^ 17
  back_small t = go (dec_lt t n)
    where
      go : Dec (t < n) → mag (get_or u.backs t (pos 0)) ≤ 2 ^ 17
      go (yes h) = back_mag l nos coords paths n refs u.backs u.counts u.refs u.made before t h
      go (no h) =
          let long = backs_long l nos coords paths n refs u.backs u.counts u.refs u.made before in
          rw (get_or-eq_default u.backs (pos 0) {n = t} (omega (arith, long))) (omega arith)

  -- no act of it is refused but for 10
  acts_only : (w : Walk) (b : Path) → walk_at nos coords paths l ≡ Line w b → ((plan_of w b).imin < (plan_of w b).imax → (plan_of w b).imax ≤ most_steps)
      → (v : St) (m : ℕ) → run_acts (delta_of (plan_of w b).up) l (plan_acts (plan_of w b)) u ≡ refused v m → m ≡ outside
  acts_only w b e f v m r =
      let δ = delta_of (plan_of w b).up in
      let xs = plan_acts (plan_of w b) in
      let o = plan_once nos coords paths n ok l w b e f in
      let c : check_no δ xs u.backs u.counts ≡ Against m = sym (check_run δ l xs u o.0 o.1) ∙ ap verdict_of r in
      only_ten δ u.backs u.counts
      (λ t. mag_in (get_or u.backs t (pos 0) +ℤ δ) (omega (arith, sum_mag (get_or u.backs t (pos 0)) δ, back_small t, delta_one (plan_of w b).up)))
      (λ t. omega (arith, count_most l nos coords paths n refs u.backs u.counts u.refs u.made before t, fit.numbered)) m xs (plan_outer (plan_of w b)) c

  -- it is refused for want of room alone
  pub line_room : (m : ℕ) → line_step nos coords paths (length refs / ref_words) l l u ≡ halted m → (m ≡ no_room_word) × (room_of refs < u.made + steps_at nos coords paths l)
  line_room m e = go ((line_exact nos coords paths (length refs / ref_words) l u m).0 e)
    where
      none : m ≡ outside → ⊥
      none q = margin_line nos coords paths l boxed fit.margin (length refs / ref_words) u (rw q at e)

      ten_is : (w : Walk) (b : Path) (v : St) (a : Act) → ActWhy (delta_of (plan_of w b).up) v a m → m ≡ outside → ⊥
      ten_is w b v (mark t) q r = let f = q.0 in omega arith
      ten_is w b v (visit t i) q r = let f = q.0 in omega arith
      ten_is w b v (stop j) q r = q

      go : LineWhy nos coords paths (length refs / ref_words) l u m → (m ≡ no_room_word) × (room_of refs < u.made + steps_at nos coords paths l)
      go (five q h) = absurd (omega (arith, fit.numbered))
      go (six q h r) = absurd (good_ends (line_at coords l) fit.reached r)
      go (seven q h r p) = absurd (omega (arith, fit.there))
      go (eight q w b h i j) =
          let t = line_told nos coords paths l w b h.1 in
          let c : w.k.count < few = rw t.walk_is (steps_exact (line_at coords l).p0 (line_at coords l).p1 t.reached).count_few in
          absurd (omega (arith, walked_few nos coords paths l boxed fit.margin w b h.1, few_steps))
      go (nine q w b h i j) = (q, rw h.1 j)
      go (ten q w b h f g v i low high ran o) = absurd (none q)
      go (stops w b h f g v a st q) =
          absurd (ten_is w b v a q (acts_only w b h.1 f v m (run_halts (delta_of (plan_of w b).up) l (plan_acts (plan_of w b)) u v m a st q)))

-- ---- a call

module _ (b : ℕ) (nos : List ℕ) (coords : List Float) (paths : List ℕ) (n : ℕ) (refs : List ℕ) (ok : call_answer nos coords paths 0 b (start_of n refs) ≡ Answer.Done) where
  pub paths_ok : paths_answer paths n ≡ Answer.Done
  paths_ok = let z : length (zeros n) ≡ n = length-replicate n 0 in rw z at (call_fine nos coords paths 0 b (start_of n refs) ok).1

  abbrev ran : ℕ → Ran St Refusal
  ran e = batch nos coords paths (length refs / ref_words) 0 e (start_of n refs)

  told : (e : ℕ) → e ≤ b → from_zero e nos coords paths n refs ≡ batch_told e (ran e)
  unfolding counted
  told e h =
      let r = (call_fine nos coords paths 0 b (start_of n refs) ok).0 in
      let same : call_answer nos coords paths 0 e (start_of n refs) ≡ Answer.Done = answer_first nos coords paths 0 e b (omega arith) h (omega (arith, r.whole)) (start_of n refs) ∙ ok in
      rw same

  -- the lines up to e, where none of them is refused
  pub part : (e : ℕ) → e ≤ b → (u : St) → ran e ≡ done u → AllCounted e nos coords paths n refs u.backs u.counts u.refs u.made
  part e h u q = told e h ∙ ap (batch_told e) q

  -- All lines are counted, or 9 is answered where the room ends
  pub count_fit : ((l : ℕ) → l < b → Fit nos coords paths l) → FitCount b nos coords paths n refs
  count_fit fit = go (ran b) refl
    where
      go : (o : Ran St Refusal) → ran b ≡ o → FitCount b nos coords paths n refs
      go (done u) q = all u.backs u.counts u.refs u.made (part b (omega arith) u q)
      go (refused u why) q =
          let w = (batch_exact nos coords paths (length refs / ref_words) 0 b (start_of n refs) u why).0 q in
          let below : why.line ≤ b = omega (arith, w.below_b) in
          let p = part why.line below u w.ran in
          let r = line_room nos coords paths n paths_ok refs why.line u p (fit why.line w.below_b) why.no w.halts in
          full why.line u.backs u.counts u.refs u.made w.below_b p r.1 (told b (omega arith) ∙ ap (batch_told b) q ∙ rw r.0)

  -- With room for all steps, all lines are counted
  pub count_all : ((l : ℕ) → l < b → Fit nos coords paths l) → steps_of nos coords paths b ≤ room_of refs
      → (bs : List ℤ) × (cs : List ℕ) × (rs : List ℕ) × (m : ℕ) × AllCounted b nos coords paths n refs bs cs rs m
  count_all fit room = go (count_fit fit)
    where
      go : FitCount b nos coords paths n refs → (bs : List ℤ) × (cs : List ℕ) × (rs : List ℕ) × (m : ℕ) × AllCounted b nos coords paths n refs bs cs rs m
      go (all bs cs rs m p) = (bs, cs, rs, m, p)
      go (full l bs cs rs m h p f e) = absurd (omega (arith, made_most l nos coords paths n refs bs cs rs m p, steps_part nos coords paths l b h))

  -- so every answer that meets the call's promise is 0, with all b lines counted
  pub count_answers : ((l : ℕ) → l < b → Fit nos coords paths l) → steps_of nos coords paths b ≤ room_of refs → (r : Counted) (bs : List ℤ) (cs rs : List ℕ)
      → CountMet (running_of 0 0) b nos coords paths (replicate n (pos 0)) (zeros n) refs r bs cs rs → (m : ℕ) × (r ≡ Counted.Done (running_of b m))
  count_answers fit room r bs cs rs met =
      let w = count_all fit room in
      let e : paper_of r ≡ paper_of (Counted.Done (running_of b w.3)) = ap (λ (t : Told). t.paper) (met ∙ w.4) in
      (w.3, counted_once r (Counted.Done (running_of b w.3)) e)
