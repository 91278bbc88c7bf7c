-- After all lines are counted into zeroed tiles and none is refused, no backdrop is far from 0: a line marks no tile twice, and the lines are few. So
-- the sums are never refused. Assumes nothing.
use mathlib.Core.Path.{◌≡◌, refl, ap, ◌∙◌}
use mathlib.Core.Logic.{◌⊎◌, inl, inr}
use mathlib.Core.Bool.{Bool, true, false, not}
use mathlib.Core.List.{List, [], ◌∷◌, map}
use Prim.Native.Nat.{ℕ, zero, suc, ◌+◌, ◌-◌, ◌*◌, ◌/◌, ◌≤◌, ◌<◌, ◌^◌}
use native.Mathlib.Nat.{le_trans}
use native.Mathlib.Omega.{arith}
use lib.ListN.{length, get_or, replicate, length-replicate}
use lib.IntN.{ℤ, pos, negsuc, ◌+ℤ◌}
use lib.Signed.{mag}
use lib.Ieee.{Float}
use borrow.Author.Tests.{le-leb}
use Rattle.lists.specs.Run.{taken, done, run, run_cons_done, act_all}
use Rattle.lists.specs.Sums.{from}
use Rattle.lists.specs.Occ.{is, is_same, is_other}
use Rattle.panel.specs.Limits.{most_lines, most_steps, edge_most}
use Rattle.panel.specs.Widths.{ref_words, step_range}
use Rattle.panel.specs.Paths.{path_at, path_count, width_of, height_of, paths_answer}
use Rattle.panel.specs.declared.kinds.Path.{Path}
use Rattle.panel.specs.Answer.{Done}
use Rattle.panel.proofs.LimitLaws.{small, packs}
use Rattle.panel.proofs.PathLaws.{Checked, checked, Holds}
use Rattle.backdrop.specs.Backdrop.{out_of, backdrop_at, path_fits, path_sums, sum_paths, backdrop_of}
use Rattle.backdrop.specs.Calm.{calm_one, calm_from}
use Rattle.backdrop.proofs.RowLaws.{sum_mag}
use Rattle.backdrop.proofs.CalmLaws.{calm_path}
use Rattle.backdrop.proofs.CellLaws.{path_elsewhere}
use Rattle.backdrop.proofs.PathSums.{call_done}
use Rattle.walk.specs.Lent.{walk_at}
use Rattle.walk.specs.declared.kinds.Walk.{Walk}
use Rattle.walk.specs.Walked.{Walked, Refused, Skipped, Line}
use Rattle.clip.specs.Page.{clipped_of}
use Rattle.acts.specs.Acts.{St, st_of, Act, mark, visit, stop, delta_of}
use Rattle.acts.specs.Line.{plan_acts, at_line, batch_of}
use Rattle.acts.proofs.Once as Once
use Rattle.acts.proofs.Once.{Free, Once}
use Rattle.acts.proofs.Plans.{plan_marks, plan_visits}
use Rattle.walked_lines.specs.Line.{plan_of, plan_by, line_step, Lent}
use Rattle.path_count.specs.Count.{batch}
use Rattle.hits.proofs.StepLaws.{apart}
use Rattle.walked_lines.proofs.Lines.{not_far, starts, walkable, on_tiles, left}
use Rattle.theorems.specs.Drawn.{drawn_at, drawn, acts_by, delta_by, marks_in, marks_of}
use Rattle.theorems.specs.Refs.{AllCounted}
use Rattle.theorems.proofs.Acts.{walk_is}
use Rattle.theorems.proofs.Own.{took, NearWalk}
use Rattle.theorems.proofs.Counting.{at_taken}
use Rattle.theorems.proofs.Isolation.{add_if, marks_at, back_seen, zero_at}
use Rattle.theorems.proofs.BatchLaws.{same_lengths}
use Rattle.theorems.proofs.SumLaws.{passed, went, counted_all, start_of}

-- ---- a line's marks at tile t: one at most

marks_free : (t : ℕ) (δ : ℤ) (xs : List Act) → Free t (Once.marks_of xs) → (w : ℤ) → marks_at t (marks_in δ xs) w ≡ w
marks_free t δ [] f w = refl
marks_free t δ (mark u ∷ xs) f w =
    ap (λ (k : ℕ). marks_at t (marks_in δ xs) (add_if k δ w)) (is_other u t f.0) ∙ marks_free t δ xs f.1 w
marks_free t δ (visit u i ∷ xs) f w = marks_free t δ xs f w
marks_free t δ (stop n ∷ xs) f w = marks_free t δ xs f w

one_mark : (t : ℕ) (δ : ℤ) (xs : List Act) → Once (Once.marks_of xs) → (w : ℤ)
    → (marks_at t (marks_in δ xs) w ≡ w) ⊎ (marks_at t (marks_in δ xs) w ≡ w +ℤ δ)
one_mark t δ [] o w = inl refl
one_mark t δ (mark u ∷ xs) o w = go (native.Mathlib.Decide.ℕ_discrete u t) (one_mark t δ xs o.1 w)
  where
    go : Dec (u ≡ t) → (marks_at t (marks_in δ xs) w ≡ w) ⊎ (marks_at t (marks_in δ xs) w ≡ w +ℤ δ)
        → (marks_at t (marks_in δ xs) (add_if (is u t) δ w) ≡ w) ⊎ (marks_at t (marks_in δ xs) (add_if (is u t) δ w) ≡ w +ℤ δ)
    go (yes e) ih = inr (rw (is_same u t e) (marks_free t δ xs (rw e at o.0) (w +ℤ δ)))
    go (no e) ih = rw (is_other u t e) ih
one_mark t δ (visit u i ∷ xs) o w = one_mark t δ xs o w
one_mark t δ (stop n ∷ xs) o w = one_mark t δ xs o w

pub delta_one : (b : Bool) → mag (delta_of b) ≤ 1
delta_one true = omega arith
delta_one false = omega arith

mag_of : (t : ℕ) (b : Bool) (xs : List Act) → Once (Once.marks_of xs) → (w : ℤ) → mag (marks_at t (marks_in (delta_of b) xs) w) ≤ mag w + 2
mag_of t b xs o w = go (one_mark t (delta_of b) xs o w)
  where
    go : (marks_at t (marks_in (delta_of b) xs) w ≡ w) ⊎ (marks_at t (marks_in (delta_of b) xs) w ≡ w +ℤ delta_of b) → mag (marks_at t (marks_in (delta_of b) xs) w) ≤ mag w + 2
    go (inl e) = rw e (omega arith)
    go (inr e) = rw e (omega (arith, sum_mag w (delta_of b), delta_one b))

-- ---- lines that are taken

module _ (nos : List ℕ) (coords : List Float) (paths : List ℕ) (n : ℕ) (ok : paths_answer paths n ≡ Done) where
  -- a line whose step numbers are within the limit marks no tile twice, and visits none twice
  pub plan_once : (l : ℕ) (w : Walk) (b : Path) → walk_at nos coords paths l ≡ Line w b → ((plan_of w b).imin < (plan_of w b).imax → (plan_of w b).imax ≤ most_steps)
      → Once (Once.marks_of (plan_acts (plan_of w b))) × Once (Once.visits_of (plan_acts (plan_of w b)))
  unfolding plan_of
  plan_once l w b e f =
      let lent : Lent paths n n = record { paired = refl; passed = ok } in
      let g = walkable nos coords paths l w b e n n lent in
      let o = on_tiles nos coords paths l w b e n n lent in
      let p = plan_by (not w.e.is_down) w.pace b (clipped_of w b) in
      let a = apart w.pace b (starts w b g) o.boxed in
      let few : (clipped_of w b).imin < (clipped_of w b).imax → (clipped_of w b).imax ≤ step_range = λ q. le_trans (f q) packs.steps in
      let wide : 0 < width_of b = omega (arith, g.wide) in
      (plan_marks p step_range a few wide (left w b (clipped_of w b) refl).top, plan_visits p step_range a few wide)

  line_mag : (room l t : ℕ) (s u : St) → line_step nos coords paths room l l s ≡ taken u → (w : ℤ) → mag (marks_at t (marks_of paths (drawn_at nos coords l)) w) ≤ mag w + 2
  line_mag room l t s u e w =
      let k = took nos coords paths n ok room l s u e in
      rw (← walk_is nos coords paths l) (go (walk_at nos coords paths l) refl k.near)
    where
      go : (x : Walked) → walk_at nos coords paths l ≡ x → NearWalk x → mag (marks_at t (marks_in (delta_by x) (acts_by x)) w) ≤ mag w + 2
      go (Refused m) q f = omega arith
      go Skipped q f = omega arith
      go (Line v b) q f = mag_of t (plan_of v b).up (plan_acts (plan_of v b)) (plan_once l v b q (not_far (plan_of v b).imin (plan_of v b).imax f)).0 w

  lines_mag : (room t : ℕ) (ls : List ℕ) (s u : St) → run (λ l v. at_line l (line_step nos coords paths room l l v)) ls s ≡ done u → (w : ℤ)
      → mag (act_all (λ d. marks_at t (marks_of paths d)) (map (drawn_at nos coords) ls) w) ≤ mag w + 2 * length ls
  lines_mag room t [] s u e w = omega arith
  lines_mag room t (l ∷ ls) s u e w =
      let r = run_cons_done (λ l v. at_line l (line_step nos coords paths room l l v)) l ls s u e in
      let one = line_mag room l t s r.0 (at_taken l (line_step nos coords paths room l l s) r.0 r.1) w in
      let rest = lines_mag room t ls r.0 u r.2 (marks_at t (marks_of paths (drawn_at nos coords l)) w) in
      omega arith

  -- the last line's number is below the limit, so they are few
  lines_few : (room k a : ℕ) (s u : St) → run (λ l v. at_line l (line_step nos coords paths room l l v)) (from a k) s ≡ done u → 0 < k → a + k ≤ most_lines
  lines_few room zero a s u e h = absurd (omega arith)
  lines_few room (suc zero) a s u e h =
      let r = run_cons_done (λ l v. at_line l (line_step nos coords paths room l l v)) a [] s u e in
      let k = took nos coords paths n ok room a s r.0 (at_taken a (line_step nos coords paths room a a s) r.0 r.1) in
      omega (arith, k.below)
  lines_few room (suc (suc k)) a s u e h =
      let r = run_cons_done (λ l v. at_line l (line_step nos coords paths room l l v)) a (from (suc a) (suc k)) s u e in
      omega (arith, lines_few room (suc k) (suc a) r.0 u r.2 (omega arith))

  batch_mag : (room b t : ℕ) (s u : St) → batch nos coords paths room 0 b s ≡ done u → mag (act_all (λ d. marks_at t (marks_of paths d)) (drawn nos coords b) (pos 0)) ≤ 2 * most_lines
  unfolding batch_of
  batch_mag room b t s u e =
      let z : b - 0 ≡ b = omega arith in
      let f = rw z at e in
      let m = lines_mag room t (from 0 b) s u f (pos 0) in
      few b f (omega (arith, m, Rattle.lists.specs.Sums.length_from 0 b))
    where
      few : (k : ℕ) → run (λ l v. at_line l (line_step nos coords paths room l l v)) (from 0 k) s ≡ done u
          → mag (act_all (λ d. marks_at t (marks_of paths d)) (drawn nos coords b) (pos 0)) ≤ 2 * k → mag (act_all (λ d. marks_at t (marks_of paths d)) (drawn nos coords b) (pos 0)) ≤ 2 * most_lines
      few zero g h = omega arith
      few (suc k) g h = omega (arith, lines_few room (suc k) 0 s u g (omega arith))

-- ---- calm backdrops keep their sums

calm_one_lem : (b : ℤ) → mag b ≤ 2 ^ 17 → calm_one b ≡ true
calm_one_lem (pos k) h = rw (le-leb k 262144 (omega arith))
calm_one_lem (negsuc k) h = rw (le-leb k 262143 (omega arith))

calm_from_lem : (m at : ℕ) (bs : List ℤ) → ((t : ℕ) → at ≤ t → t < at + m → mag (backdrop_at bs t) ≤ 2 ^ 17) → calm_from m at bs ≡ true
unfolding calm_from
calm_from_lem zero at bs h = refl
calm_from_lem (suc m) at bs h =
    rw (calm_one_lem (backdrop_at bs at) (h at (omega arith) (omega arith)), calm_from_lem m (suc at) bs (λ t p q. h t (omega arith) (omega arith)))

module _ (ws : List ℕ) (n : ℕ) (c : Checked ws n) where
  sums_go : (m k : ℕ) (bs : List ℤ) → k + m ≤ path_count ws
      → ((j t : ℕ) → k ≤ j → j < k + m → Holds (path_at ws j) t → mag (backdrop_at bs t) ≤ 2 ^ 17) → (ds : List ℤ) × (sum_paths ws m k bs ≡ out_of Done ds)
  unfolding sum_paths
  sums_go zero k bs h f = (bs, refl)
  sums_go (suc m) k bs h f =
      let p = path_at ws k in
      let fit = c.fits k (omega arith) in
      let wide : width_of p ≤ edge_most = omega (arith, fit.right) in
      let calm : calm_from (width_of p * height_of p) p.first bs ≡ true = calm_from_lem (width_of p * height_of p) p.first bs (λ t q r. f k t (omega arith) (omega arith) (q, r)) in
      let ok : path_fits p bs ≡ true = calm_path p bs wide calm in
      let rest =
      sums_go m (suc k) (path_sums p bs) (omega arith)
      (λ j t q r held.
      let same : backdrop_at (path_sums p bs) t ≡ backdrop_at bs t = path_elsewhere p bs t (λ own. omega (arith, c.apart k j (omega arith) (omega arith), own.1, held.0)) in
      rw same (f j t (omega arith) (omega arith) held)) in
      (rest.0, rw ok rest.1)

-- after counting from zeroed tiles, no backdrop is far from 0
module _ (b : ℕ) (nos : List ℕ) (coords : List Float) (paths : List ℕ) (n : ℕ) (refs : List ℕ) (bs : List ℤ) (cs rs : List ℕ) (m : ℕ)
    (all : AllCounted b nos coords paths n refs bs cs rs m) where
  pub back_mag : (t : ℕ) → t < n → mag (backdrop_at bs t) ≤ 2 ^ 17
  back_mag t h =
      let ok = passed b nos coords paths n refs bs cs rs m all in
      let r = counted_all b nos coords paths n refs bs cs rs m all in
      let k : length (replicate n (pos 0)) ≡ n = length-replicate n (pos 0) in
      let e : backdrop_at bs t ≡ act_all (λ d. marks_at t (marks_of paths d)) (drawn nos coords b) (pos 0) =
      ap (λ (l : List ℤ). get_or l t (pos 0)) r.backs ∙ back_seen paths t (drawn nos coords b) (replicate n (pos 0)) (omega arith)
      ∙ ap (act_all (λ d. marks_at t (marks_of paths d)) (drawn nos coords b)) (zero_at n t) in
      let q = batch_mag nos coords paths n ok (length refs / ref_words) b t (start_of n refs) (st_of bs cs rs m) (went b nos coords paths n refs bs cs rs m all).ran in
      rw e (omega (arith, q, small.lines))

  pub backs_long : length bs ≡ n
  backs_long =
      (same_lengths nos coords paths n (passed b nos coords paths n refs bs cs rs m all) (length refs / ref_words) 0 b (start_of n refs) (st_of bs cs rs m)
      (went b nos coords paths n refs bs cs rs m all).ran).backs
      ∙ length-replicate n (pos 0)

  -- The sums after such a count are never refused
  pub sums_done : (ds : List ℤ) × (backdrop_of paths bs ≡ out_of Done ds)
  sums_done =
      let ok = passed b nos coords paths n refs bs cs rs m all in
      let c = checked paths n ok in
      let g =
      sums_go paths n c (path_count paths) 0 bs (omega arith)
      (λ j t p q held. back_mag t (omega (arith, held.1, (c.fits j (omega arith)).within))) in
      (g.0, call_done paths bs (rw backs_long ok) ∙ g.1)
