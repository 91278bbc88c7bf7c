-- No tile of another path changes, whatever is lent; and a recount that is refused changes no tile at all. Assumes nothing.
use mathlib.Core.Path.{◌≡◌, refl, ap, subst, ◌∙◌}
use mathlib.Core.Logic.{◌≢◌, ◌⊎◌, inl, inr, ⊎_elim}
use mathlib.Core.List.{List, [], ◌∷◌, map}
use Prim.Native.Nat.{ℕ, ◌+◌, ◌-◌, ◌/◌, ◌<◌, ◌≤◌}
use native.Mathlib.Decide.{dec_lt}
use native.Mathlib.Omega.{arith}
use lib.ListN.{length, get_or}
use lib.Seq.{ext_get_or}
use lib.IntN.{ℤ, pos}
use lib.Ieee.{Float}
use Rattle.lists.specs.Run.{Ran, done, refused, run_refused, All, act_all}
use Rattle.lists.specs.Sums.{from}
use Rattle.lists.specs.Occ.{occ, occ_none}
use Rattle.lists.specs.Tally.{length_tally}
use Rattle.ranges.proofs.RangeLaws.{length_cleared, cleared_out, length_copied, copied_in, copied_out}
use Rattle.panel.specs.Widths.{ref_words}
use Rattle.panel.specs.Paths.{path_at, path_count, paths_answer}
use Rattle.panel.specs.declared.kinds.Path.{Path}
use Rattle.panel.specs.Answer.{Answer}
use Rattle.panel.proofs.PathLaws.{checked}
use Rattle.acts.specs.Acts.{St}
use Rattle.acts.specs.Line.{Refusal, at_line, batch_of}
use Rattle.new_lines.specs.Own.{own_step, lines_ran}
use Rattle.kept_range.specs.Kept.{Out, tiles_in, cleared_for, kept_from, given_back, ran_out, redrawn_of}
use Rattle.recount.specs.Recount.{asked_of, recounted_of}
use Rattle.recount.proofs.CallLaws.{Asked, asked_done}
use Rattle.theorems.specs.Drawn.{Drawn, drawn_at, tiles_of, marks_of, InPath, OwnLine}
use Rattle.theorems.specs.Events.{tiles_ev}
use Rattle.theorems.proofs.Isolation.{marks_at, count_seen, back_seen, marks_none}
use Rattle.theorems.proofs.BatchLaws.{length_all}
use Rattle.recount_theorems.specs.Lines.{own_events}
use Rattle.recount_theorems.proofs.OwnLines.{AllOwned, all_owned}

-- ---- lines of path p leave a tile outside its range alone

idle : {A W : Type 0} (act : A → W → W) (xs : List A) → All (λ x. (w : W) → act x w ≡ w) xs → (w : W) → act_all act xs w ≡ w
idle act [] h w = refl
idle act (x ∷ xs) h w = ap (act_all act xs) (h.0 w) ∙ idle act xs h.1 w

module _ (paths : List ℕ) (p t : ℕ) (out : InPath paths p t → ⊥) where
  visits_miss : (ts : List ℕ) → All (InPath paths p) ts → All (λ v. v ≢ t) ts
  visits_miss [] o = tt
  visits_miss (v ∷ ts) o = ((λ q. out (rw q at o.0)), visits_miss ts o.1)

  marks_miss : (ms : List (ℕ × ℤ)) → All (λ m. InPath paths p m.0) ms → All (λ m. m.0 ≢ t) ms
  marks_miss [] o = tt
  marks_miss (m ∷ ms) o = ((λ q. out (rw q at o.0)), marks_miss ms o.1)

  pub no_visit : (d : Drawn) → OwnLine paths d → d.path ≡ p → (w : ℕ) → w + occ t (tiles_of paths d) ≡ w
  no_visit d o e w = omega (arith, occ_none t (tiles_of paths d) (visits_miss (tiles_of paths d) (subst (λ (q : ℕ). All (InPath paths q) (tiles_of paths d)) e o.visits)))

  pub no_mark : (d : Drawn) → OwnLine paths d → d.path ≡ p → (w : ℤ) → marks_at t (marks_of paths d) w ≡ w
  no_mark d o e w = marks_none t (marks_of paths d) (marks_miss (marks_of paths d) (subst (λ (q : ℕ). All (λ m. InPath paths q m.0) (marks_of paths d)) e o.marks)) w

  no_visits : (ds : List Drawn) → All (OwnLine paths) ds → All (λ d. d.path ≡ p) ds → All (λ d. (w : ℕ) → w + occ t (tiles_of paths d) ≡ w) ds
  no_visits [] o e = tt
  no_visits (d ∷ ds) o e = (no_visit d o.0 e.0, no_visits ds o.1 e.1)

  no_marks : (ds : List Drawn) → All (OwnLine paths) ds → All (λ d. d.path ≡ p) ds → All (λ d. (w : ℤ) → marks_at t (marks_of paths d) w ≡ w) ds
  no_marks [] o e = tt
  no_marks (d ∷ ds) o e = (no_mark d o.0 e.0, no_marks ds o.1 e.1)

  pub lines_miss : (line_nos nos : List ℕ) (coords : List Float) (n : ℕ) (passed : paths_answer paths n ≡ Answer.Done) (h : p < path_count paths) (ks : List ℕ) (s u : St)
      → AllOwned p line_nos nos coords paths n passed h ks s u → t < length s.counts → t < length s.backs
      → (get_or u.counts t 0 ≡ get_or s.counts t 0) × (get_or u.backs t (pos 0) ≡ get_or s.backs t (pos 0))
  lines_miss line_nos nos coords n passed h ks s u a x y =
      let ds = map (drawn_at nos coords) ks in (
        ap (λ (l : List ℕ). get_or l t 0) a.counts ∙ count_seen paths t ds s.counts x
            ∙ idle (λ d w. w + occ t (tiles_of paths d)) ds (no_visits ds a.lines a.named) (get_or s.counts t 0),
        ap (λ (l : List ℤ). get_or l t (pos 0)) a.backs ∙ back_seen paths t ds s.backs y
            ∙ idle (λ d. marks_at t (marks_of paths d)) ds (no_marks ds a.lines a.named) (get_or s.backs t (pos 0)),
      )

-- ---- the lines of a recount, whose checks have passed

module _ (p : ℕ) (line_nos nos : List ℕ) (coords : List Float) (paths : List ℕ) (bs : List ℤ) (cs rs : List ℕ)
    (passed : paths_answer paths (length cs) ≡ Answer.Done) (h : p < path_count paths) (paired : length bs ≡ length cs) where
  abbrev pub box : Path
  box = path_at paths p

  abbrev pub room : ℕ
  room = length rs / ref_words

  abbrev pub cleared : St
  cleared = cleared_for box bs cs rs

  abbrev pub Went : List ℕ → St → Type 0
  Went ks u = AllOwned p line_nos nos coords paths (length cs) passed h ks cleared u

  -- what the lines leave, all of them or those before the one refused
  pub went : (u : St) → lines_ran p line_nos nos coords paths room cleared ≡ done u → Went (from 0 (length nos)) u
  unfolding batch_of
  went u e = all_owned p line_nos nos coords paths (length cs) passed h room (from 0 (length nos)) cleared u e

  pub went_before : (u : St) (why : Refusal) → lines_ran p line_nos nos coords paths room cleared ≡ refused u why → (ks : List ℕ) × Went ks u
  unfolding batch_of
  went_before u why e =
      let w = run_refused (λ k t. at_line k (own_step p nos coords paths room (get_or line_nos k 0) k t)) (from 0 (length nos)) cleared u why e in
      (w.before, all_owned p line_nos nos coords paths (length cs) passed h room w.before cleared u w.ran)

  pub long_counts : (ks : List ℕ) (u : St) → Went ks u → length u.counts ≡ length cs
  long_counts ks u a =
      ap length a.moved.counts ∙ length_tally cleared.counts (tiles_ev (own_events line_nos nos coords paths ks)) ∙ length_cleared 0 box.first (tiles_in box) cs

  pub long_backs : (ks : List ℕ) (u : St) → Went ks u → length u.backs ≡ length bs
  long_backs ks u a =
      ap length a.backs ∙ length_all paths (map (drawn_at nos coords) ks) cleared.backs ∙ length_cleared (pos 0) box.first (tiles_in box) bs

  -- ---- a tile is in the path's range, or it isn't

  pub within : box.first + tiles_in box ≤ length cs
  within = ((checked paths (length cs) passed).fits p h).within

  outside : (t : ℕ) → (InPath paths p t → ⊥) → (t < box.first) ⊎ (box.first + tiles_in box ≤ t)
  outside t o = go (dec_lt t box.first) (dec_lt t (box.first + tiles_in box))
    where
      go : Dec (t < box.first) → Dec (t < box.first + tiles_in box) → (t < box.first) ⊎ (box.first + tiles_in box ≤ t)
      go (yes a) b = inl a
      go (no a) (yes b) = absurd (o (h, omega arith, b))
      go (no a) (no b) = inr (omega arith)

  pub either : (t : ℕ) → (InPath paths p t) ⊎ (InPath paths p t → ⊥)
  either t = go (dec_lt t box.first) (dec_lt t (box.first + tiles_in box))
    where
      go : Dec (t < box.first) → Dec (t < box.first + tiles_in box) → (InPath paths p t) ⊎ (InPath paths p t → ⊥)
      go (yes a) b = inr (λ i. omega (arith, i.1))
      go (no a) (yes b) = inl (h, omega arith, b)
      go (no a) (no b) = inr (λ i. b i.2)

  module _ (t : ℕ) (k : t < length cs) (o : InPath paths p t → ⊥) (ks : List ℕ) (u : St) (a : Went ks u) where
    k' : t < length bs
    k' = omega (arith, k, paired)

    pub missed : (get_or u.counts t 0 ≡ get_or cs t 0) × (get_or u.backs t (pos 0) ≡ get_or bs t (pos 0))
    missed =
        let m = lines_miss paths p t o line_nos nos coords (length cs) passed h ks cleared u a (omega (arith, k, length_cleared 0 box.first (tiles_in box) cs))
        (omega (arith, k', length_cleared (pos 0) box.first (tiles_in box) bs)) in
        (m.0 ∙ cleared_out 0 box.first (tiles_in box) cs t (outside t o) k, m.1 ∙ cleared_out (pos 0) box.first (tiles_in box) bs t (outside t o) k')

    -- given back, it is as it was left
    pub missed_back : (kb : List ℤ) (kc : List ℕ) → (get_or (given_back 0 box kc u.counts) t 0 ≡ get_or cs t 0) × (get_or (given_back (pos 0) box kb u.backs) t (pos 0) ≡ get_or bs t (pos 0))
    missed_back kb kc = (
      copied_out 0 kc 0 box.first (tiles_in box) u.counts t (outside t o) (omega (arith, k, long_counts ks u a)) ∙ missed.0,
      copied_out (pos 0) kb 0 box.first (tiles_in box) u.backs t (outside t o) (omega (arith, k', long_backs ks u a)) ∙ missed.1,
    )

  -- in the range: what is given back is what was kept
  module _ (t : ℕ) (i : InPath paths p t) (ks : List ℕ) (u : St) (a : Went ks u) where
    in_tiles : t < length cs
    in_tiles = omega (arith, i.2, within)

    pub back_counts : (kc : List ℕ) → length kc ≡ tiles_in box → get_or (given_back 0 box (kept_from 0 box cs kc) u.counts) t 0 ≡ get_or cs t 0
    back_counts kc e =
        let same : box.first + (0 + (t - box.first) - 0) ≡ t = omega (arith, i.1) in
        copied_in 0 (kept_from 0 box cs kc) 0 box.first (tiles_in box) u.counts t i.1 i.2 (omega (arith, in_tiles, long_counts ks u a))
        ∙ copied_in 0 cs box.first 0 (tiles_in box) kc (0 + (t - box.first)) (omega arith) (omega (arith, i.1, i.2)) (omega (arith, i.1, i.2, e))
        ∙ ap (λ (j : ℕ). get_or cs j 0) same

    pub back_backs : (kb : List ℤ) → length kb ≡ tiles_in box → get_or (given_back (pos 0) box (kept_from (pos 0) box bs kb) u.backs) t (pos 0) ≡ get_or bs t (pos 0)
    back_backs kb e =
        let same : box.first + (0 + (t - box.first) - 0) ≡ t = omega (arith, i.1) in
        copied_in (pos 0) (kept_from (pos 0) box bs kb) 0 box.first (tiles_in box) u.backs t i.1 i.2 (omega (arith, in_tiles, paired, long_backs ks u a))
        ∙ copied_in (pos 0) bs box.first 0 (tiles_in box) kb (0 + (t - box.first)) (omega arith) (omega (arith, i.1, i.2)) (omega (arith, i.1, i.2, e))
        ∙ ap (λ (j : ℕ). get_or bs j (pos 0)) same

-- ---- the theorems

module _ (p : ℕ) (line_nos nos : List ℕ) (coords : List Float) (paths : List ℕ) (bs : List ℤ) (cs rs : List ℕ) (kb : List ℤ) (kc : List ℕ) where
  abbrev pub out : Out
  out = recounted_of p line_nos nos coords paths bs cs rs kb kc

  abbrev pub AskedHere : Type 0
  AskedHere = Asked p paths (length line_nos) (length nos) (length coords) (length bs) (length cs) (length rs) (length kb) (length kc)

  abbrev pub asked_here : Answer
  asked_here = asked_of p paths (length line_nos) (length nos) (length coords) (length bs) (length cs) (length rs) (length kb) (length kc)

  abbrev pub ran : Ran St Refusal
  ran = lines_ran p line_nos nos coords paths (length rs / ref_words) (cleared_for (path_at paths p) bs cs rs)

  abbrev pub out_by : Ran St Refusal → Out
  out_by o = ran_out line_nos (path_at paths p) (kept_from (pos 0) (path_at paths p) bs kb) (kept_from 0 (path_at paths p) cs kc) o

  -- what a recount leaves where its checks pass
  pub out_is : asked_here ≡ Answer.Done → out ≡ out_by ran
  unfolding recounted_of redrawn_of
  out_is e = rw e

  pub out_no : (n item : ℕ) → asked_here ≡ Answer.Refused n item → (out.backs ≡ bs) × (out.counts ≡ cs) × (out.paper ≡ n ∷ item ∷ 0 ∷ [])
  unfolding recounted_of
  out_no n item e = rw e (refl, refl, refl)

  abbrev pub KeptAt : ℕ → Out → Type 0
  KeptAt t o = (get_or o.counts t 0 ≡ get_or cs t 0) × (get_or o.backs t (pos 0) ≡ get_or bs t (pos 0))

  -- No tile outside the path's range changes, on every input: done, or refused by whatever
  pub elsewhere : (t : ℕ) → t < length cs → (InPath paths p t → ⊥) → KeptAt t out
  elsewhere t k o = go asked_here refl
    where
      by_ran : (a : AskedHere) (r : Ran St Refusal) → ran ≡ r → KeptAt t (out_by r)
      by_ran a (done u) e =
          missed p line_nos nos coords paths bs cs rs a.passed a.there a.paired t k o (from 0 (length nos)) u
          (went p line_nos nos coords paths bs cs rs a.passed a.there a.paired u e)
      by_ran a (refused u why) e =
          let w = went_before p line_nos nos coords paths bs cs rs a.passed a.there a.paired u why e in
          missed_back p line_nos nos coords paths bs cs rs a.passed a.there a.paired t k o w.0 u w.1 (kept_from (pos 0) (path_at paths p) bs kb) (kept_from 0 (path_at paths p) cs kc)

      go : (v : Answer) → asked_here ≡ v → KeptAt t out
      go Answer.Done e =
          let a = asked_done p paths (length line_nos) (length nos) (length coords) (length bs) (length cs) (length rs) (length kb) (length kc) e in
          rw (out_is e) (by_ran a ran refl)
      go (Answer.Refused n item) e = let q = out_no n item e in (ap (λ (l : List ℕ). get_or l t 0) q.1, ap (λ (l : List ℤ). get_or l t (pos 0)) q.0)

  -- A recount that is refused leaves backdrops and counts as before it, all of them
  pub refused_kept : (n item m : ℕ) → out.paper ≡ n ∷ item ∷ m ∷ [] → (out.backs ≡ bs) × (out.counts ≡ cs)
  refused_kept n item m e = go asked_here refl
    where
      by_ran : (a : AskedHere) (r : Ran St Refusal) → ran ≡ r → (out_by r).paper ≡ n ∷ item ∷ m ∷ [] → ((out_by r).backs ≡ bs) × ((out_by r).counts ≡ cs)
      by_ran a (done u) f g = let z : ◌≡◌ {A = ℕ} 0 1 = cc in absurd (omega arith)
      by_ran a (refused u why) f g =
          let w = went_before p line_nos nos coords paths bs cs rs a.passed a.there a.paired u why f in
          let lc = long_counts p line_nos nos coords paths bs cs rs a.passed a.there a.paired w.0 u w.1 in
          let lb = long_backs p line_nos nos coords paths bs cs rs a.passed a.there a.paired w.0 u w.1 in
          let b = path_at paths p in
          let kb' = kept_from (pos 0) b bs kb in
          let kc' = kept_from 0 b cs kc in
          let ec : length (given_back 0 b kc' u.counts) ≡ length cs = length_copied 0 kc' 0 b.first (tiles_in b) u.counts ∙ lc in
          let eb : length (given_back (pos 0) b kb' u.backs) ≡ length bs = length_copied (pos 0) kb' 0 b.first (tiles_in b) u.backs ∙ lb in (
            ext_get_or (pos 0) (given_back (pos 0) b kb' u.backs) bs eb
                (λ t q. ⊎_elim (λ (i : InPath paths p t). back_backs p line_nos nos coords paths bs cs rs a.passed a.there a.paired t i w.0 u w.1 kb a.backs)
                (λ (o : InPath paths p t → ⊥). (missed_back p line_nos nos coords paths bs cs rs a.passed a.there a.paired t (omega (arith, q, eb, a.paired)) o w.0 u w.1 kb' kc').1)
                (either p line_nos nos coords paths bs cs rs a.passed a.there a.paired t)),
            ext_get_or 0 (given_back 0 b kc' u.counts) cs ec
                (λ t q. ⊎_elim (λ (i : InPath paths p t). back_counts p line_nos nos coords paths bs cs rs a.passed a.there a.paired t i w.0 u w.1 kc a.counts)
                (λ (o : InPath paths p t → ⊥). (missed_back p line_nos nos coords paths bs cs rs a.passed a.there a.paired t (omega (arith, q, ec)) o w.0 u w.1 kb' kc').0)
                (either p line_nos nos coords paths bs cs rs a.passed a.there a.paired t)),
          )

      go : (v : Answer) → asked_here ≡ v → (out.backs ≡ bs) × (out.counts ≡ cs)
      go Answer.Done f =
          let a = asked_done p paths (length line_nos) (length nos) (length coords) (length bs) (length cs) (length rs) (length kb) (length kc) f in
          rw (out_is f) (by_ran a ran refl (rw (out_is f) at e))
      go (Answer.Refused no' item') f = let q = out_no no' item' f in (q.0, q.1)
