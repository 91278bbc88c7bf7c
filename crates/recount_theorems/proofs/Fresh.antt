-- A recount that is done leaves the tiles of a fresh count of the list with that path's lines replaced, where the tiles were as an unrefused count of
-- the old list leaves them and the fresh count refuses none. Isolation is its ground. Assumes nothing.
use mathlib.Core.Path.{◌≡◌, refl, sym, ap, ◌∙◌}
use mathlib.Core.Logic.{⊎_elim}
use mathlib.Core.Bool.{Bool, true, false, not, false≢true}
use mathlib.Core.List.{List, [], ◌∷◌}
use Prim.Native.Nat.{ℕ, ◌+◌, ◌<◌}
use native.Mathlib.Omega.{arith}
use lib.ListN.{length, get_or, replicate, length-replicate}
use lib.Seq.{ext_get_or}
use lib.IntN.{ℤ, pos}
use lib.Ieee.{Float}
use borrow.Author.Tests.{eqb-true}
use Rattle.lists.specs.Run.{Ran, done, refused, All, act_all}
use Rattle.lists.specs.Sums.{from}
use Rattle.lists.specs.Occ.{occ}
use Rattle.lists.specs.Tally.{zeros, zeros_at, length_tally}
use Rattle.ranges.specs.Ranges.{cleared_of}
use Rattle.ranges.proofs.RangeLaws.{length_cleared, cleared_in}
use Rattle.panel.specs.Refusals.{done_no}
use Rattle.panel.specs.Paths.{path_at, path_count, paths_answer}
use Rattle.panel.specs.Answer.{Answer}
use Rattle.acts.specs.Acts.{St}
use Rattle.acts.specs.Line.{Refusal}
use Rattle.kept_range.specs.Kept.{tiles_in}
use Rattle.recount.specs.Recount.{recounted_of}
use Rattle.recount.proofs.CallLaws.{asked_done}
use Rattle.theorems.specs.Drawn.{Drawn, drawn, tiles_of, marks_of, is_of, InPath, OwnLine}
use Rattle.theorems.specs.Events.{events_of, tiles_ev}
use Rattle.theorems.specs.Refs.{AllCounted}
use Rattle.theorems.proofs.SumLaws.{counted_all}
use Rattle.theorems.proofs.BatchLaws.{length_all}
use Rattle.theorems.proofs.Isolation.{marks_at, count_seen, back_seen, only, zero_at, seen_count, seen_back}
use Rattle.recount_theorems.specs.Lines.{of_others, Replaced}
use Rattle.recount_theorems.proofs.Elsewhere.{no_visit, no_mark, Went, went, missed, long_counts, long_backs, either, asked_here, AskedHere, ran, out_by, out_is, out_no}

-- ---- what a count leaves outside path p's range hangs on the lines of other paths alone

others : (b : Bool) → not b ≡ false → b ≡ true
others true e = refl
others false e = absurd (false≢true (sym e))

module _ (b : ℕ) (nos : List ℕ) (coords : List Float) (paths : List ℕ) (n : ℕ) (refs : List ℕ) (bs : List ℤ) (cs rs : List ℕ) (m : ℕ)
    (all : AllCounted b nos coords paths n refs bs cs rs m) where
  pub many_counts : length cs ≡ n
  many_counts =
      let r = counted_all b nos coords paths n refs bs cs rs m all in
      ap length r.moved.counts ∙ length_tally (zeros n) (tiles_ev (events_of nos coords paths (from 0 b))) ∙ length-replicate n 0

  pub many_backs : length bs ≡ n
  many_backs =
      let r = counted_all b nos coords paths n refs bs cs rs m all in
      ap length r.backs ∙ length_all paths (drawn nos coords b) (replicate n (pos 0)) ∙ length-replicate n (pos 0)

  module _ (p t : ℕ) (o : InPath paths p t → ⊥) (h : t < n) where
    own_idle : (ds : List Drawn) → All (OwnLine paths) ds → All (λ d. not (is_of p d) ≡ false → (w : ℕ) → w + occ t (tiles_of paths d) ≡ w) ds
    own_idle [] a = tt
    own_idle (d ∷ ds) a = ((λ e w. no_visit paths p t o d a.0 (eqb-true d.path p (others (is_of p d) e)) w), own_idle ds a.1)

    own_still : (ds : List Drawn) → All (OwnLine paths) ds → All (λ d. not (is_of p d) ≡ false → (w : ℤ) → marks_at t (marks_of paths d) w ≡ w) ds
    own_still [] a = tt
    own_still (d ∷ ds) a = ((λ e w. no_mark paths p t o d a.0 (eqb-true d.path p (others (is_of p d) e)) w), own_still ds a.1)

    pub others_count : get_or cs t 0 ≡ act_all (λ d w. w + occ t (tiles_of paths d)) (of_others p (drawn nos coords b)) 0
    others_count =
        let r = counted_all b nos coords paths n refs bs cs rs m all in
        let k : length (zeros n) ≡ n = length-replicate n 0 in
        ap (λ (l : List ℕ). get_or l t 0) r.counts ∙ count_seen paths t (drawn nos coords b) (zeros n) (omega arith)
        ∙ ap (act_all (λ d w. w + occ t (tiles_of paths d)) (drawn nos coords b)) (zeros_at n t)
        ∙ only (λ d w. w + occ t (tiles_of paths d)) (λ d. not (is_of p d)) (drawn nos coords b) (own_idle (drawn nos coords b) r.lines) 0

    pub others_back : get_or bs t (pos 0) ≡ act_all (λ d. marks_at t (marks_of paths d)) (of_others p (drawn nos coords b)) (pos 0)
    others_back =
        let r = counted_all b nos coords paths n refs bs cs rs m all in
        let k : length (replicate n (pos 0)) ≡ n = length-replicate n (pos 0) in
        ap (λ (l : List ℤ). get_or l t (pos 0)) r.backs ∙ back_seen paths t (drawn nos coords b) (replicate n (pos 0)) (omega arith)
        ∙ ap (act_all (λ d. marks_at t (marks_of paths d)) (drawn nos coords b)) (zero_at n t)
        ∙ only (λ d. marks_at t (marks_of paths d)) (λ d. not (is_of p d)) (drawn nos coords b) (own_still (drawn nos coords b) r.lines) (pos 0)

-- ---- the theorem

module _
    (paths : List ℕ) (n : ℕ)
    (a : ℕ) (nos_o : List ℕ) (coords_o : List Float) (refs_o : List ℕ) (bs : List ℤ) (cs rs_o : List ℕ) (m_o : ℕ)
    (old : AllCounted a nos_o coords_o paths n refs_o bs cs rs_o m_o)
    (b : ℕ) (nos_f : List ℕ) (coords_f : List Float) (refs_f : List ℕ) (bs_f : List ℤ) (cs_f rs_f : List ℕ) (m_f : ℕ)
    (fresh : AllCounted b nos_f coords_f paths n refs_f bs_f cs_f rs_f m_f)
    (p : ℕ) (line_nos nos_n : List ℕ) (coords_n : List Float) (rs : List ℕ) (kb : List ℤ) (kc : List ℕ)
    (list : Replaced p nos_o coords_o a nos_n coords_n nos_f coords_f b)
  where
    -- in path p's range, after the new lines: those alone
    module _ (passed : paths_answer paths (length cs) ≡ Answer.Done) (h : p < path_count paths) (paired : length bs ≡ length cs) (u : St)
        (w : Went p line_nos nos_n coords_n paths bs cs rs passed h paired (from 0 (length nos_n)) u) where
      few : length cs ≡ n
      few = many_counts a nos_o coords_o paths n refs_o bs cs rs_o m_o old

      counts_in : (t : ℕ) → t < n → InPath paths p t → get_or u.counts t 0 ≡ get_or cs_f t 0
      counts_in t k i =
          ap (λ (l : List ℕ). get_or l t 0) w.counts
          ∙ count_seen paths t (drawn nos_n coords_n (length nos_n)) (cleared_of 0 (path_at paths p).first (tiles_in (path_at paths p)) cs)
          (omega (arith, k, few, length_cleared 0 (path_at paths p).first (tiles_in (path_at paths p)) cs))
          ∙ ap (act_all (λ d w. w + occ t (tiles_of paths d)) (drawn nos_n coords_n (length nos_n)))
          (cleared_in 0 (path_at paths p).first (tiles_in (path_at paths p)) cs t i.1 i.2 (omega (arith, k, few)))
          ∙ ap (λ (ds : List Drawn). act_all (λ d w. w + occ t (tiles_of paths d)) ds 0) (sym list.own)
          ∙ sym (seen_count b nos_f coords_f paths n refs_f bs_f cs_f rs_f m_f fresh p t i k)

      backs_in : (t : ℕ) → t < n → InPath paths p t → get_or u.backs t (pos 0) ≡ get_or bs_f t (pos 0)
      backs_in t k i =
          ap (λ (l : List ℤ). get_or l t (pos 0)) w.backs
          ∙ back_seen paths t (drawn nos_n coords_n (length nos_n)) (cleared_of (pos 0) (path_at paths p).first (tiles_in (path_at paths p)) bs)
          (omega (arith, k, few, paired, length_cleared (pos 0) (path_at paths p).first (tiles_in (path_at paths p)) bs))
          ∙ ap (act_all (λ d. marks_at t (marks_of paths d)) (drawn nos_n coords_n (length nos_n)))
          (cleared_in (pos 0) (path_at paths p).first (tiles_in (path_at paths p)) bs t i.1 i.2 (omega (arith, k, few, paired)))
          ∙ ap (λ (ds : List Drawn). act_all (λ d. marks_at t (marks_of paths d)) ds (pos 0)) (sym list.own)
          ∙ sym (seen_back b nos_f coords_f paths n refs_f bs_f cs_f rs_f m_f fresh p t i k)

      -- elsewhere: the old list's others, which are the new list's
      out_there : (t : ℕ) → t < n → (InPath paths p t → ⊥) → (get_or u.counts t 0 ≡ get_or cs_f t 0) × (get_or u.backs t (pos 0) ≡ get_or bs_f t (pos 0))
      out_there t k o =
          let e = missed p line_nos nos_n coords_n paths bs cs rs passed h paired t (omega (arith, k, few)) o (from 0 (length nos_n)) u w in (
            e.0 ∙ others_count a nos_o coords_o paths n refs_o bs cs rs_o m_o old p t o k
                ∙ ap (λ (ds : List Drawn). act_all (λ d w. w + occ t (tiles_of paths d)) ds 0) (sym list.others)
                ∙ sym (others_count b nos_f coords_f paths n refs_f bs_f cs_f rs_f m_f fresh p t o k),
            e.1 ∙ others_back a nos_o coords_o paths n refs_o bs cs rs_o m_o old p t o k
                ∙ ap (λ (ds : List Drawn). act_all (λ d. marks_at t (marks_of paths d)) ds (pos 0)) (sym list.others)
                ∙ sym (others_back b nos_f coords_f paths n refs_f bs_f cs_f rs_f m_f fresh p t o k),
          )

      same_tiles : (u.backs ≡ bs_f) × (u.counts ≡ cs_f)
      same_tiles =
          let lb = long_backs p line_nos nos_n coords_n paths bs cs rs passed h paired (from 0 (length nos_n)) u w in
          let lc = long_counts p line_nos nos_n coords_n paths bs cs rs passed h paired (from 0 (length nos_n)) u w in
          let fb = many_backs b nos_f coords_f paths n refs_f bs_f cs_f rs_f m_f fresh in
          let fc = many_counts b nos_f coords_f paths n refs_f bs_f cs_f rs_f m_f fresh in (
            ext_get_or (pos 0) u.backs bs_f (omega (arith, lb, fb, few, paired))
                (λ t q. ⊎_elim (λ (i : InPath paths p t). backs_in t (omega (arith, q, lb, few, paired)) i) (λ (o : InPath paths p t → ⊥). (out_there t (omega (arith, q, lb, few, paired)) o).1)
                (either p line_nos nos_n coords_n paths bs cs rs passed h paired t)),
            ext_get_or 0 u.counts cs_f (omega (arith, lc, fc, few))
                (λ t q. ⊎_elim (λ (i : InPath paths p t). counts_in t (omega (arith, q, lc, few)) i) (λ (o : InPath paths p t → ⊥). (out_there t (omega (arith, q, lc, few)) o).0)
                (either p line_nos nos_n coords_n paths bs cs rs passed h paired t)),
          )

    -- As a fresh count: backdrops and counts, all of them
    pub as_fresh : (m : ℕ) → (recounted_of p line_nos nos_n coords_n paths bs cs rs kb kc).paper ≡ done_no ∷ m ∷ []
        → ((recounted_of p line_nos nos_n coords_n paths bs cs rs kb kc).backs ≡ bs_f) × ((recounted_of p line_nos nos_n coords_n paths bs cs rs kb kc).counts ≡ cs_f)
    as_fresh m e = go (asked_here p line_nos nos_n coords_n paths bs cs rs kb kc) refl
      where
        by_ran : (k : AskedHere p line_nos nos_n coords_n paths bs cs rs kb kc) (r : Ran St Refusal) → ran p line_nos nos_n coords_n paths bs cs rs kb kc ≡ r
            → (out_by p line_nos nos_n coords_n paths bs cs rs kb kc r).paper ≡ done_no ∷ m ∷ []
            → ((out_by p line_nos nos_n coords_n paths bs cs rs kb kc r).backs ≡ bs_f) × ((out_by p line_nos nos_n coords_n paths bs cs rs kb kc r).counts ≡ cs_f)
        by_ran k (done u) f g = same_tiles k.passed k.there k.paired u (went p line_nos nos_n coords_n paths bs cs rs k.passed k.there k.paired u f)
        by_ran k (refused u why) f g = let z : ◌≡◌ {A = ℕ} 0 1 = cc in absurd (omega arith)

        go : (v : Answer) → asked_here p line_nos nos_n coords_n paths bs cs rs kb kc ≡ v
            → ((recounted_of p line_nos nos_n coords_n paths bs cs rs kb kc).backs ≡ bs_f) × ((recounted_of p line_nos nos_n coords_n paths bs cs rs kb kc).counts ≡ cs_f)
        go Answer.Done f =
            let k = asked_done p paths (length line_nos) (length nos_n) (length coords_n) (length bs) (length cs) (length rs) (length kb) (length kc) f in
            rw (out_is p line_nos nos_n coords_n paths bs cs rs kb kc f)
            (by_ran k (ran p line_nos nos_n coords_n paths bs cs rs kb kc) refl (rw (out_is p line_nos nos_n coords_n paths bs cs rs kb kc f) at e))
        go (Answer.Refused q item) f =
            let g : q ∷ item ∷ 0 ∷ [] ≡ done_no ∷ m ∷ [] = sym (out_no p line_nos nos_n coords_n paths bs cs rs kb kc q item f).2 ∙ e in
            let z : ◌≡◌ {A = ℕ} 0 1 = cc in absurd (omega arith)
