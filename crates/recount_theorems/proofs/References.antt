-- The references that a recount makes are those that the fresh count makes for these lines, slice and step, where the line numbers given are those of
-- that list. Assumes nothing.
use mathlib.Core.Path.{◌≡◌, refl, sym, ap, ap₂, ◌∙◌}
use mathlib.Core.Logic.{◌≢◌}
use mathlib.Core.Bool.{Bool, true, false}
use mathlib.Core.List.{List, [], ◌∷◌, ◌++◌, map}
use Prim.Native.Nat.{ℕ, suc, ◌+◌, ◌<◌}
use native.Mathlib.Omega.{arith}
use lib.Dec.{eqb}
use lib.ListN.{length, get_or, length-set, length-replicate}
use lib.Seq.{sets}
use lib.IntN.{ℤ}
use lib.Ieee.{Float}
use borrow.Author.Tests.{eqb-true, eqb-false}
use Rattle.lists.specs.Run.{Ran, done, refused, All, sift, keep_if}
use Rattle.lists.specs.Sums.{from}
use Rattle.lists.specs.Occ.{is_other}
use Rattle.lists.specs.Tally.{bump, slices, bump_at, zeros, zeros_at, length_slices}
use Rattle.ranges.proofs.RangeLaws.{length_cleared, cleared_in}
use Rattle.panel.specs.Refusals.{done_no}
use Rattle.panel.specs.Paths.{path_at, path_count, paths_answer}
use Rattle.panel.specs.Answer.{Answer}
use Rattle.panel.proofs.PathLaws.{checked, one_path}
use Rattle.acts.specs.Acts.{St}
use Rattle.acts.specs.Line.{Refusal}
use Rattle.kept_range.specs.Kept.{tiles_in, cleared_for}
use Rattle.recount.specs.Recount.{recounted_of}
use Rattle.recount.proofs.CallLaws.{asked_done}
use Rattle.theorems.specs.Drawn.{Drawn, drawn_at, drawn, walk_of, acts_by, is_of, of_path, InPath}
use Rattle.theorems.specs.Events.{Event, EventOwn, events_in, events_at, events_of, tiles_ev, words_ev}
use Rattle.theorems.specs.Refs.{AllCounted}
use Rattle.theorems.proofs.Counting.{length_tiles}
use Rattle.theorems.proofs.SumLaws.{passed, counted_all}
use Rattle.acts.specs.Acts as Acts
use Rattle.recount_theorems.specs.Lines.{own_events, numbers_of, Ref, paired, refs_from, words_of, of_lines}
use Rattle.recount_theorems.proofs.Elsewhere.{Went, went, asked_here, AskedHere, ran, out_by, out_is, out_no}

-- ---- sifting

sift_append : {A : Type 0} (keep : A → Bool) (xs ys : List A) → sift keep (xs ++ ys) ≡ sift keep xs ++ sift keep ys
sift_append keep [] ys = refl
sift_append {A} keep (x ∷ xs) ys = go (sift_append keep xs ys) (keep x)
  where
    go : sift keep (xs ++ ys) ≡ sift keep xs ++ sift keep ys → (b : Bool) → keep_if b x (sift keep (xs ++ ys)) ≡ keep_if b x (sift keep xs) ++ sift keep ys
    go ih true = ap (λ (l : List A). x ∷ l) ih
    go ih false = ih

sift_map : {A B : Type 0} (keep : B → Bool) (f : A → B) (xs : List A) → sift keep (map f xs) ≡ map f (sift (λ x. keep (f x)) xs)
sift_map keep f [] = refl
sift_map {A} {B} keep f (x ∷ xs) = go (sift_map keep f xs) (keep (f x))
  where
    go : sift keep (map f xs) ≡ map f (sift (λ x. keep (f x)) xs) → (b : Bool) → keep_if b (f x) (sift keep (map f xs)) ≡ map f (keep_if b x (sift (λ x. keep (f x)) xs))
    go ih true = ap (λ (l : List B). f x ∷ l) ih
    go ih false = ih

-- ---- references as words

words_are : (es : List Event) (ks : List ℕ) → words_ev es ks ≡ words_of (paired es ks)
words_are [] ks = refl
words_are (e ∷ es) [] = refl
words_are (e ∷ es) (k ∷ ks) = ap (λ (l : List ℕ). e.line ∷ Acts.packed k e.step ∷ l) (words_are es ks)

length_paired : (es : List Event) (ks : List ℕ) → length ks ≡ length es → length (paired es ks) ≡ length es
length_paired [] ks e = refl
length_paired (x ∷ es) [] e = absurd (omega arith)
length_paired (x ∷ es) (k ∷ ks) e = ap suc (length_paired es ks (omega arith))

length_refs : (c : List ℕ) (es : List Event) → length (refs_from c es) ≡ length es
length_refs c es = length_paired es (slices c (tiles_ev es)) (length_slices c (tiles_ev es) ∙ length_tiles es)

-- ---- the references of own events, taken out of all, are those made of the own events alone

module _ (own : Event → Bool) (In : ℕ → Type 0) (n : ℕ) (below : (t : ℕ) → In t → t < n) where
  abbrev Agree : List ℕ → List ℕ → Type 0
  Agree c d = (t : ℕ) → In t → get_or c t 0 ≡ get_or d t 0

  -- an event is on these tiles exactly where it is own
  pub record Sorted (e : Event) : Type 0 where
    pub inside : own e ≡ true → In e.tile
    pub outside : own e ≡ false → In e.tile → ⊥

  agree_both : (c d : List ℕ) (x : ℕ) → length c ≡ n → length d ≡ n → Agree c d → Agree (bump c x) (bump d x)
  agree_both c d x lc ld a t i =
      let h = below t i in
      let same = a t i in
      omega (arith, bump_at c x t (omega arith), bump_at d x t (omega arith), same)

  agree_left : (c d : List ℕ) (x : ℕ) → length c ≡ n → (In x → ⊥) → Agree c d → Agree (bump c x) d
  agree_left c d x lc o a t i =
      let h = below t i in
      let same = a t i in
      let apart : x ≢ t = λ e. o (rw (← e) at i) in
      omega (arith, bump_at c x t (omega arith), is_other x t apart, same)

  pub sifted : (es : List Event) (c d : List ℕ) → length c ≡ n → length d ≡ n → Agree c d → All Sorted es
      → sift (λ r. own r.event) (refs_from c es) ≡ refs_from d (sift own es)
  sifted [] c d lc ld a o = refl
  sifted (e ∷ es) c d lc ld a o = go (sifted es) (own e) refl
    where
      go : ((c d : List ℕ) → length c ≡ n → length d ≡ n → Agree c d → All Sorted es → sift (λ r. own r.event) (refs_from c es) ≡ refs_from d (sift own es))
          → (b : Bool) → own e ≡ b
          → keep_if b (record { event = e; slice = get_or c e.tile 0 }) (sift (λ r. own r.event) (refs_from (bump c e.tile) es)) ≡ refs_from d (keep_if b e (sift own es))
      go ih true q =
          ap₂ (λ (k : ℕ) (l : List Ref). record { event = e; slice = k } ∷ l) (a e.tile (o.0.inside q))
          (ih (bump c e.tile) (bump d e.tile) (length-set c e.tile (get_or c e.tile 0 + 1) ∙ lc) (length-set d e.tile (get_or d e.tile 0 + 1) ∙ ld)
          (agree_both c d e.tile lc ld a) o.1)
      go ih false q =
          ih (bump c e.tile) d (length-set c e.tile (get_or c e.tile 0 + 1) ∙ lc) ld (agree_left c d e.tile lc (o.0.outside q) a) o.1

-- ---- the events of a list's lines of path p

module _ (p : ℕ) (nos : List ℕ) (coords : List Float) (paths : List ℕ) where
  abbrev own_event : Event → Bool
  own_event e = eqb (get_or nos e.line 0) p

  line_own : (l : ℕ) (xs : List Acts.Act) → eqb (get_or nos l 0) p ≡ true → sift own_event (events_in l xs) ≡ events_in l xs
  line_own l [] e = refl
  line_own l (Acts.mark t ∷ xs) e = line_own l xs e
  line_own l (Acts.visit t i ∷ xs) e = rw e (ap (λ (r : List Event). record { line = l; tile = t; step = i } ∷ r) (line_own l xs e))
  line_own l (Acts.stop n ∷ xs) e = line_own l xs e

  line_none : (l : ℕ) (xs : List Acts.Act) → eqb (get_or nos l 0) p ≡ false → sift own_event (events_in l xs) ≡ []
  line_none l [] e = refl
  line_none l (Acts.mark t ∷ xs) e = line_none l xs e
  line_none l (Acts.visit t i ∷ xs) e = rw e (line_none l xs e)
  line_none l (Acts.stop n ∷ xs) e = line_none l xs e

  events_own : (ls : List ℕ) → sift own_event (events_of nos coords paths ls) ≡ events_of nos coords paths (sift (λ l. eqb (get_or nos l 0) p) ls)
  events_own [] = refl
  events_own (l ∷ ls) = sift_append own_event (events_at nos coords paths l) (events_of nos coords paths ls) ∙ go (events_own ls) (eqb (get_or nos l 0) p) refl
    where
      go : sift own_event (events_of nos coords paths ls) ≡ events_of nos coords paths (sift (λ l. eqb (get_or nos l 0) p) ls) → (b : Bool) → eqb (get_or nos l 0) p ≡ b
          → sift own_event (events_at nos coords paths l) ++ sift own_event (events_of nos coords paths ls) ≡ events_of nos coords paths (keep_if b l (sift (λ l. eqb (get_or nos l 0) p) ls))
      go ih true e = ap₂ (λ (x y : List Event). x ++ y) (line_own l (acts_by (walk_of paths (drawn_at nos coords l))) e) ih
      go ih false e = ap₂ (λ (x y : List Event). x ++ y) (line_none l (acts_by (walk_of paths (drawn_at nos coords l))) e) ih

-- the same lines under the same numbers have the same events
abbrev first_drawn : Drawn → List Drawn → Drawn
first_drawn d [] = d
first_drawn d (x ∷ xs) = x

abbrev rest_drawn : List Drawn → List Drawn
rest_drawn [] = []
rest_drawn (x ∷ xs) = xs

module _ (paths line_nos nos_n : List ℕ) (coords_n : List Float) (nos_f : List ℕ) (coords_f : List Float) where
  same_events : (ks : List ℕ) → map (drawn_at nos_f coords_f) (map (λ k. get_or line_nos k 0) ks) ≡ map (drawn_at nos_n coords_n) ks
      → events_of nos_f coords_f paths (map (λ k. get_or line_nos k 0) ks) ≡ own_events line_nos nos_n coords_n paths ks
  same_events [] e = refl
  same_events (k ∷ ks) e =
      let d : drawn_at nos_f coords_f (get_or line_nos k 0) ≡ drawn_at nos_n coords_n k = ap (first_drawn (drawn_at nos_n coords_n k)) e in
      ap₂ (λ (x y : List Event). x ++ y) (ap (λ (x : Drawn). events_in (get_or line_nos k 0) (acts_by (walk_of paths x))) d) (same_events ks (ap rest_drawn e))

-- ---- the theorem

-- the references of a recount, and all of the fresh count, as they stand in the words lent
pub record SameRefs (p : ℕ) (nos_f rs rs' : List ℕ) (m : ℕ) (refs_f rs_f : List ℕ) (m_f : ℕ) : Type 0 where
  pub made : List Ref
  pub all : List Ref
  pub many : length made ≡ m
  pub words : rs' ≡ sets rs 0 (words_of made)
  pub many_f : length all ≡ m_f
  pub words_f : rs_f ≡ sets refs_f 0 (words_of all)
  -- those of path p's lines among all, in order, are those made
  pub same : sift (of_lines p nos_f) all ≡ made

module _
    (paths : List ℕ) (n : ℕ)
    (b : ℕ) (nos_f : List ℕ) (coords_f : List Float) (refs_f : List ℕ) (bs_f : List ℤ) (cs_f rs_f : List ℕ) (m_f : ℕ)
    (fresh : AllCounted b nos_f coords_f paths n refs_f bs_f cs_f rs_f m_f)
    (p : ℕ) (line_nos nos_n : List ℕ) (coords_n : List Float) (bs : List ℤ) (cs rs : List ℕ) (kb : List ℤ) (kc : List ℕ)
    (own : of_path p (drawn nos_f coords_f b) ≡ drawn nos_n coords_n (length nos_n))
    (numbers : numbers_of p nos_f b ≡ map (λ k. get_or line_nos k 0) (from 0 (length nos_n)))
    (many : length cs ≡ n)
  where
    in_below : (t : ℕ) → InPath paths p t → t < n
    in_below t i = omega (arith, i.2, ((checked paths n (passed b nos_f coords_f paths n refs_f bs_f cs_f rs_f m_f fresh)).fits p i.0).within)

    sorted : (es : List Event) → All (EventOwn nos_f coords_f paths) es → All (Sorted (own_event p nos_f coords_f paths) (InPath paths p) n in_below) es
    sorted [] o = tt
    sorted (e ∷ es) o =
        let k = o.0 in
        let c = checked paths n (passed b nos_f coords_f paths n refs_f bs_f cs_f rs_f m_f fresh) in
        let here : InPath paths (get_or nos_f e.line 0) e.tile = (k.path_in, rw k.box_is at k.held.0, rw k.box_is at k.held.1) in (
          record {
            inside = λ q. rw (eqb-true (get_or nos_f e.line 0) p q) at here;
            outside = λ q i. eqb-false (get_or nos_f e.line 0) p q (one_path paths n c (get_or nos_f e.line 0) p e.tile here.0 i.0 (here.1, here.2) (i.1, i.2));
          },
          sorted es o.1,
        )

    -- the fresh count's own events are the recount's
    own_events_lem : sift (own_event p nos_f coords_f paths) (events_of nos_f coords_f paths (from 0 b)) ≡ own_events line_nos nos_n coords_n paths (from 0 (length nos_n))
    own_events_lem =
        events_own p nos_f coords_f paths (from 0 b)
        ∙ ap (events_of nos_f coords_f paths) numbers
        ∙ same_events paths line_nos nos_n coords_n nos_f coords_f (from 0 (length nos_n))
        (sym (ap (map (drawn_at nos_f coords_f)) numbers) ∙ sym (sift_map (is_of p) (drawn_at nos_f coords_f) (from 0 b)) ∙ own)

    module _ (ok : paths_answer paths (length cs) ≡ Answer.Done) (h : p < path_count paths) (paired : length bs ≡ length cs) (u : St)
        (w : Went p line_nos nos_n coords_n paths bs cs rs ok h paired (from 0 (length nos_n)) u) where
      by_went : SameRefs p nos_f rs u.refs u.made refs_f rs_f m_f
      by_went =
          let f = counted_all b nos_f coords_f paths n refs_f bs_f cs_f rs_f m_f fresh in
          let es = own_events line_nos nos_n coords_n paths (from 0 (length nos_n)) in
          let es_f = events_of nos_f coords_f paths (from 0 b) in
          let c = (cleared_for (path_at paths p) bs cs rs).counts in
          let lc : length c ≡ n = length_cleared 0 (path_at paths p).first (tiles_in (path_at paths p)) cs ∙ many in
          record {
            made = refs_from c es;
            all = refs_from (zeros n) es_f;
            many = length_refs c es ∙ omega (arith, w.moved.made);
            words = w.moved.refs ∙ ap (sets rs 0) (words_are es (slices c (tiles_ev es)));
            many_f = length_refs (zeros n) es_f ∙ omega (arith, f.moved.made);
            words_f = f.moved.refs ∙ ap (sets refs_f 0) (words_are es_f (slices (zeros n) (tiles_ev es_f)));
            same =
                sifted (own_event p nos_f coords_f paths) (InPath paths p) n in_below es_f (zeros n) c (length-replicate n 0) lc
                (λ t i. zeros_at n t ∙ sym (cleared_in 0 (path_at paths p).first (tiles_in (path_at paths p)) cs t i.1 i.2 (omega (arith, in_below t i, many))))
                (sorted es_f f.own)
                ∙ ap (refs_from c) own_events_lem;
          }

    -- The references that a recount makes are, in order, those that the fresh count makes for these lines: line, slice and step
    pub same_refs : (m : ℕ) → (recounted_of p line_nos nos_n coords_n paths bs cs rs kb kc).paper ≡ done_no ∷ m ∷ []
        → SameRefs p nos_f rs (recounted_of p line_nos nos_n coords_n paths bs cs rs kb kc).refs m refs_f rs_f m_f
    same_refs m e = go (asked_here p line_nos nos_n coords_n paths bs cs rs kb kc) refl
      where
        by_ran : (k : AskedHere p line_nos nos_n coords_n paths bs cs rs kb kc) (r : Ran St Refusal) → ran p line_nos nos_n coords_n paths bs cs rs kb kc ≡ r
            → (out_by p line_nos nos_n coords_n paths bs cs rs kb kc r).paper ≡ done_no ∷ m ∷ []
            → SameRefs p nos_f rs (out_by p line_nos nos_n coords_n paths bs cs rs kb kc r).refs m refs_f rs_f m_f
        by_ran k (done u) f g =
            let q : u.made ≡ m = cc in
            rw q at (by_went k.passed k.there k.paired u (went p line_nos nos_n coords_n paths bs cs rs k.passed k.there k.paired u f))
        by_ran k (refused u why) f g = let z : ◌≡◌ {A = ℕ} 0 1 = cc in absurd (omega arith)

        go : (v : Answer) → asked_here p line_nos nos_n coords_n paths bs cs rs kb kc ≡ v
            → SameRefs p nos_f rs (recounted_of p line_nos nos_n coords_n paths bs cs rs kb kc).refs m refs_f rs_f m_f
        go Answer.Done f =
            let k = asked_done p paths (length line_nos) (length nos_n) (length coords_n) (length bs) (length cs) (length rs) (length kb) (length kc) f in
            rw (out_is p line_nos nos_n coords_n paths bs cs rs kb kc f)
            (by_ran k (ran p line_nos nos_n coords_n paths bs cs rs kb kc) refl (rw (out_is p line_nos nos_n coords_n paths bs cs rs kb kc f) at e))
        go (Answer.Refused q item) f =
            let g : q ∷ item ∷ 0 ∷ [] ≡ done_no ∷ m ∷ [] = sym (out_no p line_nos nos_n coords_n paths bs cs rs kb kc q item f).2 ∙ e in
            let z : ◌≡◌ {A = ℕ} 0 1 = cc in absurd (omega arith)
