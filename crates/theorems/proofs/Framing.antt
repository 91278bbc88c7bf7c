-- A frame ends in one of the ways of specs/Framing.antt, and what each leaves is what the stages' theorems say. Assumes nothing.
use mathlib.Core.Path.{◌≡◌, refl, sym, ap, subst, ◌∙◌}
use mathlib.Core.Logic.{◌⊎◌, inl, inr, ⊎_elim}
use mathlib.Core.Bool.{true}
use mathlib.Core.List.{List, [], ◌∷◌}
use Prim.Native.Nat.{ℕ, ◌-◌, ◌/◌, ◌%◌, ◌≤◌, ◌<◌}
use native.Mathlib.Omega.{arith}
use lib.ListN.{length, get_or, replicate, length-replicate}
use lib.IntN.{ℤ, pos}
use lib.Ieee.{Float}
use Rattle.panel.specs.Pieces.{Pieces}
use borrow.Author.Tests.{eqb-true, eq-eqb, le-leb}
use Rattle.lists.specs.Run.{Ran, done, refused}
use Rattle.lists.specs.Sums.{sum}
use Rattle.panel.specs.Refusals.{done_no, no_room_word}
use Rattle.panel.specs.Widths.{path_words, line_floats, ref_words}
use Rattle.panel.specs.Kinds.{running_of}
use Rattle.panel.specs.Checks.{Check, first_no}
use Rattle.panel.specs.Paths.{path_at, path_count, tile_of, paths_answer}
use Rattle.panel.specs.declared.kinds.Running.{Running}
use Rattle.panel.specs.Answer.{Answer}
use Rattle.panel.proofs.CheckLaws.{AllOk, all_ok, none_fails, unless_done, unless_fine}
use Rattle.panel.proofs.KindLaws.{paper_once}
use Rattle.panel.proofs.PathLaws.{InBox, checked}
use Rattle.acts.specs.Acts.{St, st_of}
use Rattle.acts.specs.Line.{Refusal}
use Rattle.path_count.specs.Count.{Told, told_of, paper_of, batch, lent_checks as count_checks, batch_told, call_answer, call_told, counted}
use Rattle.path_count.specs.Counted.{Counted}
use Rattle.backdrop.specs.Backdrop as Backdrop
use Rattle.hand_out.specs.HandOut as HandOut
use Rattle.hand_out.specs.HandOut.{hand}
use Rattle.looks.specs.Look.{lent}
use Rattle.path_tiling.specs.Tiling.{Range, range, range_of, whole_of, Tiled, applied, slots_of, tiled, tiled_of, call_of}
use Rattle.hand_out.proofs.HandLaws.{length_hand}
use Rattle.path_tiling.proofs.CallLaws as Tiling
use Rattle.frame.specs.Frame.{Out, stage_no, out_of, answer_on, counted_on, go_on, go_on_counted, placed_of, drawn_of, lent_checks, checks_of, frame_of}
use Rattle.frame.specs.declared.kinds.Stage.TheVariants as Stage
use Rattle.frame.specs.Framed.{Framed, Done, Refused}
use Rattle.frame.proofs.FrameLaws.{answer_on_lem}
use Rattle.frame.proofs.KindLaws as Framed
use Rattle.theorems.specs.Drawn.{drawn, of_path, InPath}
use Rattle.theorems.specs.Refs.{from_zero, AllCounted}
use Rattle.theorems.specs.Stray.{NoStray}
use Rattle.theorems.specs.Promises.{FrameMet}
use Rattle.theorems.specs.Refusing.{BatchWhy, RangeWhy}
use Rattle.theorems.specs.Framing.{Counts, tiled_as, cleared, refusal, Way, lent_refused, line_refused, slots_refused, tiled_out, Framing}
use Rattle.theorems.proofs.SumLaws.{sums, through, passed, went, start_of}
use Rattle.theorems.proofs.BatchLaws.{same_lengths}
use Rattle.theorems.proofs.StrayLaws.{no_stray}
use Rattle.theorems.proofs.Isolation.{isolated, isolated_sums}
use Rattle.theorems.proofs.Calm.{sums_done}
use Rattle.theorems.proofs.ExactRuns.{batch_exact}
use Rattle.theorems.proofs.ExactStops.{range_exact}
use Rattle.theorems.proofs.Exact.{no_clash, HandCase, unpaired, many, over, fine, hand_case}

-- ---- counting's paper is an answer's

paper_said : (r : Running) (b : ℕ) (nos : List ℕ) (coords : List Float) (paths : List ℕ) (bs : List ℤ) (cs rs : List ℕ)
    → (x : Counted) × ((counted r b nos coords paths bs cs rs).paper ≡ paper_of x)
unfolding counted
paper_said r b nos coords paths bs cs rs =
    go (call_answer nos coords paths r.lines b (st_of bs cs rs r.refs)) (batch nos coords paths (length rs / ref_words) r.lines b (st_of bs cs rs r.refs))
  where
    go : (v : Answer) (o : Ran St Refusal) → (x : Counted) × ((call_told v r (st_of bs cs rs r.refs) (batch_told b o)).paper ≡ paper_of x)
    go Answer.Done (done s) = (Counted.Done (running_of b s.made), refl)
    go Answer.Done (refused s why) = (Counted.Refused why.no why.line (running_of why.line s.made), refl)
    go (Answer.Refused n item) o = (Counted.Refused n item r, refl)

pub counts_long : (b : ℕ) (nos : List ℕ) (coords : List Float) (paths : List ℕ) (n : ℕ) (refs : List ℕ) (bs : List ℤ) (cs rs : List ℕ) (m : ℕ)
    → AllCounted b nos coords paths n refs bs cs rs m → length cs ≡ n
counts_long b nos coords paths n refs bs cs rs m all =
    (same_lengths nos coords paths n (passed b nos coords paths n refs bs cs rs m all) (length refs / ref_words) 0 b (start_of n refs) (st_of bs cs rs m)
    (went b nos coords paths n refs bs cs rs m all).ran).counts
    ∙ length-replicate n 0

-- ---- the ways

module _ (nos : List ℕ) (coords : List Float) (paths : List ℕ) (backs : List ℤ) (stored tally refs : List ℕ) (pieces : Pieces) where
  abbrev Ways : Out → Type 0
  Ways o = Way nos coords paths backs stored tally refs pieces o

  module _ (ok : checks_of nos coords paths backs stored tally refs pieces ≡ Answer.Done) where
    abbrev firsts : List Check
    firsts = lent_checks (length nos) (length coords) (length backs) (length stored) (length tally) (length refs) (length pieces.segments) (length pieces.tags)

    pub row : AllOk firsts × (paths_answer paths (length stored) ≡ Answer.Done)
    unfolding checks_of
    row = let u = unless_done (first_no firsts) 0 (paths_answer paths (length stored)) ok in (all_ok firsts u.0, u.1)

    pub paired : length backs ≡ length stored
    paired = eqb-true (length backs) (length stored) row.0.1.1.0

    pub kept : length stored ≡ length tally
    kept = eqb-true (length stored) (length tally) row.0.1.1.1.0

    -- so counting's own checks pass
    pub call_ok : call_answer nos coords paths 0 (length nos) (cleared (length stored) refs) ≡ Answer.Done
    unfolding call_answer
    call_ok =
        let z : 0 ≤ length nos = omega arith in
        let e : length nos ≡ length coords / line_floats = eqb-true (length nos) (length coords / line_floats) row.0.1.0 in
        let h : length nos ≤ length coords / line_floats = omega arith in
        rw (length-replicate (length stored) (pos 0), length-replicate {A = ℕ} (length stored) 0)
        (unless_fine _ 0 _
        (none_fails (count_checks (length nos) (length coords) (length stored) (length stored) (length refs) 0 (length nos))
        (row.0.0, (row.0.1.0, (eq-eqb (length stored) (length stored) refl, (row.0.1.1.1.1.0, (le-leb 0 (length nos) z, (le-leb (length nos) (length coords / line_floats) h, tt))))))))
        ∙ row.1

    -- and where it refused, it did so at a line
    count_halts : (m item : ℕ) (s : Running) (bs : List ℤ) (cs rs : List ℕ)
        → from_zero (length nos) nos coords paths (length stored) refs ≡ told_of (paper_of (Counted.Refused m item s)) (st_of bs cs rs s.refs)
        → (item ≡ s.lines) × BatchWhy nos coords paths (length refs / ref_words) 0 (length nos) (cleared (length stored) refs) (st_of bs cs rs s.refs) (refusal m s.lines)
    unfolding counted
    count_halts m item s bs cs rs e = go (batch nos coords paths (length refs / ref_words) 0 (length nos) (cleared (length stored) refs)) refl (rw call_ok at e)
      where
        go : (o : Ran St Refusal) → batch nos coords paths (length refs / ref_words) 0 (length nos) (cleared (length stored) refs) ≡ o
            → batch_told (length nos) o ≡ told_of (m ∷ item ∷ s.lines ∷ s.refs ∷ []) (st_of bs cs rs s.refs)
            → (item ≡ s.lines) × BatchWhy nos coords paths (length refs / ref_words) 0 (length nos) (cleared (length stored) refs) (st_of bs cs rs s.refs) (refusal m s.lines)
        go (done t) q h =
            let p : done_no ∷ length nos ∷ t.made ∷ [] ≡ m ∷ item ∷ s.lines ∷ s.refs ∷ [] = ap (λ (x : Told). x.paper) h in
            no_clash cc
        go (refused t why) q h =
            let p : why.no ∷ why.line ∷ why.line ∷ t.made ∷ [] ≡ m ∷ item ∷ s.lines ∷ s.refs ∷ [] = ap (λ (x : Told). x.paper) h in
            let a : why.no ≡ m = cc in
            let b : why.line ≡ s.lines = cc in
            let c : why.line ≡ item = cc in
            let d : t.made ≡ s.refs = cc in
            let same : t ≡ st_of bs cs rs s.refs = λ i. record { backs = (h i).backs; counts = (h i).counts; refs = (h i).refs; made = d i } in
            let w : why ≡ refusal m s.lines = λ i. record { no = a i; line = b i } in (
              sym c ∙ b,
              (batch_exact nos coords paths (length refs / ref_words) 0 (length nos) (cleared (length stored) refs) (st_of bs cs rs s.refs) (refusal m s.lines)).0
                  (q ∙ rw (same, w)),
            )

    -- after counting
    module _ (s : Running) (marks : List ℤ) (cs rs : List ℕ) (lines : s.lines ≡ length nos)
        (all : AllCounted (length nos) nos coords paths (length stored) refs marks cs rs s.refs) where
      long : length cs ≡ length stored
      long = counts_long (length nos) nos coords paths (length stored) refs marks cs rs s.refs all

      placed_ways : Ways (placed_of s nos coords paths marks cs tally rs pieces)
      unfolding placed_of
      placed_ways =
          let d = sums_done (length nos) nos coords paths (length stored) refs marks cs rs s.refs all in
          rw d.1 (handed d.0 d.1 (hand_case (slots_of (length pieces.segments)) cs tally))
        where
          total : sum cs ≡ s.refs
          total = (sums (length nos) nos coords paths (length stored) refs marks cs rs s.refs all).total

          at_tiling : (bs : List ℤ) → Backdrop.backdrop_of paths marks ≡ Backdrop.out_of Answer.Done bs → s.refs ≤ slots_of (length pieces.segments) → (a : Answer) (sg : Pieces)
              → tiled_of 0 s.refs (lent nos coords paths (hand 0 cs) rs) pieces ≡ tiled a sg
              → Ways (go_on a Stage.Tile s (λ f. out_of f bs (hand 0 cs) cs rs sg) (out_of (Done s) bs (hand 0 cs) cs rs sg))
          at_tiling bs q h Answer.Done sg e = tiled_out Answer.Done s bs cs rs sg ok (record { marks = marks; lines = lines; all = all; sums = q }) h e refl
          at_tiling bs q h (Answer.Refused m k) sg e = tiled_out (Answer.Refused m k) s bs cs rs sg ok (record { marks = marks; lines = lines; all = all; sums = q }) h e refl

          handed : (bs : List ℤ) → Backdrop.backdrop_of paths marks ≡ Backdrop.out_of Answer.Done bs → HandCase (slots_of (length pieces.segments)) cs tally
              → Ways (let h = HandOut.hand_out_of (slots_of (length pieces.segments)) cs tally in
              let t = tiled_of 0 s.refs (lent nos coords paths h.stored rs) pieces in
              go_on (answer_on h.paper) Stage.HandOut s (λ f. out_of f bs h.stored h.tally rs pieces)
              (go_on (answer_on t.paper) Stage.Tile s (λ f. out_of f bs h.stored h.tally rs t.pieces) (out_of (Done s) bs h.stored h.tally rs t.pieces)))
          handed bs q (unpaired a e) = absurd (a (long ∙ kept))
          handed bs q (many a b e) = absurd (omega (arith, long, (checked paths (length stored) row.1).tiled))
          handed bs q (over a b c e) =
              rw e (slots_refused s bs cs rs ok (record { marks = marks; lines = lines; all = all; sums = q }) (omega (arith, total)) refl)
          handed bs q (fine a b c e) =
              let r : Range = call_of 0 s.refs (lent nos coords paths (hand 0 cs) rs) pieces in
              rw (e, answer_on_lem r.answer) (at_tiling bs q (omega (arith, total)) r.answer (applied r.writes pieces) refl)

    -- tiling's own checks pass too, so where it refused, it did so at a reference
    module _ (s : Running) (bs : List ℤ) (cs rs : List ℕ) (c : Counts nos coords paths (length stored) refs s bs cs rs) where
      whole_ok : Tiling.Whole 0 s.refs (lent nos coords paths (hand 0 cs) rs) pieces ≡ true
      unfolding whole_of
      whole_ok =
          let p : length paths % path_words ≡ 0 = omega (arith, (checked paths (length stored) row.1).whole) in
          let r : length rs ≡ length refs =
          (same_lengths nos coords paths (length stored) row.1 (length refs / ref_words) 0 (length nos) (start_of (length stored) refs) (st_of c.marks cs rs s.refs)
          (went (length nos) nos coords paths (length stored) refs c.marks cs rs s.refs c.all).ran).refs in
          let e : length refs % ref_words ≡ 0 = eqb-true (length refs % ref_words) 0 row.0.1.1.1.1.0 in
          let z : 0 ≤ s.refs = omega arith in
          let m : s.refs ≤ length rs / ref_words = omega (arith, (sums (length nos) nos coords paths (length stored) refs c.marks cs rs s.refs c.all).there) in
          let q : length rs % ref_words ≡ 0 = rw r e in
          rw (
            row.0.0,
            row.0.1.0,
            eq-eqb (length paths % path_words) 0 p,
            eq-eqb (length rs % ref_words) 0 q,
            row.0.1.1.1.1.1.0,
            row.0.1.1.1.1.1.1.0,
            le-leb 0
                s.refs z,
            le-leb s.refs (length rs / ref_words) m,
          )

      pub tiling_why : (why k : ℕ) (sg : Pieces) → tiled_of 0 s.refs (lent nos coords paths (hand 0 cs) rs) pieces ≡ tiled (Answer.Refused why k) sg
          → RangeWhy (lent nos coords paths (hand 0 cs) rs) (slots_of (length pieces.segments)) s.refs 0 why k
      tiling_why why k sg e =
          let L = lent nos coords paths (hand 0 cs) rs in
          let long : length (hand 0 cs) ≡ length stored = length_hand 0 cs ∙ counts_long (length nos) nos coords paths (length stored) refs c.marks cs rs s.refs c.all in
          let p : paths_answer paths (length (hand 0 cs)) ≡ Answer.Done = rw long row.1 in
          let t = Tiling.called 0 s.refs L pieces whole_ok p ∙ e in
          let z : s.refs - 0 ≡ s.refs = omega arith in
          let a : (range_of L (slots_of (length pieces.segments)) (s.refs - 0) 0).answer ≡ Answer.Refused why k =
          paper_once (range_of L (slots_of (length pieces.segments)) (s.refs - 0) 0).answer (Answer.Refused why k) (ap (λ (x : Tiled). x.paper) t) in
          (range_exact L (slots_of (length pieces.segments)) s.refs 0 why k).0 (rw z at a)

    -- counting, whose answer x is on its paper
    drawn_ways : Ways (drawn_of nos coords paths backs stored tally refs pieces)
    unfolding drawn_of
    drawn_ways =
        let c = paper_said (running_of 0 0) (length nos) nos coords paths (replicate (length backs) (pos 0)) (replicate (length stored) 0) refs in
        go (counted (running_of 0 0) (length nos) nos coords paths (replicate (length backs) (pos 0)) (replicate (length stored) 0) refs) refl c.0 c.1
      where
        go : (t : Told) → counted (running_of 0 0) (length nos) nos coords paths (replicate (length backs) (pos 0)) (replicate (length stored) 0) refs ≡ t
            → (x : Counted) → t.paper ≡ paper_of x
            → Ways (go_on_counted (counted_on t.paper) (λ f. out_of f t.backs t.counts tally t.refs pieces) (λ s. placed_of s nos coords paths t.backs t.counts tally t.refs pieces))
        go t q (Counted.Refused m item s) e =
            let zero : from_zero (length nos) nos coords paths (length stored) refs ≡ t = rw paired at q in
            let told : t ≡ told_of (paper_of (Counted.Refused m item s)) (st_of t.backs t.counts t.refs s.refs) = λ i. record
            { paper = e i; backs = t.backs; counts = t.counts; refs = t.refs } in
            let w = count_halts m item s t.backs t.counts t.refs (zero ∙ told) in
            rw (e, w.0) (line_refused m s t.backs t.counts t.refs ok w.1 refl)
        go t q (Counted.Done s) e =
            let zero : from_zero (length nos) nos coords paths (length stored) refs ≡ t = rw paired at q in
            let told : t ≡ told_of (paper_of (Counted.Done s)) (st_of t.backs t.counts t.refs s.refs) = λ i. record { paper = e i; backs = t.backs; counts = t.counts; refs = t.refs } in
            let w = through 0 (length nos) s.lines nos coords paths (start_of (length stored) refs) (st_of t.backs t.counts t.refs s.refs) (zero ∙ told) in
            let all : AllCounted (length nos) nos coords paths (length stored) refs t.backs t.counts t.refs s.refs = rw w.1 at (zero ∙ told) in
            rw e (placed_ways s t.backs t.counts t.refs w.1 all)

  -- a frame ends in one of these ways
  pub ways : Ways (frame_of nos coords paths backs stored tally refs pieces)
  unfolding frame_of
  ways = go (checks_of nos coords paths backs stored tally refs pieces) refl
    where
      go : (v : Answer) → checks_of nos coords paths backs stored tally refs pieces ≡ v
          → Ways (go_on v Stage.Lent (running_of 0 0) (λ f. out_of f backs stored tally refs pieces) (drawn_of nos coords paths backs stored tally refs pieces))
      go Answer.Done q = drawn_ways q
      go (Answer.Refused m item) q = lent_refused m item q refl

-- ---- what each way leaves

out_once : (f g : Framed) (bs bs' : List ℤ) (ts ts' ks ks' rs rs' : List ℕ) (sg sg' : Pieces) → out_of f bs ts ks rs sg ≡ out_of g bs' ts' ks' rs' sg'
    → (f ≡ g) × (bs ≡ bs') × (ts ≡ ts') × (ks ≡ ks') × (rs ≡ rs') × (sg ≡ sg')
out_once f g bs bs' ts ts' ks ks' rs rs' sg sg' e = (
  Framed.framed_once f g (ap (λ (o : Out). o.paper) e),
  ap (λ (o : Out). o.backs) e,
  ap (λ (o : Out). o.stored) e,
  ap (λ (o : Out). o.tally) e,
  ap (λ (o : Out). o.refs) e,
  ap (λ (o : Out). o.pieces) e,
)

-- the stage at which an answer ends, 0 where it is done
abbrev end_no : Framed → ℕ
end_no (Done s) = 0
end_no (Refused at m item s) = stage_no at

clash : {A : Type 0} (f g : Framed) → (end_no f ≡ end_no g → ⊥) → f ≡ g → A
clash f g h e = absurd (h (ap end_no e))

tiled_no : (a : Answer) (s : Running) → (end_no (tiled_as a s) ≡ 0) ⊎ (end_no (tiled_as a s) ≡ 5)
tiled_no Answer.Done s = inl refl
tiled_no (Answer.Refused why k) s = inr refl

not_tiled : {A : Type 0} (f : Framed) (a : Answer) (s : Running) → 0 < end_no f → end_no f < 5 → f ≡ tiled_as a s → A
not_tiled f a s h k e =
    let z : end_no f ≡ end_no (tiled_as a s) = ap end_no e in
    ⊎_elim (λ p. absurd (omega arith)) (λ p. absurd (omega arith)) (tiled_no a s)

tiled_once : (a b : Answer) (s u : Running) → tiled_as a s ≡ tiled_as b u → (a ≡ b) × (s ≡ u)
tiled_once Answer.Done Answer.Done s u e = (refl, cc)
tiled_once Answer.Done (Answer.Refused why k) s u e = let z : ◌≡◌ {A = ℕ} 0 5 = ap end_no e in absurd (omega arith)
tiled_once (Answer.Refused why k) Answer.Done s u e = let z : ◌≡◌ {A = ℕ} 5 0 = ap end_no e in absurd (omega arith)
tiled_once (Answer.Refused why k) (Answer.Refused m j) s u e =
    let p : why ≡ m = cc in
    let q : k ≡ j = cc in
    (rw (p, q), cc)

module _ (nos : List ℕ) (coords : List Float) (paths : List ℕ) (n : ℕ) (refs : List ℕ) (pieces : Pieces) where
  -- lines counted and room for their references: hand-out is done
  pub handed_fine : (s : Running) (bs : List ℤ) (cs rs : List ℕ) → Counts nos coords paths n refs s bs cs rs → s.refs ≤ slots_of (length pieces.segments)
      → HandOut.hand_out_of (slots_of (length pieces.segments)) cs cs ≡ HandOut.out_of Answer.Done (hand 0 cs) cs
  handed_fine s bs cs rs c h = go (hand_case (slots_of (length pieces.segments)) cs cs)
    where
      total : sum cs ≡ s.refs
      total = (sums (length nos) nos coords paths n refs c.marks cs rs s.refs c.all).total

      go : HandCase (slots_of (length pieces.segments)) cs cs → HandOut.hand_out_of (slots_of (length pieces.segments)) cs cs ≡ HandOut.out_of Answer.Done (hand 0 cs) cs
      go (unpaired a e) = absurd (a refl)
      go (many a b e) =
          absurd (omega (
            arith,
            counts_long (length nos) nos coords paths n refs c.marks cs rs s.refs c.all,
            (checked paths n
                (passed (length nos) nos coords paths n refs c.marks cs rs s.refs c.all)).tiled,
          ))
      go (over a b d e) = absurd (omega (arith, total))
      go (fine a b d e) = e

  framing : (a : Answer) (s : Running) (bs : List ℤ) (cs rs : List ℕ) (sg : Pieces) → Counts nos coords paths n refs s bs cs rs → s.refs ≤ slots_of (length pieces.segments)
      → tiled_of 0 s.refs (lent nos coords paths (hand 0 cs) rs) pieces ≡ tiled a sg → Framing nos coords paths n refs pieces s bs (hand 0 cs) cs rs sg a
  framing a s bs cs rs sg c h e =
      let r : Range = call_of 0 s.refs (lent nos coords paths (hand 0 cs) rs) pieces in
      let q : r.answer ≡ a = paper_once r.answer a (ap (λ (t : Tiled). t.paper) e) in
      let same : r ≡ range r.writes a = λ i. record { writes = r.writes; answer = q i } in
      record {
        counts = c;
        sums = sums (length nos) nos coords paths n refs c.marks cs rs s.refs c.all;
        handed = refl;
        room = h;
        writes = r.writes;
        called = same;
        stray = subst (λ (x : Range). NoStray nos coords paths cs rs s.refs pieces x) same
            (no_stray (length nos) nos coords paths n refs c.marks cs rs s.refs (slots_of (length pieces.segments)) cs (hand 0 cs) cs pieces c.all (handed_fine s bs cs rs c h));
        pieces = sym (ap (λ (t : Tiled). t.pieces) e);
      }

moved : {nos : List ℕ} {coords : List Float} {paths : List ℕ} {n : ℕ} {refs : List ℕ} {pieces : Pieces} {s u : Running} {bs bs' : List ℤ} {ts ts' ks ks' rs rs' : List ℕ}
    {sg sg' : Pieces} {a b : Answer} → s ≡ u → bs ≡ bs' → ts ≡ ts' → ks ≡ ks' → rs ≡ rs' → sg ≡ sg' → a ≡ b
    → Framing nos coords paths n refs pieces s bs ts ks rs sg a → Framing nos coords paths n refs pieces u bs' ts' ks' rs' sg' b
moved p q t k r g w f = rw (← p, ← q, ← t, ← k, ← r, ← g, ← w) f

module _ (nos : List ℕ) (coords : List Float) (paths : List ℕ) (backs : List ℤ) (stored tally refs : List ℕ) (pieces : Pieces)
    (bs : List ℤ) (ts ks rs : List ℕ) (sg : Pieces) where
  -- a frame has one end
  is_one : (g : Framed) → frame_of nos coords paths backs stored tally refs pieces ≡ out_of g bs ts ks rs sg → (f : Framed) (bs' : List ℤ) (ts' ks' rs' : List ℕ) (sg' : Pieces)
      → frame_of nos coords paths backs stored tally refs pieces ≡ out_of f bs' ts' ks' rs' sg' → f ≡ g
  is_one g e f bs' ts' ks' rs' sg' q = (out_once f g bs' bs ts' ts ks' ks rs' rs sg' sg (sym q ∙ e)).0

  ended : (a : Answer) (s : Running) → frame_of nos coords paths backs stored tally refs pieces ≡ out_of (tiled_as a s) bs ts ks rs sg
      → Framing nos coords paths (length stored) refs pieces s bs ts ks rs sg a
  ended a s e = go (ways nos coords paths backs stored tally refs pieces)
    where
      go : Way nos coords paths backs stored tally refs pieces (frame_of nos coords paths backs stored tally refs pieces)
          → Framing nos coords paths (length stored) refs pieces s bs ts ks rs sg a
      go (lent_refused m item q o) = not_tiled (Refused Stage.Lent m item (running_of 0 0)) a s (omega arith) (omega arith)
          (is_one (tiled_as a s) e (Refused Stage.Lent m item (running_of 0 0)) backs stored tally refs pieces o)
      go (line_refused m u bs' cs rs' q t o) = not_tiled (Refused Stage.Count m u.lines u) a s (omega arith) (omega arith)
          (is_one (tiled_as a s) e (Refused Stage.Count m u.lines u) bs' cs tally rs' pieces o)
      go (slots_refused u bs' cs rs' q c h o) = not_tiled (Refused Stage.HandOut no_room_word 0 u) a s (omega arith) (omega arith)
          (is_one (tiled_as a s) e (Refused Stage.HandOut no_room_word 0 u) bs' cs tally rs' pieces o)
      go (tiled_out a' u bs' cs rs' sg' q c h t o) =
          let w = out_once (tiled_as a' u) (tiled_as a s) bs' bs (hand 0 cs) ts cs ks rs' rs sg' sg (sym o ∙ e) in
          let v = tiled_once a' a u s w.0 in
          let f : Framing nos coords paths (length stored) refs pieces u bs' (hand 0 cs) cs rs' sg' a' = framing nos coords paths (length stored) refs pieces a' u bs' cs rs' sg' c h t in
          moved v.1 w.1 w.2 w.3 w.4 w.5 v.0 f

  -- A frame is done: all lines are counted and summed, each reference has its slot, and no piece is stray
  pub frame_done : (s : Running) → frame_of nos coords paths backs stored tally refs pieces ≡ out_of (Done s) bs ts ks rs sg
      → Framing nos coords paths (length stored) refs pieces s bs ts ks rs sg Answer.Done
  frame_done s e = ended Answer.Done s e

  -- A frame is refused in tiling, at reference k: the same of all that came before it
  pub frame_refused : (s : Running) (why k : ℕ) → frame_of nos coords paths backs stored tally refs pieces ≡ out_of (Refused Stage.Tile why k s) bs ts ks rs sg
      → Framing nos coords paths (length stored) refs pieces s bs ts ks rs sg (Answer.Refused why k)
  frame_refused s why k e = ended (Answer.Refused why k) s e

  -- and k is the first reference refused
  pub frame_why : (s : Running) (why k : ℕ) → frame_of nos coords paths backs stored tally refs pieces ≡ out_of (Refused Stage.Tile why k s) bs ts ks rs sg
      → RangeWhy (lent nos coords paths ts rs) (slots_of (length pieces.segments)) s.refs 0 why k
  frame_why s why k e = go (ways nos coords paths backs stored tally refs pieces)
    where
      go : Way nos coords paths backs stored tally refs pieces (frame_of nos coords paths backs stored tally refs pieces)
          → RangeWhy (lent nos coords paths ts rs) (slots_of (length pieces.segments)) s.refs 0 why k
      go (lent_refused m item q o) = clash (Refused Stage.Lent m item (running_of 0 0)) (Refused Stage.Tile why k s) (omega arith)
          (is_one (Refused Stage.Tile why k s) e (Refused Stage.Lent m item (running_of 0 0)) backs stored tally refs pieces o)
      go (line_refused m u bs' cs rs' q t o) = clash (Refused Stage.Count m u.lines u) (Refused Stage.Tile why k s) (omega arith)
          (is_one (Refused Stage.Tile why k s) e (Refused Stage.Count m u.lines u) bs' cs tally rs' pieces o)
      go (slots_refused u bs' cs rs' q c h o) = clash (Refused Stage.HandOut no_room_word 0 u) (Refused Stage.Tile why k s) (omega arith)
          (is_one (Refused Stage.Tile why k s) e (Refused Stage.HandOut no_room_word 0 u) bs' cs tally rs' pieces o)
      go (tiled_out a u bs' cs rs' sg' q c h t o) =
          let w = out_once (tiled_as a u) (Refused Stage.Tile why k s) bs' bs (hand 0 cs) ts cs ks rs' rs sg' sg (sym o ∙ e) in
          let v = tiled_once a (Answer.Refused why k) u s w.0 in
          rw (v.1, w.2, w.4) at (tiling_why nos coords paths backs stored tally refs pieces q u bs' cs rs' c why k sg' (rw v.0 at t))

  -- A frame is refused by the checks of what is lent: exactly by their ground, and nothing changes
  pub frame_lent : (s : Running) (why item : ℕ) → frame_of nos coords paths backs stored tally refs pieces ≡ out_of (Refused Stage.Lent why item s) bs ts ks rs sg
      → (checks_of nos coords paths backs stored tally refs pieces ≡ Answer.Refused why item) × (bs ≡ backs) × (ts ≡ stored) × (ks ≡ tally) × (rs ≡ refs) × (sg ≡ pieces)
  frame_lent s why item e = go (ways nos coords paths backs stored tally refs pieces)
    where
      go : Way nos coords paths backs stored tally refs pieces (frame_of nos coords paths backs stored tally refs pieces)
          → (checks_of nos coords paths backs stored tally refs pieces ≡ Answer.Refused why item) × (bs ≡ backs) × (ts ≡ stored) × (ks ≡ tally) × (rs ≡ refs) × (sg ≡ pieces)
      go (lent_refused m i q o) =
          let w = out_once (Refused Stage.Lent m i (running_of 0 0)) (Refused Stage.Lent why item s) backs bs stored ts tally ks refs rs pieces sg (sym o ∙ e) in
          let f = w.0 in
          let a : m ≡ why = cc in
          let b : i ≡ item = cc in
          (rw (a, b) at q, sym w.1, sym w.2, sym w.3, sym w.4, sym w.5)
      go (line_refused m u bs' cs rs' q t o) = clash (Refused Stage.Count m u.lines u) (Refused Stage.Lent why item s) (omega arith)
          (is_one (Refused Stage.Lent why item s) e (Refused Stage.Count m u.lines u) bs' cs tally rs' pieces o)
      go (slots_refused u bs' cs rs' q c h o) = clash (Refused Stage.HandOut no_room_word 0 u) (Refused Stage.Lent why item s) (omega arith)
          (is_one (Refused Stage.Lent why item s) e (Refused Stage.HandOut no_room_word 0 u) bs' cs tally rs' pieces o)
      go (tiled_out a u bs' cs rs' sg' q c h t o) = not_tiled (Refused Stage.Lent why item s) a u (omega arith) (omega arith)
          (sym (is_one (Refused Stage.Lent why item s) e (tiled_as a u) bs' (hand 0 cs) cs rs' sg' o))

  -- A frame is refused at a line: it is the first line refused, with that line's number and ground; the lines before it are counted, and the tally and the
  -- segments are as they were
  pub frame_line : (s : Running) (why item : ℕ) → frame_of nos coords paths backs stored tally refs pieces ≡ out_of (Refused Stage.Count why item s) bs ts ks rs sg
      → (item ≡ s.lines) × BatchWhy nos coords paths (length refs / ref_words) 0 (length nos) (cleared (length stored) refs) (st_of bs ts rs s.refs) (refusal why s.lines)
      × (ks ≡ tally) × (sg ≡ pieces)
  frame_line s why item e = go (ways nos coords paths backs stored tally refs pieces)
    where
      go : Way nos coords paths backs stored tally refs pieces (frame_of nos coords paths backs stored tally refs pieces)
          → (item ≡ s.lines) × BatchWhy nos coords paths (length refs / ref_words) 0 (length nos) (cleared (length stored) refs) (st_of bs ts rs s.refs) (refusal why s.lines)
          × (ks ≡ tally) × (sg ≡ pieces)
      go (lent_refused m i q o) = clash (Refused Stage.Lent m i (running_of 0 0)) (Refused Stage.Count why item s) (omega arith)
          (is_one (Refused Stage.Count why item s) e (Refused Stage.Lent m i (running_of 0 0)) backs stored tally refs pieces o)
      go (line_refused m u bs' cs rs' q t o) =
          let w = out_once (Refused Stage.Count m u.lines u) (Refused Stage.Count why item s) bs' bs cs ts tally ks rs' rs pieces sg (sym o ∙ e) in
          let f = w.0 in
          let a : m ≡ why = cc in
          let b : u.lines ≡ item = cc in
          let v : u ≡ s = cc in
          let l : u.lines ≡ s.lines = ap (λ (x : Running). x.lines) v in
          (sym b ∙ l, rw (a, v, w.1, w.2, w.4) at t, sym w.3, sym w.5)
      go (slots_refused u bs' cs rs' q c h o) = clash (Refused Stage.HandOut no_room_word 0 u) (Refused Stage.Count why item s) (omega arith)
          (is_one (Refused Stage.Count why item s) e (Refused Stage.HandOut no_room_word 0 u) bs' cs tally rs' pieces o)
      go (tiled_out a u bs' cs rs' sg' q c h t o) = not_tiled (Refused Stage.Count why item s) a u (omega arith) (omega arith)
          (sym (is_one (Refused Stage.Count why item s) e (tiled_as a u) bs' (hand 0 cs) cs rs' sg' o))

  -- The sums of a frame are never refused
  pub frame_no_sums : (s : Running) (why item : ℕ) → frame_of nos coords paths backs stored tally refs pieces ≡ out_of (Refused Stage.Backdrop why item s) bs ts ks rs sg → ⊥
  frame_no_sums s why item e = go (ways nos coords paths backs stored tally refs pieces)
    where
      go : Way nos coords paths backs stored tally refs pieces (frame_of nos coords paths backs stored tally refs pieces) → ⊥
      go (lent_refused m i q o) = clash (Refused Stage.Lent m i (running_of 0 0)) (Refused Stage.Backdrop why item s) (omega arith)
          (is_one (Refused Stage.Backdrop why item s) e (Refused Stage.Lent m i (running_of 0 0)) backs stored tally refs pieces o)
      go (line_refused m u bs' cs rs' q t o) = clash (Refused Stage.Count m u.lines u) (Refused Stage.Backdrop why item s) (omega arith)
          (is_one (Refused Stage.Backdrop why item s) e (Refused Stage.Count m u.lines u) bs' cs tally rs' pieces o)
      go (slots_refused u bs' cs rs' q c h o) = clash (Refused Stage.HandOut no_room_word 0 u) (Refused Stage.Backdrop why item s) (omega arith)
          (is_one (Refused Stage.Backdrop why item s) e (Refused Stage.HandOut no_room_word 0 u) bs' cs tally rs' pieces o)
      go (tiled_out a u bs' cs rs' sg' q c h t o) = not_tiled (Refused Stage.Backdrop why item s) a u (omega arith) (omega arith)
          (sym (is_one (Refused Stage.Backdrop why item s) e (tiled_as a u) bs' (hand 0 cs) cs rs' sg' o))

  -- A frame is refused by hand-out: with 9, where more references are counted than there are segments; the counts stand where the slots would, and the
  -- tally and the segments are as they were
  pub frame_slots : (s : Running) (why item : ℕ) → frame_of nos coords paths backs stored tally refs pieces ≡ out_of (Refused Stage.HandOut why item s) bs ts ks rs sg
      → (why ≡ no_room_word) × (item ≡ 0) × (slots_of (length pieces.segments) < s.refs) × Counts nos coords paths (length stored) refs s bs ts rs × (ks ≡ tally) × (sg ≡ pieces)
  frame_slots s why item e = go (ways nos coords paths backs stored tally refs pieces)
    where
      go : Way nos coords paths backs stored tally refs pieces (frame_of nos coords paths backs stored tally refs pieces)
          → (why ≡ no_room_word) × (item ≡ 0) × (slots_of (length pieces.segments) < s.refs) × Counts nos coords paths (length stored) refs s bs ts rs × (ks ≡ tally) × (sg ≡ pieces)
      go (lent_refused m i q o) = clash (Refused Stage.Lent m i (running_of 0 0)) (Refused Stage.HandOut why item s) (omega arith)
          (is_one (Refused Stage.HandOut why item s) e (Refused Stage.Lent m i (running_of 0 0)) backs stored tally refs pieces o)
      go (line_refused m u bs' cs rs' q t o) = clash (Refused Stage.Count m u.lines u) (Refused Stage.HandOut why item s) (omega arith)
          (is_one (Refused Stage.HandOut why item s) e (Refused Stage.Count m u.lines u) bs' cs tally rs' pieces o)
      go (slots_refused u bs' cs rs' q c h o) =
          let w = out_once (Refused Stage.HandOut no_room_word 0 u) (Refused Stage.HandOut why item s) bs' bs cs ts tally ks rs' rs pieces sg (sym o ∙ e) in
          let f = w.0 in
          let a : why ≡ no_room_word = cc in
          let b : item ≡ 0 = cc in
          let v : u ≡ s = cc in
          (a, b, rw v at h, rw (v, w.1, w.2, w.4) at c, sym w.3, sym w.5)
      go (tiled_out a u bs' cs rs' sg' q c h t o) = not_tiled (Refused Stage.HandOut why item s) a u (omega arith) (omega arith)
          (sym (is_one (Refused Stage.HandOut why item s) e (tiled_as a u) bs' (hand 0 cs) cs rs' sg' o))

-- ---- two frames

-- Beam isolation between frames: over the same paths and as many tiles, with path p's lines the same in order, whatever the other paths' lines: path p's
-- counts, which the tally keeps, and its summed backdrops are alike
pub frames_isolated : (paths : List ℕ)
    (nos : List ℕ) (coords : List Float) (backs : List ℤ) (stored tally refs : List ℕ) (pieces : Pieces) (s : Running) (bs : List ℤ) (ts ks rs : List ℕ) (sg : Pieces)
    (nos' : List ℕ) (coords' : List Float) (backs' : List ℤ) (stored' tally' refs' : List ℕ) (pieces' : Pieces) (s' : Running) (bs' : List ℤ) (ts' ks' rs' : List ℕ) (sg' : Pieces)
    → frame_of nos coords paths backs stored tally refs pieces ≡ out_of (Done s) bs ts ks rs sg
    → frame_of nos' coords' paths backs' stored' tally' refs' pieces' ≡ out_of (Done s') bs' ts' ks' rs' sg'
    → length stored ≡ length stored' → (p : ℕ) → of_path p (drawn nos coords (length nos)) ≡ of_path p (drawn nos' coords' (length nos')) → p < path_count paths
    → ((t : ℕ) → InPath paths p t → get_or ks t 0 ≡ get_or ks' t 0)
    × ((x y : ℕ) → InBox (path_at paths p) x y → Backdrop.backdrop_at bs (tile_of (path_at paths p) x y) ≡ Backdrop.backdrop_at bs' (tile_of (path_at paths p) x y))
frames_isolated paths nos coords backs stored tally refs pieces s bs ts ks rs sg nos' coords' backs' stored' tally' refs' pieces' s' bs' ts' ks' rs' sg' e e' l p q k =
    let c = (frame_done nos coords paths backs stored tally refs pieces bs ts ks rs sg s e).counts in
    let c' : Counts nos' coords' paths (length stored) refs' s' bs' ks' rs' = rw (← l) at (frame_done nos' coords' paths backs' stored' tally' refs' pieces' bs' ts' ks' rs' sg' s' e').counts in (
      (λ t i. (isolated paths (length stored) (length nos) nos coords refs c.marks ks rs s.refs (length nos') nos' coords' refs' c'.marks ks' rs' s'.refs c.all c'.all p q t i).0),
      (λ x y i. isolated_sums paths (length stored) (length nos) nos coords refs c.marks ks rs s.refs (length nos') nos' coords' refs' c'.marks ks' rs'
          s'.refs c.all c'.all p q k bs bs' c.sums c'.sums x y i),
    )

-- One answer only
pub one_frame : (nos : List ℕ) (coords : List Float) (paths : List ℕ) (bs : List ℤ) (ts ks rs : List ℕ) (sg : Pieces) (a b : Framed)
    (bs₁ bs₂ : List ℤ) (ts₁ ts₂ ks₁ ks₂ rs₁ rs₂ : List ℕ) (sg₁ sg₂ : Pieces)
    → FrameMet nos coords paths bs ts ks rs sg a bs₁ ts₁ ks₁ rs₁ sg₁ → FrameMet nos coords paths bs ts ks rs sg b bs₂ ts₂ ks₂ rs₂ sg₂
    → (a ≡ b) × (bs₁ ≡ bs₂) × (ts₁ ≡ ts₂) × (ks₁ ≡ ks₂) × (rs₁ ≡ rs₂) × (sg₁ ≡ sg₂)
one_frame nos coords paths bs ts ks rs sg a b bs₁ bs₂ ts₁ ts₂ ks₁ ks₂ rs₁ rs₂ sg₁ sg₂ p q = out_once a b bs₁ bs₂ ts₁ ts₂ ks₁ ks₂ rs₁ rs₂ sg₁ sg₂ (p ∙ sym q)

-- What an older frame left in the tiles is of no account
module _ (nos : List ℕ) (coords : List Float) (paths : List ℕ) (backs backs' : List ℤ) (stored stored' tally refs : List ℕ) (pieces : Pieces)
    (e : length backs ≡ length backs') (f : length stored ≡ length stored') where
  same_checks : checks_of nos coords paths backs stored tally refs pieces ≡ checks_of nos coords paths backs' stored' tally refs pieces
  unfolding checks_of
  same_checks = rw (e, f)

  same_drawn : drawn_of nos coords paths backs stored tally refs pieces ≡ drawn_of nos coords paths backs' stored' tally refs pieces
  unfolding drawn_of
  same_drawn = rw (e, f)

  pub frame_fresh : checks_of nos coords paths backs stored tally refs pieces ≡ Answer.Done
      → frame_of nos coords paths backs stored tally refs pieces ≡ frame_of nos coords paths backs' stored' tally refs pieces
  unfolding frame_of
  frame_fresh ok = rw (ok, sym same_checks ∙ ok) same_drawn
