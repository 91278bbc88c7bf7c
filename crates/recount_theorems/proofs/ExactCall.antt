-- Exact at the call: a recount's promise is met where one of its ways holds, and nowhere else. Assumes nothing.
use mathlib.Core.Path.{◌≡◌, refl, sym, ap, ◌∙◌}
use mathlib.Core.Logic.{◌↔◌}
use mathlib.Core.List.{List}
use Prim.Native.Nat.{ℕ, ◌/◌}
use lib.ListN.{length, get_or}
use lib.IntN.{ℤ, pos}
use lib.Ieee.{Float}
use Rattle.lists.specs.Run.{Ran, done, refused}
use Rattle.panel.specs.Widths.{ref_words}
use Rattle.panel.specs.Paths.{path_at}
use Rattle.panel.specs.declared.kinds.Path.{Path}
use Rattle.panel.specs.Answer.{Answer}
use Rattle.acts.specs.Acts.{St, st_of}
use Rattle.acts.specs.Line.{Refusal}
use Rattle.new_lines.specs.Recounted.{Recounted, Done, Refused}
use Rattle.kept_range.specs.Kept.{Out, cleared_for, kept_from}
use Rattle.recount.specs.Recount.{RecountMet}
use Rattle.recount.proofs.CallLaws.{recount_no, asked_done}
use Rattle.recount_theorems.specs.Ways.{RecountWay, asked_refused, line_refused, all_recounted}
use Rattle.recount_theorems.proofs.Elsewhere.{asked_here, ran, out_by, out_is, refused_kept}
use Rattle.recount_theorems.proofs.OneAnswer.{one_recount}
use Rattle.recount_theorems.proofs.Exact.{asked_exact, own_exact, lines_exact}

module _ (p : ℕ) (line_nos nos : List ℕ) (coords : List Float) (paths : List ℕ) (bs : List ℤ) (cs rs : List ℕ) (kb : List ℤ) (kc : List ℕ) where
  abbrev Met : Recounted → List ℤ → List ℕ → List ℕ → List ℤ → List ℕ → Type 0
  Met r bs₁ cs₁ rs₁ kb₁ kc₁ = RecountMet p line_nos nos coords paths bs cs rs kb kc r bs₁ cs₁ rs₁ kb₁ kc₁

  abbrev asked : Answer
  asked = asked_here p line_nos nos coords paths bs cs rs kb kc

  abbrev lines : Ran St Refusal
  lines = ran p line_nos nos coords paths bs cs rs kb kc

  abbrev box : Path
  box = path_at paths p

  abbrev kept_bs : List ℤ
  kept_bs = kept_from (pos 0) box bs kb

  abbrev kept_cs : List ℕ
  kept_cs = kept_from 0 box cs kc

  met_asked : (n item : ℕ) → asked ≡ Answer.Refused n item → Met (Refused n item 0) bs cs rs kb kc
  met_asked n item e = recount_no p line_nos nos coords paths bs cs rs kb kc asked refl n item e

  -- a refused line: the range has back what it held
  met_line : asked ≡ Answer.Done → (u : St) (w : Refusal) → lines ≡ refused u w → Met (Refused w.no (get_or line_nos w.line 0) u.made) bs cs u.refs kept_bs kept_cs
  met_line e u w r =
      let o = out_is p line_nos nos coords paths bs cs rs kb kc e ∙ ap (out_by p line_nos nos coords paths bs cs rs kb kc) r in
      let k = refused_kept p line_nos nos coords paths bs cs rs kb kc w.no (get_or line_nos w.line 0) u.made (ap (λ (x : Out). x.paper) o) in
      λ i. record {
        paper = sym (ap (λ (x : Out). x.paper) o) i;
        backs = sym k.0 i;
        counts = sym k.1 i;
        refs = sym (ap (λ (x : Out). x.refs) o) i;
        kept_backs = sym (ap (λ (x : Out). x.kept_backs) o) i;
        kept_counts = sym (ap (λ (x : Out). x.kept_counts) o) i;
      }

  met_all : asked ≡ Answer.Done → (u : St) → lines ≡ done u → Met (Done u.made) u.backs u.counts u.refs kept_bs kept_cs
  met_all e u r = sym (out_is p line_nos nos coords paths bs cs rs kb kc e ∙ ap (out_by p line_nos nos coords paths bs cs rs kb kc) r)

  module _ (x : Recounted) (bs' : List ℤ) (cs' rs' : List ℕ) (kb' : List ℤ) (kc' : List ℕ) where
    abbrev Way : Type 0
    Way = RecountWay p line_nos nos coords paths bs cs rs kb kc x bs' cs' rs' kb' kc'

    -- what else meets the promise is the same
    same : Met x bs' cs' rs' kb' kc' → (y : Recounted) (bs₁ : List ℤ) (cs₁ rs₁ : List ℕ) (kb₁ : List ℤ) (kc₁ : List ℕ) → Met y bs₁ cs₁ rs₁ kb₁ kc₁
        → (x ≡ y) × (bs' ≡ bs₁) × (cs' ≡ cs₁) × (rs' ≡ rs₁) × (kb' ≡ kb₁) × (kc' ≡ kc₁)
    same m y bs₁ cs₁ rs₁ kb₁ kc₁ n = one_recount p line_nos nos coords paths bs cs rs kb kc x bs' cs' rs' kb' kc' m y bs₁ cs₁ rs₁ kb₁ kc₁ n

    pub recount_exact : Met x bs' cs' rs' kb' kc' ↔ RecountWay p line_nos nos coords paths bs cs rs kb kc x bs' cs' rs' kb' kc'
    recount_exact = (why, back)
      where
        why : Met x bs' cs' rs' kb' kc' → Way
        why m = go asked refl
          where
            by_lines : asked ≡ Answer.Done → (o : Ran St Refusal) → lines ≡ o → Way
            by_lines e (done u) r =
                let q = same m (Done u.made) u.backs u.counts u.refs kept_bs kept_cs (met_all e u r) in
                all_recounted u.made q.0 e (r ∙ (λ i. done (st_of (sym q.1 i) (sym q.2 i) (sym q.3 i) u.made))) q.4 q.5
            by_lines e (refused u w) r =
                let q = same m (Refused w.no (get_or line_nos w.line 0) u.made) bs cs u.refs kept_bs kept_cs (met_line e u w r) in
                let l = (lines_exact p line_nos nos coords paths (length rs / ref_words) (cleared_for box bs cs rs) u w).0 r in
                let a = asked_done p paths (length line_nos) (length nos) (length coords) (length bs) (length cs) (length rs) (length kb) (length kc) e in
                line_refused w.no w.line u q.0 e l.inside l.ran
                ((own_exact p nos coords paths (length rs / ref_words) (get_or line_nos w.line 0) w.line u w.no a.there).0 l.halts) q.1 q.2 q.3 q.4 q.5

            go : (v : Answer) → asked ≡ v → Way
            go Answer.Done e = by_lines e lines refl
            go (Answer.Refused n item) e =
                let q = same m (Refused n item 0) bs cs rs kb kc (met_asked n item e) in
                asked_refused n item q.0
                ((asked_exact p paths (length line_nos) (length nos) (length coords) (length bs) (length cs) (length rs) (length kb) (length kc) n item).0 e)
                q.1 q.2 q.3 q.4 q.5

        back : Way → Met x bs' cs' rs' kb' kc'
        back (asked_refused n item ex w eb ec er ekb ekc) =
            rw (ex, eb, ec, er, ekb, ekc)
            (met_asked n item ((asked_exact p paths (length line_nos) (length nos) (length coords) (length bs) (length cs) (length rs) (length kb) (length kc) n item).1 w))
        back (line_refused n k u ex ok i r w eb ec er ekb ekc) =
            let a = asked_done p paths (length line_nos) (length nos) (length coords) (length bs) (length cs) (length rs) (length kb) (length kc) ok in
            let h = (own_exact p nos coords paths (length rs / ref_words) (get_or line_nos k 0) k u n a.there).1 w in
            rw (ex, eb, ec, er, ekb, ekc)
            (met_line ok u (record { no = n; line = k })
            ((lines_exact p line_nos nos coords paths (length rs / ref_words) (cleared_for box bs cs rs) u (record { no = n; line = k })).1 (record { inside = i; ran = r; halts = h })))
        back (all_recounted m ex ok r ekb ekc) = rw (ex, ekb, ekc) (met_all ok (st_of bs' cs' rs' m) r)
