-- Exact at the call: counting. Its promise is met where one of its ways holds, and nowhere else. Assumes nothing.
use mathlib.Core.Path.{◌≡◌, refl, sym, ap, subst, ◌∙◌}
use mathlib.Core.Logic.{◌↔◌}
use mathlib.Core.List.{List}
use Prim.Native.Nat.{ℕ, ◌/◌}
use lib.ListN.{length}
use lib.IntN.{ℤ}
use lib.Ieee.{Float}
use Rattle.lists.specs.Run.{Ran, done, refused, halted}
use Rattle.panel.specs.Widths.{ref_words}
use Rattle.panel.specs.Kinds.{running_of}
use Rattle.panel.specs.Checks.{first_no}
use Rattle.panel.specs.Paths.{paths_answer}
use Rattle.panel.specs.declared.kinds.Running.{Running}
use Rattle.panel.specs.Answer.{Answer, Done, Refused}
use Rattle.panel.proofs.CheckLaws.{unless_fine, unless_done}
use Rattle.acts.specs.Acts.{St, st_of}
use Rattle.acts.specs.Line.{Refusal}
use Rattle.walked_lines.specs.Line.{line_step}
use Rattle.path_count.specs.Count.{batch, call_answer, counted, CountMet}
use Rattle.path_count.specs.Counted.{Counted}
use Rattle.theorems.proofs.OneAnswer.{one_count}
use Rattle.theorems.proofs.Exact.{line_exact}
use Rattle.theorems.proofs.ExactPaths.{call_exact}
use Rattle.theorems.proofs.ExactRuns.{batch_exact}
use Rattle.call_theorems.specs.Ways.{Passes, count_row, CountWay, lent_refused, line_refused, all_counted}

module _ (r : Running) (b : ℕ) (nos : List ℕ) (coords : List Float) (paths : List ℕ) (bs : List ℤ) (cs rs : List ℕ) where
  abbrev start : St
  start = st_of bs cs rs r.refs

  abbrev room : ℕ
  room = length rs / ref_words

  abbrev Met : Counted → List ℤ → List ℕ → List ℕ → Type 0
  Met x bs' cs' rs' = CountMet r b nos coords paths bs cs rs x bs' cs' rs'

  abbrev Way : Counted → List ℤ → List ℕ → List ℕ → Type 0
  Way x bs' cs' rs' = CountWay r b nos coords paths bs cs rs x bs' cs' rs'

  -- what the definition comes to, by what its checks and its batch come to
  met_lent : (n item : ℕ) → call_answer nos coords paths r.lines b start ≡ Refused n item → Met (Counted.Refused n item r) bs cs rs
  unfolding counted
  met_lent n item e = rw e

  pub met_line : call_answer nos coords paths r.lines b start ≡ Done → (u : St) (why : Refusal) → batch nos coords paths room r.lines b start ≡ refused u why
      → Met (Counted.Refused why.no why.line (running_of why.line u.made)) u.backs u.counts u.refs
  unfolding counted
  met_line ok u why e = rw (ok, e)

  met_done : call_answer nos coords paths r.lines b start ≡ Done → (u : St) → batch nos coords paths room r.lines b start ≡ done u
      → Met (Counted.Done (running_of b u.made)) u.backs u.counts u.refs
  unfolding counted
  met_done ok u e = rw (ok, e)

  pub call_passes : (call_answer nos coords paths r.lines b start ≡ Done) ↔ Passes (count_row r b nos coords bs cs rs) paths (length cs)
  unfolding call_answer
  call_passes = (
    (λ e. unless_done (first_no (count_row r b nos coords bs cs rs)) 0 (paths_answer paths (length cs)) e),
    (λ h. unless_fine (first_no (count_row r b nos coords bs cs rs)) 0 (paths_answer paths (length cs)) h.0 ∙ h.1),
  )

  module _ (x : Counted) (bs' : List ℤ) (cs' rs' : List ℕ) where
    why : Met x bs' cs' rs' → Way x bs' cs' rs'
    why p = go (call_answer nos coords paths r.lines b start) refl (batch nos coords paths room r.lines b start) refl
      where
        left : (u : St) → bs' ≡ u.backs → cs' ≡ u.counts → rs' ≡ u.refs → u ≡ st_of bs' cs' rs' u.made
        left u p q t = λ i. record { backs = sym p i; counts = sym q i; refs = sym t i; made = u.made }

        go : (v : Answer) → call_answer nos coords paths r.lines b start ≡ v → (o : Ran St Refusal) → batch nos coords paths room r.lines b start ≡ o → Way x bs' cs' rs'
        go (Refused n item) q o h =
            let e = one_count r b nos coords paths bs cs rs x (Counted.Refused n item r) bs' bs cs' cs rs' rs p (met_lent n item q) in
            lent_refused n item e.0 ((call_exact nos coords paths r.lines b start n item).0 q) e.1 e.2 e.3
        go Done q (refused u k) h =
            let e = one_count r b nos coords paths bs cs rs x (Counted.Refused k.no k.line (running_of k.line u.made)) bs' u.backs cs' u.counts rs' u.refs p (met_line q u k h) in
            let w = (batch_exact nos coords paths room r.lines b start u k).0 h in
            let s = left u e.1 e.2 e.3 in
            line_refused k.no k.line u.made e.0 (call_passes.0 q) w.from_a w.below_b (w.ran ∙ ap done s)
            ((line_exact nos coords paths room k.line (st_of bs' cs' rs' u.made) k.no).0
            (subst (λ (t : St). line_step nos coords paths room k.line k.line t ≡ halted k.no) s w.halts))
        go Done q (done u) h =
            let e = one_count r b nos coords paths bs cs rs x (Counted.Done (running_of b u.made)) bs' u.backs cs' u.counts rs' u.refs p (met_done q u h) in
            all_counted u.made e.0 (call_passes.0 q) (h ∙ ap done (left u e.1 e.2 e.3))

    back : Way x bs' cs' rs' → Met x bs' cs' rs'
    back (lent_refused n item ex w eb ec er) = rw (ex, eb, ec, er) (met_lent n item ((call_exact nos coords paths r.lines b start n item).1 w))
    back (line_refused n l m ex ok low high ran w) =
        let u : St = st_of bs' cs' rs' m in
        let k : Refusal = record { no = n; line = l } in
        rw ex
        (met_line (call_passes.1 ok) u k
        ((batch_exact nos coords paths room r.lines b start u k).1
        (record { from_a = low; below_b = high; ran = ran; halts = (line_exact nos coords paths room l u n).1 w })))
    back (all_counted m ex ok ran) = rw ex (met_done (call_passes.1 ok) (st_of bs' cs' rs' m) ran)

    -- Counting is exact
    pub count_exact : Met x bs' cs' rs' ↔ Way x bs' cs' rs'
    count_exact = (why, back)
