-- Exact at the call: a frame. Its promise is met where one of its ways holds, each told by its stages' ways, and nowhere else. Assumes nothing.
use mathlib.Core.Path.{◌≡◌, refl, sym, ap, subst, ◌∙◌}
use mathlib.Core.Logic.{◌↔◌, inl, inr}
use mathlib.Core.List.{List}
use Prim.Native.Nat.{ℕ, ◌/◌, ◌≤◌, ◌<◌}
use native.Mathlib.Omega.{arith}
use lib.ListN.{length, replicate}
use lib.IntN.{ℤ, pos}
use lib.Ieee.{Float}
use Rattle.panel.specs.Pieces.{Pieces}
use Rattle.lists.specs.Sums.{sum}
use Rattle.lists.specs.Tally.{zeros}
use Rattle.panel.specs.Refusals.{no_room_word}
use Rattle.panel.specs.Limits.{most_tiles}
use Rattle.panel.specs.Widths.{ref_words}
use Rattle.panel.specs.Kinds.{running_of}
use Rattle.panel.specs.Checks.{Check, first_no, unless}
use Rattle.panel.specs.Paths.{paths_answer}
use Rattle.panel.specs.declared.kinds.Running.{Running}
use Rattle.panel.specs.Answer.{Answer}
use Rattle.panel.specs.Verdict.{Verdict, Fine, Against}
use Rattle.panel.proofs.CheckLaws.{unless_fine, unless_done}
use Rattle.panel.proofs.PathLaws.{checked}
use Rattle.acts.specs.Acts.{st_of}
use Rattle.path_count.specs.Count.{CountMet}
use Rattle.path_count.specs.Counted.{Counted}
use Rattle.backdrop.specs.Backdrop as Backdrop
use Rattle.hand_out.specs.HandOut as HandOut
use Rattle.hand_out.specs.HandOut.{hand}
use Rattle.looks.specs.Look.{lent}
use Rattle.path_tiling.specs.Tiling.{Tiled, slots_of, tiled, tiled_of}
use Rattle.frame.specs.Frame.{out_of, answer_on, go_on, placed_of, drawn_of, checks_of, frame_of, FrameMet}
use Rattle.frame.specs.declared.kinds.Stage.TheVariants as Stage
use Rattle.frame.specs.Framed.{Framed}
use Rattle.frame.proofs.FrameLaws.{answer_on_lem}
use Rattle.theorems.specs.Refs.{AllCounted}
use Rattle.theorems.specs.Framing.{Counts, tiled_as, cleared, refusal, Way}
use Rattle.theorems.specs.Framing as Ends
use Rattle.theorems.proofs.SumLaws.{sums, through, start_of}
use Rattle.theorems.proofs.Exact.{row_exact, HandCase, hand_case}
use Rattle.theorems.proofs.Exact as Cases
use Rattle.theorems.proofs.ExactPaths.{paths_exact}
use Rattle.theorems.proofs.ExactRuns.{batch_exact}
use Rattle.theorems.proofs.Framing.{counts_long, row, paired, kept, call_ok, ways, one_frame}
use Rattle.call_theorems.specs.Ways.{FirstWhy, Passes, frame_row, FrameCounts, FrameWay, frame_refused, count_refused, slots_refused, frame_tiled, TileWay}
use Rattle.call_theorems.proofs.ExactCount.{met_line, count_exact}
use Rattle.call_theorems.proofs.ExactStages.{backdrop_call_exact}
use Rattle.call_theorems.proofs.ExactTile.{tile_call_exact}

module _ (nos : List ℕ) (coords : List Float) (paths : List ℕ) (backs : List ℤ) (stored tally refs : List ℕ) (pieces : Pieces) where
  abbrev checks_are : Answer
  checks_are = checks_of nos coords paths backs stored tally refs pieces

  abbrev first : List Check
  first = frame_row nos coords backs stored tally refs pieces

  -- the first checks
  checks_pass : (checks_are ≡ Answer.Done) ↔ Passes first paths (length stored)
  unfolding checks_of
  checks_pass = (
    (λ e. unless_done (first_no first) 0 (paths_answer paths (length stored)) e),
    (λ h. unless_fine (first_no first) 0 (paths_answer paths (length stored)) h.0 ∙ h.1),
  )

  checks_why : (n item : ℕ) → (checks_are ≡ Answer.Refused n item) ↔ FirstWhy first paths (length stored) n item
  unfolding checks_of
  checks_why n item = (why (first_no first) refl, halts)
    where
      why : (v : Verdict) → first_no first ≡ v → unless v 0 (paths_answer paths (length stored)) ≡ Answer.Refused n item → FirstWhy first paths (length stored) n item
      why Fine q e = inr (q, (paths_exact paths (length stored) n item).0 e)
      why (Against m) q e =
          let w : m ≡ n = cc in
          let z : 0 ≡ item = cc in
          inl ((row_exact n first).0 (q ∙ ap Against w), sym z)

      halts : FirstWhy first paths (length stored) n item → unless (first_no first) 0 (paths_answer paths (length stored)) ≡ Answer.Refused n item
      halts (inl h) = rw ((row_exact n first).1 h.0, h.1)
      halts (inr h) = rw h.0 ((paths_exact paths (length stored) n item).1 h.1)

  abbrev CountsTo : Counted → List ℤ → List ℕ → List ℕ → Type 0
  CountsTo x bs cs rs = CountMet (running_of 0 0) (length nos) nos coords paths (replicate (length stored) (pos 0)) (zeros (length stored)) refs x bs cs rs

  counts_exact : (x : Counted) (bs : List ℤ) (cs rs : List ℕ) → CountsTo x bs cs rs ↔ FrameCounts nos coords paths (length stored) refs x bs cs rs
  counts_exact x bs cs rs = count_exact (running_of 0 0) (length nos) nos coords paths (replicate (length stored) (pos 0)) (zeros (length stored)) refs x bs cs rs

  module _ (ok : checks_are ≡ Answer.Done) where
    -- once the checks pass, the frame is what is drawn
    is_drawn : drawn_of nos coords paths backs stored tally refs pieces ≡ frame_of nos coords paths backs stored tally refs pieces
    unfolding frame_of
    is_drawn = rw ok

    drawn_line : (n : ℕ) (s : Running) (bs : List ℤ) (cs rs : List ℕ) → CountsTo (Counted.Refused n s.lines s) bs cs rs
        → out_of (Framed.Refused Stage.Count n s.lines s) bs cs tally rs pieces ≡ drawn_of nos coords paths backs stored tally refs pieces
    unfolding drawn_of
    drawn_line n s bs cs rs m = rw (paired nos coords paths backs stored tally refs pieces ok, ← m)

    drawn_placed : (s : Running) (marks : List ℤ) (cs rs : List ℕ) → CountsTo (Counted.Done s) marks cs rs
        → placed_of s nos coords paths marks cs tally rs pieces ≡ drawn_of nos coords paths backs stored tally refs pieces
    unfolding drawn_of
    drawn_placed s marks cs rs m = rw (paired nos coords paths backs stored tally refs pieces ok, ← m)

    -- all lines counted: their counts are as many as the tally's words, and sum to the references
    module _ (s : Running) (marks : List ℤ) (cs rs : List ℕ) (m : CountsTo (Counted.Done s) marks cs rs) where
      counted_all : AllCounted (length nos) nos coords paths (length stored) refs marks cs rs s.refs
      counted_all =
          let w = through 0 (length nos) s.lines nos coords paths (start_of (length stored) refs) (st_of marks cs rs s.refs) (sym m) in
          rw w.1 at (sym m)

      total : sum cs ≡ s.refs
      total = (sums (length nos) nos coords paths (length stored) refs marks cs rs s.refs counted_all).total

      long : length cs ≡ length tally
      long = counts_long (length nos) nos coords paths (length stored) refs marks cs rs s.refs counted_all ∙ kept nos coords paths backs stored tally refs pieces ok

      few : length cs ≤ most_tiles
      few =
          omega (
            arith,
            counts_long (length nos) nos coords paths (length stored) refs marks cs rs s.refs counted_all,
            (checked paths (length stored) (row nos coords paths backs stored tally refs pieces ok).1).tiled,
          )

      hand_over : slots_of (length pieces.segments) < s.refs → HandOut.hand_out_of (slots_of (length pieces.segments)) cs tally ≡ HandOut.out_of (Answer.Refused no_room_word 0) cs tally
      hand_over h = go (hand_case (slots_of (length pieces.segments)) cs tally)
        where
          go : HandCase (slots_of (length pieces.segments)) cs tally → HandOut.hand_out_of (slots_of (length pieces.segments)) cs tally ≡ HandOut.out_of (Answer.Refused no_room_word 0) cs tally
          go (Cases.unpaired a e) = absurd (a long)
          go (Cases.many a b e) = absurd (omega (arith, few))
          go (Cases.over a b c e) = e
          go (Cases.fine a b c e) = absurd (omega (arith, total))

      hand_fine : s.refs ≤ slots_of (length pieces.segments) → HandOut.hand_out_of (slots_of (length pieces.segments)) cs tally ≡ HandOut.out_of Answer.Done (hand 0 cs) cs
      hand_fine h = go (hand_case (slots_of (length pieces.segments)) cs tally)
        where
          go : HandCase (slots_of (length pieces.segments)) cs tally → HandOut.hand_out_of (slots_of (length pieces.segments)) cs tally ≡ HandOut.out_of Answer.Done (hand 0 cs) cs
          go (Cases.unpaired a e) = absurd (a long)
          go (Cases.many a b e) = absurd (omega (arith, few))
          go (Cases.over a b c e) = absurd (omega (arith, total))
          go (Cases.fine a b c e) = e

      placed_slots : (bs : List ℤ) → Backdrop.backdrop_of paths marks ≡ Backdrop.out_of Answer.Done bs → slots_of (length pieces.segments) < s.refs
          → out_of (Framed.Refused Stage.HandOut no_room_word 0 s) bs cs tally rs pieces ≡ placed_of s nos coords paths marks cs tally rs pieces
      unfolding placed_of
      placed_slots bs e h = rw (e, hand_over h)

      ends_so : (a : Answer) (bs : List ℤ) (sg : Pieces)
          → out_of (tiled_as a s) bs (hand 0 cs) cs rs sg ≡ go_on a Stage.Tile s (λ f. out_of f bs (hand 0 cs) cs rs sg) (out_of (Framed.Done s) bs (hand 0 cs) cs rs sg)
      ends_so Answer.Done bs sg = refl
      ends_so (Answer.Refused n k) bs sg = refl

      at_tiling : (a : Answer) (bs : List ℤ) (sg : Pieces) (t : Tiled) → t ≡ tiled a sg
          → out_of (tiled_as a s) bs (hand 0 cs) cs rs sg
          ≡ go_on (answer_on t.paper) Stage.Tile s (λ f. out_of f bs (hand 0 cs) cs rs t.pieces) (out_of (Framed.Done s) bs (hand 0 cs) cs rs t.pieces)
      at_tiling a bs sg t e = rw (e, answer_on_lem a) (ends_so a bs sg)

      placed_tiled : (a : Answer) (bs : List ℤ) (sg : Pieces) → Backdrop.backdrop_of paths marks ≡ Backdrop.out_of Answer.Done bs → s.refs ≤ slots_of (length pieces.segments)
          → tiled_of 0 s.refs (lent nos coords paths (hand 0 cs) rs) pieces ≡ tiled a sg
          → out_of (tiled_as a s) bs (hand 0 cs) cs rs sg ≡ placed_of s nos coords paths marks cs tally rs pieces
      unfolding placed_of
      placed_tiled a bs sg e h t = rw (e, hand_fine h) (at_tiling a bs sg (tiled_of 0 s.refs (lent nos coords paths (hand 0 cs) rs) pieces) t)

  module _ (x : Framed) (bs : List ℤ) (ts ks rs : List ℕ) (sg : Pieces) where
    abbrev Met : Framed → List ℤ → List ℕ → List ℕ → List ℕ → Pieces → Type 0
    Met f a b c d e = FrameMet nos coords paths backs stored tally refs pieces f a b c d e

    abbrev Ended : Type 0
    Ended = FrameWay nos coords paths backs stored tally refs pieces x bs ts ks rs sg

    told : (n item : ℕ) → checks_are ≡ Answer.Refused n item → Met (Framed.Refused Stage.Lent n item (running_of 0 0)) backs stored tally refs pieces
    unfolding frame_of
    told n item e = rw e

    why : Met x bs ts ks rs sg → Ended
    why p = go (ways nos coords paths backs stored tally refs pieces)
      where
        counts_to : (s : Running) (bs' : List ℤ) (cs rs' : List ℕ) → (c : Counts nos coords paths (length stored) refs s bs' cs rs') → CountsTo (Counted.Done s) c.marks cs rs'
        counts_to s bs' cs rs' c =
            let z : running_of (length nos) s.refs ≡ s = λ i. record { lines = sym c.lines i; refs = s.refs } in
            subst (λ (u : Running). CountsTo (Counted.Done u) c.marks cs rs') z (sym c.all)

        go : Way nos coords paths backs stored tally refs pieces (frame_of nos coords paths backs stored tally refs pieces) → Ended
        go (Ends.lent_refused n item q o) =
            let e = one_frame nos coords paths backs stored tally refs pieces x (Framed.Refused Stage.Lent n item (running_of 0 0)) bs backs ts stored ks tally rs refs sg pieces p (sym o) in
            frame_refused n item e.0 ((checks_why n item).0 q) e.1 e.2 e.3 e.4 e.5
        go (Ends.line_refused n s bs' cs rs' ok w o) =
            let e = one_frame nos coords paths backs stored tally refs pieces x (Framed.Refused Stage.Count n s.lines s) bs bs' ts cs ks tally rs rs' sg pieces p (sym o) in
            let u = st_of bs' cs rs' s.refs in
            let m : CountsTo (Counted.Refused n s.lines s) bs' cs rs' =
            met_line (running_of 0 0) (length nos) nos coords paths (replicate (length stored) (pos 0)) (zeros (length stored)) refs
            (call_ok nos coords paths backs stored tally refs pieces ok) u (refusal n s.lines)
            ((batch_exact nos coords paths (length refs / ref_words) 0 (length nos) (cleared (length stored) refs) u (refusal n s.lines)).1 w) in
            count_refused n s e.0 (checks_pass.0 ok)
            (rw (e.1, e.2, e.4) ((counts_exact (Counted.Refused n s.lines s) bs' cs rs').0 m))
            e.3 e.5
        go (Ends.slots_refused s bs' cs rs' ok c h o) =
            let e = one_frame nos coords paths backs stored tally refs pieces x (Framed.Refused Stage.HandOut no_room_word 0 s) bs bs' ts cs ks tally rs rs' sg pieces p (sym o) in
            slots_refused s c.marks e.0 (checks_pass.0 ok)
            (rw (e.2, e.4) ((counts_exact (Counted.Done s) c.marks cs rs').0 (counts_to s bs' cs rs' c)))
            (rw e.1 ((backdrop_call_exact paths c.marks Answer.Done bs').0 (sym c.sums))) h e.3 e.5
        go (Ends.tiled_out a s bs' cs rs' sg' ok c h t o) =
            let e = one_frame nos coords paths backs stored tally refs pieces x (tiled_as a s) bs bs' ts (hand 0 cs) ks cs rs rs' sg sg' p (sym o) in
            frame_tiled a s c.marks e.0 (checks_pass.0 ok)
            (rw (e.3, e.4) ((counts_exact (Counted.Done s) c.marks cs rs').0 (counts_to s bs' cs rs' c)))
            (rw e.1 ((backdrop_call_exact paths c.marks Answer.Done bs').0 (sym c.sums))) h (rw e.3 e.2)
            (rw (e.2, e.4, e.5) ((tile_call_exact 0 s.refs (lent nos coords paths (hand 0 cs) rs') pieces a sg').0 (sym t)))

    back : Ended → Met x bs ts ks rs sg
    back (frame_refused n item ex w eb et ek er es) = rw (ex, eb, et, ek, er, es) (told n item ((checks_why n item).1 w))
    back (count_refused n s ex pass c ek es) =
        let ok = checks_pass.1 pass in
        let m = (counts_exact (Counted.Refused n s.lines s) bs ts rs).1 c in
        rw (ex, ek, es) (drawn_line ok n s bs ts rs m ∙ is_drawn ok)
    back (slots_refused s marks ex pass c b h ek es) =
        let ok = checks_pass.1 pass in
        let m = (counts_exact (Counted.Done s) marks ts rs).1 c in
        rw (ex, ek, es)
        (placed_slots ok s marks ts rs m bs (sym ((backdrop_call_exact paths marks Answer.Done bs).1 b)) h ∙ drawn_placed ok s marks ts rs m ∙ is_drawn ok)
    back (frame_tiled a s marks ex pass c b h et t) =
        let ok = checks_pass.1 pass in
        let m = (counts_exact (Counted.Done s) marks ks rs).1 c in
        let t' : TileWay 0 s.refs (lent nos coords paths (hand 0 ks) rs) pieces a sg = rw et at t in
        rw (ex, et)
        (placed_tiled ok s marks ks rs m a bs sg (sym ((backdrop_call_exact paths marks Answer.Done bs).1 b)) h
        (sym ((tile_call_exact 0 s.refs (lent nos coords paths (hand 0 ks) rs) pieces a sg).1 t'))
        ∙ drawn_placed ok s marks ks rs m ∙ is_drawn ok)

    -- A frame is exact
    pub frame_call_exact : Met x bs ts ks rs sg ↔ Ended
    frame_call_exact = (why, back)
