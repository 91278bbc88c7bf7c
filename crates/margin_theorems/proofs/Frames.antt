-- A frame of lines that pass 5, 6 and 7, in boxes with a margin: it is drawn, or refused for want of room, or with 12 in tiling, and for nothing else.
-- Assumes nothing.
--     frame_fit     what such a frame answers
--     frame_drawn   with room for all steps, in references and in segments: 0, or 12 in tiling
use mathlib.Core.Path.{◌≡◌, sym, ap, ◌∙◌}
use mathlib.Core.Logic.{◌⊎◌, inl, inr}
use mathlib.Core.List.{List}
use Prim.Native.Nat.{ℕ, ◌≤◌, ◌<◌}
use native.Mathlib.Omega.{arith}
use lib.ListN.{length}
use lib.IntN.{ℤ}
use lib.Ieee.{Float}
use Rattle.panel.specs.Pieces.{Pieces}
use Rattle.panel.specs.Refusals.{no_room_word, crooked}
use Rattle.panel.specs.declared.kinds.Running.{Running}
use Rattle.panel.specs.Answer as Answer
use Rattle.acts.specs.Acts.{st_of}
use Rattle.path_count.specs.Count.{call_answer}
use Rattle.hand_out.specs.HandOut.{hand}
use Rattle.path_tiling.specs.Tiling.{slots_of}
use Rattle.frame.specs.Frame.{out_of, checks_of, frame_of}
use Rattle.frame.specs.declared.kinds.Stage.TheVariants as Stage
use Rattle.frame.specs.Framed.{Framed, Done, Refused}
use Rattle.theorems.specs.Promises.{FrameMet}
use Rattle.theorems.specs.Framing.{Way, lent_refused, line_refused, slots_refused, tiled_out}
use Rattle.theorems.proofs.Exact.{no_clash}
use Rattle.theorems.proofs.SumLaws.{start_of}
use Rattle.theorems.proofs.Framing.{call_ok, ways, one_frame}
use Rattle.theorems.proofs.FrameNumbers.{frame_crooked}
use Rattle.margin_theorems.specs.Fit.{Fit, steps_of, room_of, FitFrame, drawn, no_references, no_segments, crooked_piece}
use Rattle.margin_theorems.proofs.Few.{made_most, steps_part}
use Rattle.margin_theorems.proofs.Counts.{paths_ok, part, line_room}

module _ (nos : List ℕ) (coords : List Float) (paths : List ℕ) (backs : List ℤ) (stored tally refs : List ℕ) (pieces : Pieces)
    (ok : checks_of nos coords paths backs stored tally refs pieces ≡ Answer.Done) (fit : (l : ℕ) → l < length nos → Fit nos coords paths l)
    (r : Framed) (bs : List ℤ) (ts ks rs : List ℕ) (sg : Pieces) (met : FrameMet nos coords paths backs stored tally refs pieces r bs ts ks rs sg) where
  -- the answer is that of the frame's way
  is : (x : Framed) (bs' : List ℤ) (ts' ks' rs' : List ℕ) (sg' : Pieces) → frame_of nos coords paths backs stored tally refs pieces ≡ out_of x bs' ts' ks' rs' sg' → r ≡ x
  is x bs' ts' ks' rs' sg' e = (one_frame nos coords paths backs stored tally refs pieces r x bs bs' ts ts' ks ks' rs rs' sg sg' met (sym e)).0

  -- 0; or 9, where the room for references or for segments ends; or 12
  pub frame_fit : FitFrame nos coords paths (length stored) refs pieces r
  frame_fit = go (ways nos coords paths backs stored tally refs pieces)
    where
      called : call_answer nos coords paths 0 (length nos) (start_of (length stored) refs) ≡ Answer.Done
      called = call_ok nos coords paths backs stored tally refs pieces ok

      go : Way nos coords paths backs stored tally refs pieces (frame_of nos coords paths backs stored tally refs pieces) → FitFrame nos coords paths (length stored) refs pieces r
      go (lent_refused m i q o) = let e : Answer.Done ≡ Answer.Refused m i = sym ok ∙ q in no_clash cc
      go (line_refused m s bs' cs rs' q t o) =
          let u = st_of bs' cs rs' s.refs in
          let p = part (length nos) nos coords paths (length stored) refs called s.lines (omega (arith, t.below_b)) u t.ran in
          let w =
          line_room nos coords paths (length stored) (paths_ok (length nos) nos coords paths (length stored) refs called) refs s.lines u p (fit s.lines t.below_b) m t.halts in
          no_references s bs' cs rs' t.below_b p w.1
          (is (Refused Stage.Count m s.lines s) bs' cs tally rs' pieces o ∙ ap (λ (k : ℕ). Refused Stage.Count k s.lines s) w.0)
      go (slots_refused s bs' cs rs' q c h o) = no_segments s c.marks cs rs' c.all h (is (Refused Stage.HandOut no_room_word 0 s) bs' cs tally rs' pieces o)
      go (tiled_out Answer.Done s bs' cs rs' sg' q c h t o) = drawn s c.lines (is (Done s) bs' (hand 0 cs) cs rs' sg' o)
      go (tiled_out (Answer.Refused why k) s bs' cs rs' sg' q c h t o) =
          let f = frame_crooked nos coords paths backs stored tally refs pieces bs' (hand 0 cs) cs rs' sg' s why k o in
          crooked_piece k s c.lines (omega (arith, f.1.high))
          (is (Refused Stage.Tile why k s) bs' (hand 0 cs) cs rs' sg' o ∙ ap (λ (n : ℕ). Refused Stage.Tile n k s) f.0)

  -- with room for all steps, in references and in segments
  pub frame_drawn : steps_of nos coords paths (length nos) ≤ room_of refs → steps_of nos coords paths (length nos) ≤ slots_of (length pieces.segments)
      → (s : Running) × (s.lines ≡ length nos) × ((r ≡ Done s) ⊎ ((k : ℕ) × (r ≡ Refused Stage.Tile crooked k s)))
  frame_drawn a b = go frame_fit
    where
      go : FitFrame nos coords paths (length stored) refs pieces r → (s : Running) × (s.lines ≡ length nos) × ((r ≡ Done s) ⊎ ((k : ℕ) × (r ≡ Refused Stage.Tile crooked k s)))
      go (drawn s e q) = (s, e, inl q)
      go (no_references s bs' cs rs' h p f q) =
          absurd (omega (arith, made_most s.lines nos coords paths (length stored) refs bs' cs rs' s.refs p, steps_part nos coords paths s.lines (length nos) h))
      go (no_segments s bs' cs rs' p f q) = absurd (omega (arith, made_most (length nos) nos coords paths (length stored) refs bs' cs rs' s.refs p))
      go (crooked_piece k s e h q) = (s, e, inr (k, q))
