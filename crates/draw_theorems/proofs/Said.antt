-- A frame's paper is that of an answer. Assumes nothing.
use mathlib.Core.Path.{◌≡◌, refl}
use mathlib.Core.List.{List}
use Prim.Native.Nat.{ℕ}
use lib.ListN.{length, replicate}
use lib.IntN.{ℤ, pos}
use lib.Ieee.{Float}
use Rattle.panel.specs.Kinds.{running_of}
use Rattle.panel.specs.Pieces.{Pieces}
use Rattle.panel.specs.declared.kinds.Running.{Running}
use Rattle.panel.specs.Answer.{Answer}
use Rattle.path_count.specs.Count.{counted}
use Rattle.path_count.specs.Counted.{Counted}
use Rattle.backdrop.specs.Backdrop as Backdrop
use Rattle.hand_out.specs.HandOut as HandOut
use Rattle.looks.specs.Look.{lent}
use Rattle.path_tiling.specs.Tiling.{slots_of, tiled_of}
use Rattle.frame.specs.Frame.{Out, out_of, paper_of, answer_on, counted_on, go_on, go_on_counted, placed_of, drawn_of, checks_of, frame_of}
use Rattle.frame.specs.declared.kinds.Stage.{Stage}
use Rattle.frame.specs.Framed.{Framed, Done, Refused}

abbrev pub Said : Out → Type 0
Said o = (f : Framed) × (o.paper ≡ paper_of f)

goes_on : (a : Answer) (at : Stage) (s : Running) (ends : Framed → Out) (next : Out) → ((f : Framed) → (ends f).paper ≡ paper_of f) → Said next
    → Said (go_on a at s ends next)
goes_on Answer.Done at s ends next h k = k
goes_on (Answer.Refused n item) at s ends next h k = (Refused at n item s, h (Refused at n item s))

counted_on_lem : (c : Counted) (ends : Framed → Out) (next : Running → Out) → ((f : Framed) → (ends f).paper ≡ paper_of f) → ((s : Running) → Said (next s))
    → Said (go_on_counted c ends next)
counted_on_lem (Counted.Done s) ends next h k = k s
counted_on_lem (Counted.Refused n item s) ends next h k = (Refused Stage.Count n item s, h (Refused Stage.Count n item s))

module _ (nos : List ℕ) (coords : List Float) (paths : List ℕ) (backs : List ℤ) (stored tally refs : List ℕ) (p : Pieces) where
  placed_said : (s : Running) (bs : List ℤ) (cs rs : List ℕ) → Said (placed_of s nos coords paths bs cs tally rs p)
  unfolding placed_of
  placed_said s bs cs rs =
      let b = Backdrop.backdrop_of paths bs in
      let h = HandOut.hand_out_of (slots_of (length p.segments)) cs tally in
      let t = tiled_of 0 s.refs (lent nos coords paths h.stored rs) p in
      goes_on (answer_on b.paper) Stage.Backdrop s (λ f. out_of f b.backs cs tally rs p) _ (λ f. refl)
      (goes_on (answer_on h.paper) Stage.HandOut s (λ f. out_of f b.backs h.stored h.tally rs p) _ (λ f. refl)
      (goes_on (answer_on t.paper) Stage.Tile s (λ f. out_of f b.backs h.stored h.tally rs t.pieces) _ (λ f. refl) (Done s, refl)))

  drawn_said : Said (drawn_of nos coords paths backs stored tally refs p)
  unfolding drawn_of
  drawn_said =
      let c = counted (running_of 0 0) (length nos) nos coords paths (replicate (length backs) (pos 0)) (replicate (length stored) 0) refs in
      counted_on_lem (counted_on c.paper) (λ f. out_of f c.backs c.counts tally c.refs p) _ (λ f. refl) (λ s. placed_said s c.backs c.counts c.refs)

  pub frame_said : Said (frame_of nos coords paths backs stored tally refs p)
  unfolding frame_of
  frame_said =
      goes_on (checks_of nos coords paths backs stored tally refs p) Stage.Lent (running_of 0 0) (λ f. out_of f backs stored tally refs p) _ (λ f. refl) drawn_said
