-- A frame by what its stages answer, one law for each way that it can end. Assumes nothing.
use mathlib.Core.Path.{◌≡◌, refl, sym, ap, ◌∙◌}
use mathlib.Core.List.{List}
use Prim.Native.Nat.{ℕ, ◌+◌, min}
use lib.ListN.{length, replicate}
use lib.IntN.{ℤ, pos}
use lib.Ieee.{Float}
use Rattle.panel.specs.Limits.{most_lines}
use Rattle.panel.specs.Kinds as Kinds
use Rattle.panel.specs.Kinds.{running_of}
use Rattle.panel.specs.Checks.{first_no}
use Rattle.panel.specs.Paths.{paths_answer}
use Rattle.panel.specs.Pieces.{Pieces}
use Rattle.panel.specs.declared.kinds.Running.{Running}
use Rattle.panel.specs.Verdict.{Verdict}
use Rattle.panel.specs.Verdict.{Fine, Against}
use Rattle.panel.specs.Answer.{Answer}
use Rattle.panel.proofs.CheckLaws.{unless_no, unless_fine}
use Rattle.acts.specs.Acts.{st_of}
use Rattle.path_count.specs.Count as Count
use Rattle.path_count.specs.Counted.{Counted}
use Rattle.backdrop.specs.Backdrop as Backdrop
use Rattle.hand_out.specs.HandOut as HandOut
use Rattle.looks.specs.Look.{lent}
use Rattle.path_tiling.specs.Tiling.{Tiled, tiled, slots_of, tiled_of}
use Rattle.frame.specs.Frame.{Out, out_of, answer_on, counted_on, placed_of, drawn_of, lent_checks, checks_of, frame_of}
use Rattle.frame.specs.Framed.{Done, Refused}
use Rattle.frame.specs.declared.kinds.Stage.TheVariants as Stage
use Rattle.frame.proofs.AllLines.{all_lines}

-- ---- a stage's answer is on its paper

pub answer_on_lem : (a : Answer) → answer_on (Kinds.paper_of a) ≡ a
answer_on_lem Answer.Done = refl
answer_on_lem (Answer.Refused n item) = refl

pub counted_on_lem : (c : Counted) → counted_on (Count.paper_of c) ≡ c
counted_on_lem (Counted.Done s) = refl
counted_on_lem (Counted.Refused n item s) = refl

-- ---- after counting

module _ (s : Running) (nos : List ℕ) (coords : List Float) (paths : List ℕ) (backs : List ℤ) (stored tally refs : List ℕ) (p : Pieces)
    (a : Answer) (bs : List ℤ) (ea : Backdrop.out_of a bs ≡ Backdrop.backdrop_of paths backs) where
  pub summed_no : (n item : ℕ) → a ≡ Answer.Refused n item
      → out_of (Refused Stage.Backdrop n item s) bs stored tally refs p ≡ placed_of s nos coords paths backs stored tally refs p
  unfolding placed_of
  summed_no n item e = rw (← ea, e)

  module _ (fa : a ≡ Answer.Done) (room : ℕ) (er : room ≡ slots_of (length p.segments)) (h : Answer) (ts ks : List ℕ)
      (eh : HandOut.out_of h ts ks ≡ HandOut.hand_out_of room stored tally) where
    pub handed_no : (n item : ℕ) → h ≡ Answer.Refused n item
        → out_of (Refused Stage.HandOut n item s) bs ts ks refs p ≡ placed_of s nos coords paths backs stored tally refs p
    unfolding placed_of
    handed_no n item e = rw (← ea, fa, ← er, ← eh, e)

    module _ (fh : h ≡ Answer.Done) (t : Answer) (q : Pieces) (et : tiled t q ≡ tiled_of 0 s.refs (lent nos coords paths ts refs) p) where
      on_paper : Kinds.paper_of t ≡ (tiled_of 0 s.refs (lent nos coords paths ts refs) p).paper
      on_paper = ap (λ (o : Tiled). o.paper) et

      left : q ≡ (tiled_of 0 s.refs (lent nos coords paths ts refs) p).pieces
      left = ap (λ (o : Tiled). o.pieces) et

      pub tiled_no : (n item : ℕ) → t ≡ Answer.Refused n item
          → out_of (Refused Stage.Tile n item s) bs ts ks refs q ≡ placed_of s nos coords paths backs stored tally refs p
      unfolding placed_of
      tiled_no n item e = rw (← ea, fa, ← er, ← eh, fh, ← on_paper, ← left, e)

      pub all_done : t ≡ Answer.Done → out_of (Done s) bs ts ks refs q ≡ placed_of s nos coords paths backs stored tally refs p
      unfolding placed_of
      all_done e = rw (← ea, fa, ← er, ← eh, fh, ← on_paper, ← left, e)

-- ---- counting

module _ (nos : List ℕ) (coords : List Float) (paths : List ℕ) (backs : List ℤ) (stored tally refs : List ℕ) (p : Pieces) where
  -- from cleared tiles up to the end that the code names
  module _ (bs₀ : List ℤ) (cs₀ : List ℕ) (end : ℕ) (eb : bs₀ ≡ replicate (length backs) (pos 0)) (ec : cs₀ ≡ replicate (length stored) 0)
      (ee : end ≡ min (length nos) (most_lines + 1)) (c : Counted) (bs : List ℤ) (cs rs : List ℕ)
      (e : Count.told_of (Count.paper_of c) (st_of bs cs rs (Count.made_of c)) ≡ Count.counted (running_of 0 0) end nos coords paths bs₀ cs₀ refs) where
    told : Count.counted (running_of 0 0) (length nos) nos coords paths (replicate (length backs) (pos 0)) (replicate (length stored) 0) refs
        ≡ Count.told_of (Count.paper_of c) (st_of bs cs rs (Count.made_of c))
    told = sym (rw (eb, ec, ee) at e ∙ all_lines nos coords paths (replicate (length backs) (pos 0)) (replicate (length stored) 0) refs)

    pub drawn_no : (n item : ℕ) (s : Running) → c ≡ Counted.Refused n item s
        → out_of (Refused Stage.Count n item s) bs cs tally rs p ≡ drawn_of nos coords paths backs stored tally refs p
    unfolding drawn_of
    drawn_no n item s q = rw (told, q)

    pub drawn_on : (s : Running) (o : Out) → c ≡ Counted.Done s → o ≡ placed_of s nos coords paths bs cs tally rs p
        → o ≡ drawn_of nos coords paths backs stored tally refs p
    unfolding drawn_of
    drawn_on s o q e = rw (told, q) e

  -- ---- the call

  module _ (v : Verdict) (ev : v ≡ first_no (lent_checks (length nos) (length coords) (length backs) (length stored) (length tally) (length refs)
      (length p.segments) (length p.tags))) where
    lent_no_lem : (n : ℕ) → v ≡ Against n → checks_of nos coords paths backs stored tally refs p ≡ Answer.Refused n 0
    unfolding checks_of
    lent_no_lem n e = unless_no _ n 0 _ (sym ev ∙ e)

    lent_fine : v ≡ Fine → checks_of nos coords paths backs stored tally refs p ≡ paths_answer paths (length stored)
    unfolding checks_of
    lent_fine e = unless_fine _ 0 _ (sym ev ∙ e)

    pub frame_no : (n : ℕ) → v ≡ Against n
        → out_of (Refused Stage.Lent n 0 (running_of 0 0)) backs stored tally refs p ≡ frame_of nos coords paths backs stored tally refs p
    unfolding frame_of
    frame_no n e = rw (lent_no_lem n e)

    module _ (f : v ≡ Fine) (a : Answer) (ea : a ≡ paths_answer paths (length stored)) where
      pub frame_path : (n item : ℕ) → a ≡ Answer.Refused n item
          → out_of (Refused Stage.Lent n item (running_of 0 0)) backs stored tally refs p ≡ frame_of nos coords paths backs stored tally refs p
      unfolding frame_of
      frame_path n item e = rw (lent_fine f ∙ sym ea ∙ e)

      pub frame_goes : (o : Out) → a ≡ Answer.Done → o ≡ drawn_of nos coords paths backs stored tally refs p
          → o ≡ frame_of nos coords paths backs stored tally refs p
      unfolding frame_of
      frame_goes o e q = rw (lent_fine f ∙ sym ea ∙ e) q
