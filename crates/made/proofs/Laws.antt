-- A step of a clipped walk, by the code's tests. Assumes nothing.
use mathlib.Core.Path.{◌≡◌, refl, ap, subst, ◌∙◌}
use mathlib.Core.List.{List}
use Prim.Native.Nat.{ℕ, ◌-◌, ◌≤◌, ◌<◌}
use lib.ListN.{length}
use lib.Ieee.{Float}
use borrow.Author.Tests.{le-leb, lt-leb, lt-ltb, le-ltb}
use Rattle.panel.specs.Paths.{paths_answer}
use Rattle.panel.specs.declared.kinds.Path.{Path}
use Rattle.panel.specs.Answer.{Done}
use Rattle.walk.specs.Step.{step_of}
use Rattle.walk.specs.Lent.{walk_at}
use Rattle.walk.specs.declared.kinds.Pace.{Pace}
use Rattle.walk.specs.declared.kinds.Walk.{Walk}
use Rattle.walk.specs.Stepped.{Step}
use Rattle.walk.specs.Stepped.{Tile, Refused as StepRefused}
use Rattle.walk.specs.Walked.{Walked}
use Rattle.walk.specs.Walked.{Refused, Skipped, Line}
use Rattle.clip.specs.Page.{clipped_of}
use Rattle.clip.specs.declared.Clip.{Clip}
use Rattle.hits.specs.Steps.{hit_of, hit_at}
use Rattle.walked_lines.specs.Line.{plan_of, Lent}
use Rattle.walked_lines.proofs.Lines.{on_tiles, walkable, starts}
use Rattle.made.specs.Made.{hit_made, plan_made, walk_made, made_of, step_made, WalkFits}
use Rattle.made.specs.MadeAt.{Made}
use Rattle.made.specs.MadeAt.{Not}

-- a step's hit and its tile tell the same
step_hit : (w : Pace) (b : Path) (i n : ℕ) → step_made n (step_of w b i) ≡ hit_made n (hit_at w b i)
unfolding hit_at
step_hit w b i n = go (step_of w b i)
  where
    go : (s : Step) → step_made n s ≡ hit_made n (hit_of w b i s)
    go (Tile t x y z) = refl
    go StepRefused = refl

module _ (w : Walk) (b : Path) (c : Clip) (e : c ≡ clipped_of w b) (i : ℕ) where
  pub made_low : i < c.imin → Not ≡ plan_made (plan_of w b) i
  unfolding plan_made plan_of
  made_low h = let k : i < (clipped_of w b).imin = subst (λ (x : Clip). i < x.imin) e h in rw (lt-leb (clipped_of w b).imin i k)

  pub made_high : c.imin ≤ i → c.imax ≤ i → Not ≡ plan_made (plan_of w b) i
  unfolding plan_made plan_of
  made_high l h =
      let k : (clipped_of w b).imin ≤ i = subst (λ (x : Clip). x.imin ≤ i) e l in
      let m : (clipped_of w b).imax ≤ i = subst (λ (x : Clip). x.imax ≤ i) e h in
      rw (le-leb (clipped_of w b).imin i k, le-ltb i (clipped_of w b).imax m)

  pub made_in : c.imin ≤ i → i < c.imax → (s : Step) → s ≡ step_of w.pace b i → (r : Made) → r ≡ step_made (i - c.imin) s → r ≡ plan_made (plan_of w b) i
  unfolding plan_made plan_of
  made_in l h s f r g =
      let k : (clipped_of w b).imin ≤ i = subst (λ (x : Clip). x.imin ≤ i) e l in
      let m : i < (clipped_of w b).imax = subst (λ (x : Clip). i < x.imax) e h in
      rw (le-leb (clipped_of w b).imin i k, lt-ltb i (clipped_of w b).imax m)
      (g ∙ ap (step_made (i - c.imin)) f ∙ step_hit w.pace b i (i - c.imin) ∙ ap (λ (x : Clip). hit_made (i - x.imin) (hit_at w.pace b i)) e)

-- a line of those lent, over paths that are checked
pub walk_fits : (nos : List ℕ) (coords : List Float) (paths : List ℕ) (l tiles : ℕ) → paths_answer paths tiles ≡ Done → WalkFits (walk_at nos coords paths l)
walk_fits nos coords paths l tiles p = go (walk_at nos coords paths l) refl
  where
    lent : Lent paths tiles tiles
    lent = record { paired = refl; passed = p }

    go : (f : Walked) → walk_at nos coords paths l ≡ f → WalkFits f
    go (Refused n) e = tt
    go Skipped e = tt
    go (Line w b) e = (
      (on_tiles nos coords paths l w b e tiles tiles lent).boxed,
      starts w b (walkable nos coords paths l w b e tiles tiles lent),
    )

module _ (nos : List ℕ) (coords : List Float) (paths : List ℕ) (l i : ℕ) where
  pub made_there : l < length nos → (f : Walked) → f ≡ walk_at nos coords paths l → (r : Made) → r ≡ walk_made f i → r ≡ made_of nos coords paths l i
  unfolding made_of
  made_there h f e r g = rw (lt-ltb l (length nos) h) (g ∙ ap (λ (x : Walked). walk_made x i) e)

  pub made_none : length nos ≤ l → Not ≡ made_of nos coords paths l i
  unfolding made_of
  made_none h = rw (le-ltb l (length nos) h)
