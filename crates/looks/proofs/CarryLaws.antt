-- What is carried from one reference of a line to the next, and a step by it. Assumes nothing.
--     line_carries, line_zs, line_at_lem     of a line that is walked
--     z_is                       the z of a step's z's
--     none_carries               nothing is carried to the first reference
--     has_carries                a reference's z's may be carried on
--     step_by                    a step by its z's is the step
use Prim.Native.Nat.{ℕ, ◌<◌}
use mathlib.Core.Path.{◌≡◌, refl, sym, ap, subst, ◌∙◌}
use mathlib.Core.List.{List}
use lib.ListN.{get_or}
use Rattle.util.specs.declared.Vec2.{Vec2}
use Rattle.panel.specs.Widths.{step_range}
use Rattle.panel.specs.declared.kinds.Path.{Path}
use Rattle.walk.specs.Step.{Boxed, step_of}
use Rattle.carry.specs.Carry.{zs_of, no_zs, Carried}
use Rattle.carry.specs.declared.Zs.{Zs}
use Rattle.walk.specs.declared.kinds.Pace.{Pace}
use Rattle.walk.specs.declared.kinds.Walk.{Walk}
use Rattle.walk.specs.Walked.{Walked}
use Rattle.walk.specs.Walked.{Refused, Skipped, Line}
use Rattle.walk.specs.Stepped.{Step}
use Rattle.walk.specs.Stepped as On
use Rattle.walk.proofs.Walks.{StartsAt}
use Rattle.carry.proofs.CarryLaws.{none_carried, own_carried}
use Rattle.segment.specs.By.{corner_at, piece_by}
use Rattle.segment.proofs.By.{piece_is}
use Rattle.looks.specs.Look.{word_to, step_to}
use Rattle.looks.specs.Carry.{step_by_word, Carries, HasZs}

pub line_carries : {s : Zs} {f : Walked} {w : Walk} {p : Path} → f ≡ Line w p → Carries s f → Carried w.pace s
line_carries e h = rw e at h

line_has : {s : Zs} {f : Walked} {w : Walk} {p : Path} → f ≡ Line w p → (i : ℕ) → HasZs i s f → s ≡ zs_of w.pace i
line_has e i h = rw e at h

-- they are those of the step that they say
module _ (q : Pace) (i : ℕ) (s : Zs) (e : s ≡ zs_of q i) where
  at_is : s.at ≡ i
  at_is = ap (λ (v : Zs). v.at) e

  at_below : i < step_range → s.at < step_range
  at_below h = rw at_is h

  at_own : s ≡ zs_of q s.at
  at_own = e ∙ ap (zs_of q) (sym at_is)

  pub z_is : s.z ≡ (zs_of q i).z
  z_is = ap (λ (v : Zs). v.z) e

-- so of a line that is walked
pub line_zs : {s : Zs} {f : Walked} {w : Walk} {p : Path} → f ≡ Line w p → (i : ℕ) → i < step_range → HasZs i s f → (s.at < step_range) × (s ≡ zs_of w.pace s.at)
line_zs {s} {f} {w} {p} e i h g = let o = line_has e i g in (at_below w.pace i s o h, at_own w.pace i s o)

pub line_at_lem : (s : Zs) {f : Walked} {w : Walk} {p : Path} → f ≡ Line w p → (i : ℕ) → HasZs i s f → s.at ≡ i
line_at_lem s {f} {w} {p} e i g = at_is w.pace i s (line_has e i g)

pub none_carries : (f : Walked) → Carries no_zs f
none_carries (Line w p) = none_carried w.pace
none_carries Skipped = tt
none_carries (Refused why) = tt

pub has_carries : (f : Walked) (i : ℕ) (s : Zs) → i < step_range → HasZs i s f → Carries s f
has_carries (Line w p) i s h e = subst (Carried w.pace) (sym e) (own_carried w.pace i h)
has_carries Skipped i s h e = tt
has_carries (Refused why) i s h e = tt

-- ---- a step
module _ (stored : List ℕ) (slots slice : ℕ) (w : Walk) (l : StartsAt w.pace) (b : Path) (k : Boxed b) (s : Zs) (h : s.at < step_range) (e : s ≡ zs_of w.pace s.at) where
  pub step_by : (t : Vec2) → t ≡ corner_at w.pace s.at s.z
      → step_by_word stored slots slice (piece_by w s t) (step_of w.pace b s.at) ≡ step_to stored slots w s.at slice (step_of w.pace b s.at)
  unfolding step_by_word step_to
  step_by t q = go (step_of w.pace b s.at) refl
    where
      own : piece_by w s t ≡ piece_by w (zs_of w.pace s.at) (corner_at w.pace s.at (zs_of w.pace s.at).z)
      own = ap (piece_by w s) (q ∙ ap (corner_at w.pace s.at) (z_is w.pace s.at s e)) ∙ ap (λ (v : Zs). piece_by w v (corner_at w.pace s.at (zs_of w.pace s.at).z)) e

      go : (r : Step) → step_of w.pace b s.at ≡ r → step_by_word stored slots slice (piece_by w s t) r ≡ step_to stored slots w s.at slice r
      go (On.Tile n x y z) g = ap (word_to slots (get_or stored n.0 0) slice) (own ∙ piece_is w l b k s.at h n x y z g)
      go On.Refused g = refl
