-- The checks of what is lent answer 1 to 4, and never 9. Assumes nothing.
use mathlib.Core.Path.{◌≡◌, refl}
use mathlib.Core.Bool.{Bool, true, false, cond}
use mathlib.Core.List.{List, [], ◌∷◌}
use Prim.Native.Nat.{ℕ, ◌<◌}
use native.Mathlib.Omega.{arith}
use lib.ListN.{length}
use lib.IntN.{ℤ}
use lib.Ieee.{Float}
use Rattle.lists.specs.Run.{All}
use Rattle.panel.specs.Refusals.{line_number}
use Rattle.panel.specs.Checks.{Check, first_no, unless}
use Rattle.panel.specs.Paths.{paths_answer}
use Rattle.panel.specs.Pieces.{Pieces}
use Rattle.panel.specs.Verdict.{Verdict, Fine, Against}
use Rattle.panel.specs.Answer.{Refused}
use Rattle.frame.specs.Frame as Frame
use Rattle.pairs.specs.Pairs.{Tables}
use Rattle.write_lists.specs.Lists as Lists
use Rattle.theorems.specs.Refusing.{PathsWhy, one, two, three, four}
use Rattle.theorems.proofs.ExactPaths.{paths_exact}

-- the numbers before counting's first
abbrev Early : ℕ → Type 0
Early n = n < line_number

first_early : (cs : List Check) → All (λ c. Early c.no) cs → (m : ℕ) → first_no cs ≡ Against m → Early m
first_early [] h m q = let z : ◌≡◌ {A = ℕ} 0 1 = cc in absurd (omega arith)
first_early (c ∷ more) h m q = go c.ok q (first_early more h.1 m)
  where
    go : (b : Bool) → cond b (first_no more) (Against c.no) ≡ Against m → (first_no more ≡ Against m → Early m) → Early m
    go true f ih = ih f
    go false f ih = let z : c.no ≡ m = cc in omega (arith, h.0)

paths_early : (ws : List ℕ) (tiles n k : ℕ) → paths_answer ws tiles ≡ Refused n k → Early n
paths_early ws tiles n k e = go ((paths_exact ws tiles n k).0 e)
  where
    go : PathsWhy ws tiles n k → Early n
    go (one q a b) = omega arith
    go (two q a b c) = omega arith
    go (three q a b c d) = omega arith
    go (four q a b c d f) = omega arith

-- a row of checks, and then the paths'
row_early : (cs : List Check) → All (λ c. Early c.no) cs → (ws : List ℕ) (tiles n item : ℕ) → unless (first_no cs) 0 (paths_answer ws tiles) ≡ Refused n item → Early n
row_early cs h ws tiles n item e = go (first_no cs) refl e
  where
    go : (v : Verdict) → first_no cs ≡ v → unless v 0 (paths_answer ws tiles) ≡ Refused n item → Early n
    go Fine f q = paths_early ws tiles n item q
    go (Against m) f q = let z : m ≡ n = cc in omega (arith, first_early cs h m f)

pub frame_early : (nos : List ℕ) (coords : List Float) (paths : List ℕ) (backs : List ℤ) (stored tally refs : List ℕ) (p : Pieces) (n item : ℕ)
    → Frame.checks_of nos coords paths backs stored tally refs p ≡ Refused n item → n < line_number
unfolding Frame.checks_of
frame_early nos coords paths backs stored tally refs p n item e =
    row_early
    (Frame.lent_checks (length nos) (length coords) (length backs) (length stored) (length tally) (length refs) (length p.segments) (length p.tags))
    (omega arith, (omega arith, (omega arith, (omega arith, (omega arith, (omega arith, (omega arith, tt))))))) paths (length stored) n item e

pub lists_early : (s : Tables) (cols rows n item : ℕ) → Lists.call_answer s cols rows ≡ Refused n item → n < line_number
unfolding Lists.call_answer
lists_early s cols rows n item e =
    row_early (Lists.lent_checks (length s.paths) (length s.paints) (length s.backdrops) (length s.stored) (length s.tally) cols rows)
    (omega arith, (omega arith, (omega arith, (omega arith, (omega arith, tt))))) s.paths (length s.backdrops) n item e
