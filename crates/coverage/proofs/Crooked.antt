-- The segments of a fill, one by one: all are straight, or one of them isn't. Assumes nothing.
use mathlib.Core.Path.{◌≡◌, refl, sym, ap, ◌∙◌}
use mathlib.Core.Bool.{Bool, true, false, ◌&&◌}
use mathlib.Core.List.{List}
use Prim.Native.Nat.{ℕ, zero, suc, ◌+◌, ◌<◌}
use native.Mathlib.Decide.{ℕ_discrete}
use native.Mathlib.Numerals.{add-one}
use native.Mathlib.Omega.{arith}
use lib.Ieee.{Float}
use Rattle.panel.specs.Segments.{segment_at, straight_of}
use Rattle.panel.specs.declared.segments.Segment.{Segment}
use Rattle.coverage.specs.Ground.{straight_from}

and_false : (a b : Bool) → b ≡ false → (a && b) ≡ false
and_false true b e = e
and_false false b e = refl

module _ (segs : List Float) (first : ℕ) where
  pub none_straight : straight_from segs first 0 ≡ true
  unfolding straight_from
  none_straight = refl

  pub one_more : (j : ℕ) (s : Segment) (ok : Bool) → s ≡ segment_at segs (first + j) → ok ≡ straight_of s → ok ≡ true → straight_from segs first j ≡ true
      → straight_from segs first (j + 1) ≡ true
  unfolding straight_from
  one_more j s ok p q t h =
      ap (straight_from segs first) (add-one j)
      ∙ rw h (sym (ap straight_of p) ∙ sym q ∙ t)

  -- one that is not straight is enough
  pub crooked_at : (n j : ℕ) → j < n → straight_of (segment_at segs (first + j)) ≡ false → straight_from segs first n ≡ false
  unfolding straight_from
  crooked_at zero j h e = absurd (omega arith)
  crooked_at (suc n) j h e = go (ℕ_discrete j n) (crooked_at n j)
    where
      go : Dec (j ≡ n) → (j < n → straight_of (segment_at segs (first + j)) ≡ false → straight_from segs first n ≡ false)
          → (straight_from segs first n && straight_of (segment_at segs (first + n))) ≡ false
      go (yes q) ih = and_false (straight_from segs first n) _ (ap (λ (k : ℕ). straight_of (segment_at segs (first + k))) (sym q) ∙ e)
      go (no q) ih = rw (ih (omega arith) e)

  -- all are, and each is
  pub each_straight : (n : ℕ) → straight_from segs first n ≡ true → (j : ℕ) → j < n → straight_of (segment_at segs (first + j)) ≡ true
  each_straight n h j l = go (straight_of (segment_at segs (first + j))) refl
    where
      go : (b : Bool) → straight_of (segment_at segs (first + j)) ≡ b → b ≡ true
      go true e = refl
      go false e = sym (crooked_at n j l e) ∙ h

  pub all_straight : (n : ℕ) → ((j : ℕ) → j < n → straight_of (segment_at segs (first + j)) ≡ true) → straight_from segs first n ≡ true
  unfolding straight_from
  all_straight zero f = refl
  all_straight (suc n) f = rw (all_straight n (λ j h. f j (omega arith))) (f n (omega arith))

  -- where not all are, there is a first that isn't
  pub first_crooked : (n : ℕ) → straight_from segs first n ≡ false
      → (j : ℕ) × (j < n) × (straight_from segs first j ≡ true) × (straight_of (segment_at segs (first + j)) ≡ false)
  unfolding straight_from
  first_crooked zero e = let z : ◌≡◌ {A = ℕ} 0 1 = cc in absurd (omega arith)
  first_crooked (suc n) e = go (straight_from segs first n) refl (first_crooked n)
    where
      go : (b : Bool) → straight_from segs first n ≡ b
          → (straight_from segs first n ≡ false → (j : ℕ) × (j < n) × (straight_from segs first j ≡ true) × (straight_of (segment_at segs (first + j)) ≡ false))
          → (j : ℕ) × (j < suc n) × (straight_from segs first j ≡ true) × (straight_of (segment_at segs (first + j)) ≡ false)
      go true q ih = (n, omega arith, q, rw q at e)
      go false q ih = let h = ih q in (h.0, omega (arith, h.1), h.2, h.3)
