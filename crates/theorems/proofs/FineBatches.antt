-- Screen tiles cut into batches anywhere come to the same as in one call. Assumes nothing.
use mathlib.Core.Path.{◌≡◌, refl, ◌∙◌}
use mathlib.Core.List.{List, [], ◌∷◌}
use Prim.Native.Nat.{ℕ, ◌*◌, ◌≤◌}
use native.Mathlib.Omega.{arith}
use lib.ListN.{length}
use lib.Ieee.{Float}
use borrow.Author.Tests.{le-leb}
use Rattle.lists.specs.Run.{Ran, done, refused, left}
use Rattle.panel.specs.Checks.{first_no}
use Rattle.panel.specs.Answer.{Done, Refused}
use Rattle.panel.specs.Verdict.{Verdict, Fine, Against}
use Rattle.fine.specs.Fine.{shown, fine_checks, No, tiles_of, fine_of}
use Rattle.fine.proofs.Ranges.{two_ranges}
use Rattle.fine.proofs.Screens.{next_range}
use Rattle.theorems.specs.Batches.{Rising, last_of, on_shown, in_tiles}
use Rattle.theorems.proofs.BatchLaws.{rising_last}

module _ (words : List ℕ) (segs : List Float) (width cols rows : ℕ) where
  -- a first call is done, or it is refused and so is the whole, with the same
  data First (a b c : ℕ) (pixels : List ℕ) : Type 0 where
    goes : (mid : List ℕ) → fine_of words segs width cols rows a b pixels ≡ shown Done mid → First a b c pixels
    stays : (n item : ℕ) (left : List ℕ) → fine_of words segs width cols rows a b pixels ≡ shown (Refused n item) left
        → fine_of words segs width cols rows a c pixels ≡ shown (Refused n item) left → First a b c pixels

  same_checks : (a b c n : ℕ) → a ≤ b → b ≤ c → c ≤ cols * rows
      → first_no (fine_checks (length segs) width cols rows a b n) ≡ first_no (fine_checks (length segs) width cols rows a c n)
  same_checks a b c n h k l = rw (le-leb a b h, le-leb b (cols * rows) (omega arith), le-leb a c (omega arith), le-leb c (cols * rows) l)

  first : (a b c : ℕ) (pixels : List ℕ) → a ≤ b → b ≤ c → c ≤ cols * rows → First a b c pixels
  unfolding fine_of
  first a b c pixels h k l =
      go (first_no (fine_checks (length segs) width cols rows a c (length pixels))) refl (tiles_of words segs width cols a b pixels) refl
    where
      go : (v : Verdict) → first_no (fine_checks (length segs) width cols rows a c (length pixels)) ≡ v → (o : Ran (List ℕ) No)
          → tiles_of words segs width cols a b pixels ≡ o → First a b c pixels
      go Fine e (done mid) f = goes mid (rw (same_checks a b c (length pixels) h k l, e, f))
      go Fine e (refused left why) f =
          stays why.number why.tile left (rw (same_checks a b c (length pixels) h k l, e, f)) (rw (e, two_ranges words segs width cols a b c pixels h k, f))
      go (Against n) e o f = stays n 0 pixels (rw (same_checks a b c (length pixels) h k l, e)) (rw e)

  -- two calls are one
  pub two_calls : (a b c : ℕ) (pixels : List ℕ) → a ≤ b → b ≤ c → c ≤ cols * rows
      → on_shown (fine_of words segs width cols rows a b pixels).answer (fine_of words segs width cols rows a b pixels) (λ p. fine_of words segs width cols rows b c p)
      ≡ fine_of words segs width cols rows a c pixels
  two_calls a b c pixels h k l = go (first a b c pixels h k l)
    where
      go : First a b c pixels
          → on_shown (fine_of words segs width cols rows a b pixels).answer (fine_of words segs width cols rows a b pixels) (λ p. fine_of words segs width cols rows b c p)
          ≡ fine_of words segs width cols rows a c pixels
      go (goes mid e) = rw e (next_range words segs width cols rows a b c pixels mid k l e)
      go (stays n item left e f) = rw (e, f)

  -- Screen tiles: cut anywhere, the calls one after another leave the pixels and the answer of one call up to the last end
  pub many_tiles : (a e : ℕ) (es : List ℕ) → Rising a (e ∷ es) → last_of e es ≤ cols * rows → (pixels : List ℕ)
      → in_tiles words segs width cols rows a (e ∷ es) pixels ≡ fine_of words segs width cols rows a (last_of e es) pixels
  many_tiles a e [] h l pixels = go (first a e e pixels h.0 (omega arith) l)
    where
      go : First a e e pixels
          → on_shown (fine_of words segs width cols rows a e pixels).answer (fine_of words segs width cols rows a e pixels) (λ p. shown Done p)
          ≡ fine_of words segs width cols rows a e pixels
      go (goes mid f) = rw f
      go (stays n item left f g) = rw f
  many_tiles a e (f ∷ es) h l pixels =
      go (first a e (last_of f es) pixels h.0 (rising_last e (f ∷ es) h.1) l) (many_tiles e f es h.1 l)
      ∙ two_calls a e (last_of f es) pixels h.0 (rising_last e (f ∷ es) h.1) l
    where
      go : First a e (last_of f es) pixels
          → ((p : List ℕ) → in_tiles words segs width cols rows e (f ∷ es) p ≡ fine_of words segs width cols rows e (last_of f es) p)
          → on_shown (fine_of words segs width cols rows a e pixels).answer (fine_of words segs width cols rows a e pixels) (λ p. in_tiles words segs width cols rows e (f ∷ es) p)
          ≡ on_shown (fine_of words segs width cols rows a e pixels).answer (fine_of words segs width cols rows a e pixels) (λ p. fine_of words segs width cols rows e (last_of f es) p)
      go (goes mid d) ih = rw d (ih mid)
      go (stays n item left d g) ih = rw d
