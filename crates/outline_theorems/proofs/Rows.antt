-- Where a path's lines mark a tile row as their ends say, and make closed outlines, the row's marks add up to 0. Assumes nothing.
use mathlib.Core.Path.{◌≡◌, refl, sym, ap, subst, ◌∙◌}
use mathlib.Core.Bool.{Bool, true, false}
use mathlib.Core.List.{List, map}
use Prim.Native.Nat.{ℕ, zero, suc, ◌+◌, ◌≤◌, ◌<◌}
use native.Mathlib.Nat.{add-zero, zero-add}
use native.Mathlib.Omega.{arith}
use lib.Dec.{eqb}
use lib.ListN.{length, get_or}
use lib.IntN.{ℤ, pos, ◌+ℤ◌}
use lib.Ieee.{Float}
use borrow.Author.Tests.{eqb-true, eqb-false}
use Rattle.lists.specs.Run.{act_all, keep_if}
use Rattle.lists.specs.Sums.{from}
use Rattle.exact.proofs.Signs.{plus_of, minus_of, one_part, sum_parts, same_parts}
use Rattle.theorems.specs.Drawn.{Drawn, drawn_at, drawn, walk_of, of_path}
use Rattle.picture.specs.Picture.{line_winding, winding_of}
use Rattle.outline_theorems.specs.Closed.{Closed}
use Rattle.outline_theorems.specs.Crossings.{leaving, coming, at_or_above}
use Rattle.outline_theorems.specs.Marks.{goes_down, goes_up, Honest}
use Rattle.outline_theorems.proofs.Sums.{sum_none, sum_mine, sum_other}
use Rattle.outline_theorems.proofs.AsMany.{as_many_down}

add_both : (w g : ℤ) (L l C c : ℕ) → w +ℤ pos L ≡ pos C → g +ℤ pos l ≡ pos c → (w +ℤ g) +ℤ pos (L + l) ≡ pos (C + c)
add_both w g L l C c e f =
    same_parts ((w +ℤ g) +ℤ pos (L + l)) (pos (C + c))
    (omega (
      arith,
      sum_parts (w +ℤ g) (pos (L + l)),
      sum_parts w g,
      sum_parts w (pos L),
      sum_parts g (pos l),
      ap plus_of e,
      ap minus_of e,
      ap plus_of f,
      ap minus_of f,
    ))

none_left : (w : ℤ) (k : ℕ) → w +ℤ pos k ≡ pos k → w ≡ pos 0
none_left w k e = same_parts w (pos 0) (omega (arith, sum_parts w (pos k), ap plus_of e, ap minus_of e, one_part w))

module _ (nos : List ℕ) (fs : List Float) (paths : List ℕ) (p x y : ℕ) (h : Float)
    (honest : (l : ℕ) → l < length nos → get_or nos l 0 ≡ p → Honest nos fs paths x y h l) where
  abbrev add : Drawn → ℤ → ℤ
  add d w = w +ℤ line_winding x y (walk_of paths d)

  abbrev down : ℕ → ℕ
  down i = leaving nos fs (at_or_above h) p i

  abbrev up : ℕ → ℕ
  up i = coming nos fs (at_or_above h) p i

  -- from line a on, n lines
  rows : (n a : ℕ) (w : ℤ) → a + n ≤ length nos → w +ℤ pos (down a) ≡ pos (up a)
      → act_all add (of_path p (map (drawn_at nos fs) (from a n))) w +ℤ pos (down (a + n)) ≡ pos (up (a + n))
  rows zero a w b e = subst (λ (m : ℕ). w +ℤ pos (down m) ≡ pos (up m)) (sym (add-zero a)) e
  rows (suc n) a w b e =
      subst (λ (m : ℕ). act_all add (of_path p (map (drawn_at nos fs) (from a (suc n)))) w +ℤ pos (down m) ≡ pos (up m)) same
      (go (λ v f. rows n (suc a) v (omega arith) f) (eqb (get_or nos a 0) p) refl)
    where
      same : suc a + n ≡ a + suc n
      same = omega arith

      go : ((v : ℤ) → v +ℤ pos (down (suc a)) ≡ pos (up (suc a))
          → act_all add (of_path p (map (drawn_at nos fs) (from (suc a) n))) v +ℤ pos (down (suc a + n)) ≡ pos (up (suc a + n)))
          → (t : Bool) → eqb (get_or nos a 0) p ≡ t
          → act_all add (keep_if t (drawn_at nos fs a) (of_path p (map (drawn_at nos fs) (from (suc a) n)))) w +ℤ pos (down (suc a + n)) ≡ pos (up (suc a + n))
      go ih true q =
          let mine : get_or nos a 0 ≡ p = eqb-true (get_or nos a 0) p q in
          let d : down (suc a) ≡ down a + goes_down fs h a = sum_mine nos (goes_down fs h) p a mine in
          let u : up (suc a) ≡ up a + goes_up fs h a = sum_mine nos (goes_up fs h) p a mine in
          ih (add (drawn_at nos fs a) w)
          (ap (λ (m : ℕ). add (drawn_at nos fs a) w +ℤ pos m) d
          ∙ add_both w (line_winding x y (walk_of paths (drawn_at nos fs a))) (down a) (goes_down fs h a) (up a) (goes_up fs h a) e (honest a (omega arith) mine)
          ∙ ap pos (sym u))
      go ih false q =
          let other : get_or nos a 0 ≡ p → ⊥ = eqb-false (get_or nos a 0) p q in
          ih w (ap (λ (m : ℕ). w +ℤ pos m) (sum_other nos (goes_down fs h) p a other) ∙ e ∙ ap pos (sym (sum_other nos (goes_up fs h) p a other)))

  abbrev winding : ℤ
  winding = act_all add (of_path p (map (drawn_at nos fs) (from 0 (length nos)))) (pos 0)

  -- so nothing is left right of them
  pub no_leak : Closed nos fs → winding_of paths p x y (drawn nos fs (length nos)) ≡ pos 0
  unfolding winding_of
  no_leak c =
      let all = rows (length nos) 0 (pos 0) (omega arith) (ap (λ (m : ℕ). pos 0 +ℤ pos m) (sum_none nos (goes_down fs h) p) ∙ ap pos (sym (sum_none nos (goes_up fs h) p))) in
      none_left winding (down (length nos))
      (subst (λ (m : ℕ). winding +ℤ pos (down m) ≡ pos (up m)) (zero-add (length nos)) all ∙ ap pos (sym (as_many_down nos fs c h p)))
