-- The least line after which an outline stands open that another line has ended, with one line more. Assumes nothing.
use mathlib.Core.Path.{◌≡◌, refl, sym, ap, ◌∙◌}
use mathlib.Core.Bool.{Bool, true, false, cond, ◌||◌}
use mathlib.Core.List.{List}
use Prim.Native.Nat.{ℕ, ◌+◌, ◌-◌, ◌<◌, min}
use native.Mathlib.Decide.{ℕ_discrete, dec_lt}
use native.Mathlib.Omega.{arith}
use lib.Dec.{eqb}
use lib.Ieee.{Float}
use borrow.Author.Tests.{eqb-false, ne_eqb}
use Rattle.outlines.specs.Outlines.{before, reaches, goes_on, head_of, meets}
use Rattle.outlines.specs.Told.{sooner_of, Ended, LeastEnded}
use Rattle.outlines.proofs.Turns.{reaches_is}

pub clash : {t : Bool} → t ≡ true → t ≡ false → ⊥
clash a b = let z : ◌≡◌ {A = ℕ} 0 1 = cc in omega arith

neither : (a b : Bool) → (a || b) ≡ false → (a ≡ false) × (b ≡ false)
neither true b e = absurd (clash refl e)
neither false b e = (refl, e)

pub some_left : (last : ℕ) (fine : Bool) → (fine || eqb last 0) ≡ false → 0 < last
some_left last fine t = go (dec_lt 0 last)
  where
    go : Dec (0 < last) → 0 < last
    go (yes h) = h
    go (no h) = absurd (eqb-false last 0 (neither fine (eqb last 0) t).1 (omega arith))

module _ (nos : List ℕ) (fs : List Float) (i n best last head : ℕ) (w : LeastEnded nos fs i n best) (is : last ≡ before nos i)
    (at : 0 < last → head ≡ head_of nos fs (last - 1)) where
  abbrev fine : Bool
  fine = reaches fs last i || reaches fs last head

  -- an outline that is ended by one of the first i + 1 lines is ended by an earlier one, or by line i
  earlier : (l : ℕ) → (e : Ended nos fs (i + 1) l) → (e.by ≡ i → ⊥) → Ended nos fs i l
  earlier l e d = record { by = e.by; early = early; next = e.next; apart = e.apart; ajar = e.ajar }
    where
      early : e.by < i
      early = go (dec_lt e.by i)
        where
          go : Dec (e.by < i) → e.by < i
          go (yes h) = h
          go (no h) = let g : e.by < i + 1 = e.early in absurd (d (omega arith))

  later : (l : ℕ) → Ended nos fs i l → Ended nos fs (i + 1) l
  later l e = let g : e.by < i = e.early in record { by = e.by; early = omega arith; next = e.next; apart = e.apart; ajar = e.ajar }

  -- by line i: the line before it, and it is not fine
  here : (l : ℕ) → (e : Ended nos fs (i + 1) l) → e.by ≡ i → (last ≡ l + 1) × (fine ≡ false)
  here l e q = (line, ap (λ (t : Bool). t || reaches fs last head) new ∙ open_there)
    where
      line : last ≡ l + 1
      line = is ∙ sym (ap (before nos) q) ∙ e.next

      new : reaches fs last i ≡ false
      new = ap (λ (m : ℕ). reaches fs m i) is ∙ sym (ap (goes_on nos fs) q) ∙ e.apart

      open_there : reaches fs last head ≡ false
      open_there =
          let less : last - 1 ≡ l = omega (arith, line) in
          reaches_is fs last head (omega (arith, line))
          ∙ ap (meets fs (last - 1)) (at (omega (arith, line)))
          ∙ ap (λ (m : ℕ). meets fs m (head_of nos fs m)) less
          ∙ e.ajar

  kept : (fine || eqb last 0) ≡ true → LeastEnded nos fs (i + 1) n best
  kept t =
      record {
        most = w.most;
        ended = λ h. later best (w.ended h);
        none = λ l h e. go l h e (ℕ_discrete e.by i);
      }
    where
      go : (l : ℕ) → l < best → (e : Ended nos fs (i + 1) l) → Dec (e.by ≡ i) → ⊥
      go l h e (no d) = w.none l h (earlier l e d)
      go l h e (yes d) =
          let f = here l e d in
          let some : eqb last 0 ≡ false = ne_eqb last 0 (λ z. absurd (omega (arith, f.0))) in
          clash t (ap (λ (u : Bool). u || eqb last 0) f.1 ∙ some)

  module _ (t : (fine || eqb last 0) ≡ false) where
    some : 0 < last
    some = some_left last fine t

    found : Ended nos fs (i + 1) (last - 1)
    found =
        let ends = neither (reaches fs last i) (reaches fs last head) (neither fine (eqb last 0) t).0 in
        record {
          by = i;
          early = omega arith;
          next = sym is ∙ omega (arith, some);
          apart = ap (λ (m : ℕ). reaches fs m i) (sym is) ∙ ends.0;
          ajar = ap (meets fs (last - 1)) (sym (at some)) ∙ sym (reaches_is fs last head some) ∙ ends.1;
        }

    less : LeastEnded nos fs (i + 1) n (min best (last - 1))
    less =
        record {
          most = omega (arith, w.most);
          ended = λ h. which h (dec_lt best (last - 1));
          none = λ l h e. go l h e (ℕ_discrete e.by i);
        }
      where
        which : min best (last - 1) < n → Dec (best < last - 1) → Ended nos fs (i + 1) (min best (last - 1))
        which h (yes b) = let e : min best (last - 1) ≡ best = omega arith in rw e (later best (w.ended (omega arith)))
        which h (no b) = let e : min best (last - 1) ≡ last - 1 = omega arith in rw e found

        go : (l : ℕ) → l < min best (last - 1) → (e : Ended nos fs (i + 1) l) → Dec (e.by ≡ i) → ⊥
        go l h e (no d) = w.none l (omega arith) (earlier l e d)
        go l h e (yes d) = omega (arith, (here l e d).0)

  pub least_turn : LeastEnded nos fs (i + 1) n (sooner_of best last (reaches fs last i || reaches fs last head))
  unfolding sooner_of
  least_turn = go (fine || eqb last 0) refl
    where
      go : (t : Bool) → (fine || eqb last 0) ≡ t → LeastEnded nos fs (i + 1) n (cond t best (min best (last - 1)))
      go true e = kept e
      go false e = less e

pub least_none : (nos : List ℕ) (fs : List Float) (n : ℕ) → LeastEnded nos fs 0 n n
least_none nos fs n =
    record { most = omega arith; ended = λ h. absurd (omega arith); none = λ l h e. let g : e.by < 0 = e.early in absurd (omega arith) }
