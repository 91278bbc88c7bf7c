-- The words that note a walk's steps.
-- Assumes nothing.
use mathlib.Core.Path.{◌≡◌, refl, sym, ap, ◌∙◌, subst}
use mathlib.Core.Bool.{Bool, true, false, cond, ◌&&◌}
use mathlib.Core.Logic.{◌⊎◌, inl, inr}
use mathlib.Core.List.{List}
use Prim.Native.Nat.{ℕ, ◌+◌, ◌-◌, ◌≤◌, ◌<◌}
use native.Mathlib.Omega.{arith}
use lib.ListN.{length, get_or, set}
use lib.Seq.{get_or-set_same, get_or-set_other}
use Rattle.float32.proofs.Tests.{below_or_not}
use Rattle.panel.specs.Paths.{end_of}
use Rattle.panel.specs.declared.kinds.Path.{Path}
use Rattle.walk.specs.Step.{last_z_word}
use Rattle.walk.specs.declared.kinds.Pace.{Pace}
use Rattle.strides.specs.Strides.{Struck}
use Rattle.strides.specs.Words.{word_of, word_tile, word_marks}
use Rattle.strides.proofs.WordLaws.{tile_told, marks_told}
use Rattle.acts.specs.Acts.{Hit, on, steps_acts}
use Rattle.acts.proofs.Laws.{steps_same}
use Rattle.hits.specs.Steps.{hit_at}
use Rattle.hits.specs.Notes.{hits_by, Told, Notes}
use Rattle.hits.proofs.StepLaws.{hit_on, next_below}

-- the word of a step on a tile says where it falls
pub word_told : (t : ℕ) (c : Bool) (tiles : ℕ) → cond c (t + 1) t < tiles → Told (on t c) (word_of t c) tiles
word_told t c tiles h = record { falls = rw (tile_told t c, marks_told t c); below = rw (tile_told t c, marks_told t c) h }

-- a step that is on its word's tile, and marks as the word says, is told by it
pub struck_told : (w : Pace) (b : Path) (i k z : ℕ) → Struck w b i (word_tile k) (word_marks k) z → Told (hit_at w b i) k (end_of b)
struck_told w b i k z s =
    record {
      falls = hit_on w b i _ s.x s.y _ s.falls (last_z_word w i) (word_marks k) refl s.crosses;
      below = next_below w b i _ s.x s.y _ s.falls (last_z_word w i) (word_marks k) s.crosses;
    }

-- a mark that leaves no end stays
pub none_leaves : (x c : Bool) → c ≡ false → (x && c) ≡ false
none_leaves true c e = e
none_leaves false c e = refl

-- one more word
pub notes_more : (f : ℕ → Hit) (a n : ℕ) (ks : List ℕ) (tiles k : ℕ) → n < length ks → Notes f a n ks tiles → Told (f (a + n)) k tiles → Notes f a (n + 1) (set ks n k) tiles
notes_more f a n ks tiles k l h t j g = go (below_or_not j n)
  where
    go : (j < n) ⊎ (n ≤ j) → Told (f (a + j)) (get_or (set ks n k) j 0) tiles
    go (inl p) = subst (λ (m : ℕ). Told (f (a + j)) m tiles) (sym (get_or-set_other ks n j k 0 (omega arith))) (h j p)
    go (inr p) =
        let e : j ≡ n = omega arith in
        subst (λ (i : ℕ). Told (f (a + i)) (get_or (set ks n k) i 0) tiles) (sym e)
        (subst (λ (m : ℕ). Told (f (a + n)) m tiles) (sym (get_or-set_same ks n k 0 l)) t)

pub notes_turn : (f : ℕ → Hit) (a i : ℕ) (ks : List ℕ) (tiles k : ℕ) → a ≤ i → i - a < length ks → Notes f a (i - a) ks tiles → Told (f i) k tiles → Notes f a (i + 1 - a) (set ks (i - a) k) tiles
notes_turn f a i ks tiles k p l h t =
    let e : a + (i - a) ≡ i = omega arith in
    let g : i - a + 1 ≡ i + 1 - a = omega arith in
    subst (λ (n : ℕ). Notes f a n (set ks (i - a) k) tiles) g (notes_more f a (i - a) ks tiles k l h (subst (λ (n : ℕ). Told (f n) k tiles) (sym e) t))

-- among more tiles
pub notes_wider : (f : ℕ → Hit) (a n : ℕ) (ks : List ℕ) (tiles more : ℕ) → tiles ≤ more → Notes f a n ks tiles → Notes f a n ks more
notes_wider f a n ks tiles more l h j g = let t = h j g in record { falls = t.falls; below = omega (arith, t.below, l) }

-- by the words noted, the steps have the same acts
pub notes_acts : (f : ℕ → Hit) (a b : ℕ) (ks : List ℕ) (tiles : ℕ) → Notes f a (b - a) ks tiles → steps_acts f (b - a) a ≡ steps_acts (hits_by ks a) (b - a) a
notes_acts f a b ks tiles h = steps_same f (hits_by ks a) (b - a) a (λ j p q. same j p q)
  where
    same : (j : ℕ) → a ≤ j → j < a + (b - a) → f j ≡ hits_by ks a j
    same j p q =
        let e : a + (j - a) ≡ j = omega arith in
        ap f (sym e) ∙ (h (j - a) (omega arith)).falls
