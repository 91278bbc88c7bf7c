-- References by their keys: one key, one line and step; one key, one tile and slice. So the first reference at fault is found by looking for one reason
-- after another. More references than ours hold a fault.
-- Assumes nothing.
use mathlib.Core.Path.{◌≡◌, refl, sym, ap, ap₂, ◌∙◌}
use mathlib.Core.Bool.{Bool, true, false, ◌&&◌, ◌||◌}
use mathlib.Core.Logic.{◌≢◌}
use mathlib.Core.List.{List, [], ◌∷◌}
use Prim.Native.Nat.{ℕ, zero, suc, ◌+◌, ◌-◌, ◌≤◌, ◌<◌}
use native.Mathlib.Omega.{arith}
use native.Mathlib.Decide.{ℕ_discrete, dec_lt}
use lib.Dec.{ltb, eqb}
use lib.ListN.{length, get_or}
use lib.Ieee.{Float}
use borrow.Author.Tests.{leb-false, eq-eqb, ne_eqb}
use Rattle.lists.specs.Run.{done, All}
use Rattle.lists.specs.Sums.{first}
use Rattle.lists.specs.Tally.{Below, Distinct}
use Rattle.acts.specs.Acts.{St}
use Rattle.panel.specs.Refs.{line_at}
use Rattle.meeting.specs.First.{first_of, some_below_word}
use Rattle.meeting.specs.Meeting.{meets_earlier, first_meeting}
use Rattle.meeting.proofs.FirstLaws.{first_most, first_missed, first_or, first_same, none_below}
use Rattle.entries.proofs.KeyLaws.{key_once, first_repeat}
use Rattle.entries.proofs.AllThere.{no_more}
use Rattle.made.specs.Made.{made_of}
use Rattle.made.specs.MadeAt.{Made}
use Rattle.made.specs.MadeAt.{At, Not}
use Rattle.own_count.specs.Own.{own_ran}
use Rattle.own_count.specs.View.{start_of}
use Rattle.tile_check.specs.Faults.{step_at, slice_at, made_ref, stray, stray_ref, same_step, same_tile, same_slice, step_twice, slice_twice, ref_fault}
use Rattle.tile_check.specs.Keys.{before_in, tile_in, step_key, slice_key}
use Rattle.tile_check.proofs.StartLaws.{steps_of, start_apart, start_within, MadeTold, made_told}

-- the first meeting is at most the number of ranges
pub meet_most : (start len : ℕ → ℕ) (n r : ℕ) → r ≡ first_meeting start len n → r ≤ n
unfolding first_meeting
meet_most start len n r e = omega (arith, first_most (meets_earlier start len) n)

-- ---- a reference that isn't stray

pub record Ours (ours : List ℕ) (r : Made) (slice : ℕ) : Type 0 where
  pub before : ℕ
  pub tile : ℕ
  pub is_made : r ≡ At before tile
  pub counted : slice < get_or ours tile 0

pub not_stray : (ours : List ℕ) (r : Made) (slice : ℕ) → stray ours r slice ≡ false → Ours ours r slice
not_stray ours (At n t) slice e = record { before = n; tile = t; is_made = refl; counted = leb-false (get_or ours t 0) slice e }
not_stray ours Not slice e = let z : ◌≡◌ {A = ℕ} 0 1 = cc in absurd (omega arith)

-- ---- two tests as one

pair_eqb : (a b l m j k : ℕ) → (a ≡ b → (l ≡ m) × (j ≡ k)) → (l ≡ m → j ≡ k → a ≡ b) → eqb a b ≡ (eqb l m && eqb j k)
pair_eqb a b l m j k f g = go (ℕ_discrete l m) (ℕ_discrete j k)
  where
    go : Dec (l ≡ m) → Dec (j ≡ k) → eqb a b ≡ (eqb l m && eqb j k)
    go (yes p) (yes q) = eq-eqb a b (g p q) ∙ sym (rw (eq-eqb l m p, eq-eqb j k q))
    go (yes p) (no q) = ne_eqb a b (λ e. q (f e).1) ∙ sym (rw (eq-eqb l m p, ne_eqb j k q))
    go (no p) q = ne_eqb a b (λ e. p (f e).0) ∙ sym (rw (ne_eqb l m p))

-- ---- by tile and slice

no_made : (n t : ℕ) → Not ≡ At n t → ⊥
no_made n t e = let z : ◌≡◌ {A = ℕ} 0 1 = cc in omega arith

pub slice_same : (made : ℕ → ℕ → Made) (ours refs : List ℕ) (i j : ℕ) → stray_ref made ours refs i ≡ false → stray_ref made ours refs j ≡ false
    → eqb (slice_key made ours refs i) (slice_key made ours refs j) ≡ same_slice made refs i j
slice_same made ours refs i j p q = go (made_ref made refs i) (made_ref made refs j) (not_stray ours (made_ref made refs i) (slice_at refs i) p) (not_stray ours (made_ref made refs j)
    (slice_at refs j) q)
  where
    go : (r s : Made) → Ours ours r (slice_at refs i) → Ours ours s (slice_at refs j)
        → eqb (first ours (tile_in r) + slice_at refs i) (first ours (tile_in s) + slice_at refs j) ≡ (same_tile r s && eqb (slice_at refs i) (slice_at refs j))
    go (At n t) (At m u) a b =
        let ta : t ≡ a.tile = told n t a.before a.tile a.is_made in
        let tb : u ≡ b.tile = told m u b.before b.tile b.is_made in
        pair_eqb (first ours t + slice_at refs i) (first ours u + slice_at refs j) t u (slice_at refs i) (slice_at refs j)
        (λ e. key_once ours t u (slice_at refs i) (slice_at refs j) (rw ta a.counted) (rw tb b.counted) e)
        (λ e f. ap₂ (λ (x y : ℕ). first ours x + y) e f)
      where
        told : (n t m u : ℕ) → At n t ≡ At m u → t ≡ u
        told n t m u e = ap tile_in e
    go (At n t) Not a b = absurd (no_made b.before b.tile b.is_made)
    go Not s a b = absurd (no_made a.before a.tile a.is_made)

-- ---- by line and step

module _ (nos : List ℕ) (coords : List Float) (paths : List ℕ) (tiles : ℕ) (s : St) (own : own_ran nos coords paths tiles ≡ done s) where
  -- one place, one line and step
  pub keys_one : (l k n t l' k' m u : ℕ) → made_of nos coords paths l k ≡ At n t → made_of nos coords paths l' k' ≡ At m u
      → start_of nos coords paths tiles l + n ≡ start_of nos coords paths tiles l' + m → (l ≡ l') × (k ≡ k')
  keys_one l k n t l' k' m u e f g = go (made_told nos coords paths l k n t e) (made_told nos coords paths l' k' m u f) (dec_lt l l') (dec_lt l' l)
    where
      earlier : (a b : ℕ) → a < b → b < length nos → start_of nos coords paths tiles a + steps_of nos coords paths tiles a ≤ start_of nos coords paths tiles b
      earlier a b h z =
          let q : a + suc (b - suc a) ≡ b = omega arith in
          omega (arith, start_apart nos coords paths tiles (length nos) s own a (b - suc a) (omega arith), ap (start_of nos coords paths tiles) q)

      go : MadeTold nos coords paths l k n → MadeTold nos coords paths l' k' m → Dec (l < l') → Dec (l' < l) → (l ≡ l') × (k ≡ k')
      go a b (yes h) d = absurd (omega (arith, earlier l l' h b.line_in, a.step_in))
      go a b (no h) (yes d) = absurd (omega (arith, earlier l' l d a.line_in, b.step_in))
      go a b (no h) (no d) = let q : l ≡ l' = omega arith in (q, same q a b)
        where
          same : l ≡ l' → MadeTold nos coords paths l k n → MadeTold nos coords paths l' k' m → k ≡ k'
          same q x y =
              let r : n ≡ m = omega (arith, ap (start_of nos coords paths tiles) q) in
              omega (arith, x.step_is, y.step_is, ap (λ (i : ℕ). Rattle.tile_check.proofs.StartLaws.first_in (Rattle.walk.specs.Lent.walk_at nos coords paths i)) q)

  -- and below what our own count makes
  pub key_below : (l k n t : ℕ) → made_of nos coords paths l k ≡ At n t → start_of nos coords paths tiles l + n < s.made
  key_below l k n t e =
      let a = made_told nos coords paths l k n t e in
      omega (arith, start_within nos coords paths tiles (length nos) s own l a.line_in, a.step_in)

  module _ (ours refs : List ℕ) where
    abbrev key_of : ℕ → ℕ
    key_of j = step_key (made_of nos coords paths) (start_of nos coords paths tiles) refs j

    pub step_same : (i j : ℕ) → stray_ref (made_of nos coords paths) ours refs i ≡ false → stray_ref (made_of nos coords paths) ours refs j ≡ false
        → eqb (key_of i) (key_of j) ≡ same_step refs i j
    step_same i j p q =
        pair_eqb (key_of i) (key_of j) (line_at refs i) (line_at refs j) (step_at refs i) (step_at refs j)
        (λ e. keys_one (line_at refs i) (step_at refs i) a.before a.tile (line_at refs j) (step_at refs j) b.before b.tile a.is_made b.is_made
        (ap (λ (r : Made). start_of nos coords paths tiles (line_at refs i) + before_in r) (sym a.is_made) ∙ e ∙ ap (λ (r : Made). start_of nos coords paths tiles (line_at refs j) +
        before_in r) b.is_made))
        (λ e f. ap₂ (λ (x y : ℕ). start_of nos coords paths tiles x + before_in (made_of nos coords paths x y)) e f)
      where
        a : Ours ours (made_ref (made_of nos coords paths) refs i) (slice_at refs i)
        a = not_stray ours (made_ref (made_of nos coords paths) refs i) (slice_at refs i) p

        b : Ours ours (made_ref (made_of nos coords paths) refs j) (slice_at refs j)
        b = not_stray ours (made_ref (made_of nos coords paths) refs j) (slice_at refs j) q

    -- ---- one reason after another

    strays : ℕ → Bool
    strays = stray_ref (made_of nos coords paths) ours refs

    module _ (n : ℕ) (steps slices : ℕ → ℕ) (f : ℕ) (ef : f ≡ first_of (stray_ref (made_of nos coords paths) ours refs) n)
        (es : (j : ℕ) → j < f → steps j ≡ key_of j) (el : (j : ℕ) → j < f → slices j ≡ slice_key (made_of nos coords paths) ours refs j) where
      fine : (i : ℕ) → i < f → stray_ref (made_of nos coords paths) ours refs i ≡ false
      fine i h = first_missed (stray_ref (made_of nos coords paths) ours refs) n i (omega (arith, ef))

      twice : (i : ℕ) → i < f → some_below_word (λ j. eqb (steps j) (steps i)) i ≡ step_twice refs i
      twice i h =
          ap (λ (r : ℕ). ltb r i)
          (first_same (λ j. eqb (steps j) (steps i)) (λ j. same_step refs j i) i
          (λ j l. ap₂ eqb (es j (omega arith)) (es i h) ∙ step_same j i (fine j (omega arith)) (fine i h)))

      twice_slice : (i : ℕ) → i < f → some_below_word (λ j. eqb (slices j) (slices i)) i ≡ slice_twice (made_of nos coords paths) refs i
      twice_slice i h =
          ap (λ (r : ℕ). ltb r i)
          (first_same (λ j. eqb (slices j) (slices i)) (λ j. same_slice (made_of nos coords paths) refs j i) i
          (λ j l. ap₂ eqb (el j (omega arith)) (el i h) ∙ slice_same (made_of nos coords paths) ours refs j i (fine j (omega arith)) (fine i h)))

      pub by_steps : first_meeting steps (λ i. 1) f ≡ first_of (λ i. stray_ref (made_of nos coords paths) ours refs i || step_twice refs i) n
      by_steps =
          first_repeat steps f
          ∙ first_same (λ i. some_below_word (λ j. eqb (steps j) (steps i)) i) (step_twice refs) f twice
          ∙ ap (first_of (step_twice refs)) ef
          ∙ first_or (stray_ref (made_of nos coords paths) ours refs) (step_twice refs) n

      pub by_slices : (g : ℕ) → g ≡ first_meeting steps (λ i. 1) f → first_meeting slices (λ i. 1) g ≡ first_of (ref_fault (made_of nos coords paths) ours refs) n
      unfolding ref_fault
      by_slices g eg =
          let most : g ≤ f = omega (arith, eg, first_repeat steps f, first_most (λ i. some_below_word (λ j. eqb (steps j) (steps i)) i) f) in
          first_repeat slices g
          ∙ first_same (λ i. some_below_word (λ j. eqb (slices j) (slices i)) i) (slice_twice (made_of nos coords paths) refs) g (λ i h. twice_slice i (omega arith))
          ∙ ap (first_of (slice_twice (made_of nos coords paths) refs)) (eg ∙ by_steps)
          ∙ first_or (λ i. stray_ref (made_of nos coords paths) ours refs i || step_twice refs i) (slice_twice (made_of nos coords paths) refs) n

    -- ---- more than ours hold a fault

    keys_from : ℕ → ℕ → List ℕ
    keys_from a zero = []
    keys_from a (suc n) = key_of a ∷ keys_from (suc a) n

    keys_long : (a n : ℕ) → length (keys_from a n) ≡ n
    unfolding keys_from
    keys_long a zero = refl
    keys_long a (suc n) = ap suc (keys_long (suc a) n)

    module _ (m : ℕ) (none : (i : ℕ) → i < m → ref_fault (made_of nos coords paths) ours refs i ≡ false) where
      no_or : (a b c : Bool) → ((a || b) || c) ≡ false → (a ≡ false) × (b ≡ false)
      no_or true b c e = let z : ◌≡◌ {A = ℕ} 0 1 = cc in absurd (omega arith)
      no_or false true c e = let z : ◌≡◌ {A = ℕ} 0 1 = cc in absurd (omega arith)
      no_or false false c e = (refl, refl)

      clean : (i : ℕ) → i < m → (stray_ref (made_of nos coords paths) ours refs i ≡ false) × (step_twice refs i ≡ false)
      unfolding ref_fault
      clean i h = no_or (stray_ref (made_of nos coords paths) ours refs i) (step_twice refs i) (slice_twice (made_of nos coords paths) refs i) (none i h)

      differ : (i j : ℕ) → i < j → j < m → key_of j ≢ key_of i
      differ i j h l e =
          let p : same_step refs i j ≡ false = none_below (λ k. same_step refs k j) j (clean j l).1 i h in
          let q : eqb (key_of i) (key_of j) ≡ true = eq-eqb (key_of i) (key_of j) (sym e) in
          let r : eqb (key_of i) (key_of j) ≡ same_step refs i j = step_same i j (clean i (omega arith)).0 (clean j l).0 in
          let z : ◌≡◌ {A = ℕ} 0 1 = cc in
          omega arith

      others : (i a n : ℕ) → i < a → a + n ≤ m → All (λ k. k ≢ key_of i) (keys_from a n)
      unfolding keys_from
      others i a zero h l = tt
      others i a (suc n) h l = (differ i a h (omega arith), others i (suc a) n (omega arith) (omega arith))

      keys_apart : (a n : ℕ) → a + n ≤ m → Distinct (keys_from a n)
      unfolding keys_from
      keys_apart a zero l = tt
      keys_apart a (suc n) l = (others a (suc a) n (omega arith) (omega arith), keys_apart (suc a) n (omega arith))

      keys_below : (a n : ℕ) → a + n ≤ m → Below s.made (keys_from a n)
      unfolding keys_from
      keys_below a zero l = tt
      keys_below a (suc n) l = (below a (omega arith), keys_below (suc a) n (omega arith))
        where
          below : (i : ℕ) → i < m → key_of i < s.made
          below i h =
              let o = not_stray ours (made_ref (made_of nos coords paths) refs i) (slice_at refs i) (clean i h).0 in
              rw o.is_made (key_below (line_at refs i) (step_at refs i) o.before o.tile o.is_made)

      pub few_clean : m ≤ s.made
      few_clean = omega (arith, no_more s.made (keys_from 0 m) (keys_below 0 m (omega arith)) (keys_apart 0 m (omega arith)), keys_long 0 m)
