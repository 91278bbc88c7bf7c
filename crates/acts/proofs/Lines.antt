-- Laws of a line, all or nothing, and of batches.
-- Assumes nothing.
use mathlib.Core.Path.{◌≡◌, refl, sym, ap, ◌∙◌}
use mathlib.Core.Bool.{Bool, true, false, ◌&&◌}
use mathlib.Core.List.{List}
use Prim.Native.Nat.{ℕ, suc, ◌+◌, ◌-◌, ◌<◌, ◌≤◌, min}
use native.Mathlib.Numerals.{add-one}
use native.Mathlib.Omega.{arith}
use lib.Dec.{ltb}
use borrow.Author.Tests.{lt-ltb, le-ltb}
use Rattle.lists.specs.Run.{Step, taken, halted, Ran, done, refused, and_then, on_step, run, run_append, all_or_none}
use Rattle.lists.specs.Sums.{from, from_add}
use Rattle.panel.specs.Limits.{most_steps, most_slots}
use Rattle.panel.specs.Refusals.{count_over, no_room_word}
use Rattle.panel.specs.Verdict.{Verdict}
use Rattle.panel.specs.Verdict.{Fine, Against}
use Rattle.acts.specs.Acts.{St, run_acts, delta_of, check_no, is_done, verdict_of}
use Rattle.acts.specs.Line.{Plan, plan_acts, plan_step, Refusal, at_line, batch_of}
use Rattle.acts.proofs.Once.{marks_of, visits_of, Once, check_run, said_no, said_yes}

-- ---- one line

module _ (room l : ℕ) (p : Plan) (s : St) where
  pub plan_far : p.imin < p.imax → most_steps < p.imax → plan_step room l p s ≡ halted count_over
  unfolding plan_step
  plan_far h k = rw (lt-ltb _ _ h, lt-ltb _ _ k)

  near : (p.imin < p.imax → p.imax ≤ most_steps) → (ltb p.imin p.imax && ltb most_steps p.imax) ≡ false
  near h = go (ltb p.imin p.imax) refl (ltb most_steps p.imax) refl
    where
      go : (a : Bool) → ltb p.imin p.imax ≡ a → (b : Bool) → ltb most_steps p.imax ≡ b → (a && b) ≡ false
      go false e b g = refl
      go true e false g = refl
      go true e true g = absurd (omega (arith, h (borrow.Author.Tests.ltb-true p.imin p.imax e), borrow.Author.Tests.ltb-true most_steps p.imax g))

  pub plan_full : (p.imin < p.imax → p.imax ≤ most_steps) → min room most_slots < s.made + (p.imax - p.imin) → plan_step room l p s ≡ halted no_room_word
  unfolding plan_step
  plan_full h k = rw (near h, lt-ltb _ _ k)

  pub plan_runs : (p.imin < p.imax → p.imax ≤ most_steps) → s.made + (p.imax - p.imin) ≤ min room most_slots
      → plan_step room l p s ≡ all_or_none (run_acts (delta_of p.up) l (plan_acts p) s)
  unfolding plan_step
  plan_runs h k = rw (near h, le-ltb _ _ k)

  -- the check of a line's acts tells of its run, where it takes no tile twice
  module _ (om : Once (marks_of (plan_acts p))) (ov : Once (visits_of (plan_acts p))) (v : Verdict) (c : v ≡ check_no (delta_of p.up) (plan_acts p) s.backs s.counts) where
    agrees : verdict_of (run_acts (delta_of p.up) l (plan_acts p) s) ≡ v
    agrees = check_run (delta_of p.up) l (plan_acts p) s om ov ∙ sym c

    pub plan_refused : (p.imin < p.imax → p.imax ≤ most_steps) → s.made + (p.imax - p.imin) ≤ min room most_slots → (m : ℕ) → v ≡ Against m → plan_step room l p s ≡ halted m
    plan_refused h k m e =
        let r = said_no (run_acts (delta_of p.up) l (plan_acts p) s) m (agrees ∙ e) in
        plan_runs h k ∙ ap all_or_none r.1

    pub plan_fine : v ≡ Fine → is_done (run_acts (delta_of p.up) l (plan_acts p) s) ≡ true
    plan_fine e = said_yes (run_acts (delta_of p.up) l (plan_acts p) s) (agrees ∙ e)

  pub plan_done : (s' : St) → (p.imin < p.imax → p.imax ≤ most_steps) → s.made + (p.imax - p.imin) ≤ min room most_slots
      → done s' ≡ run_acts (delta_of p.up) l (plan_acts p) s → plan_step room l p s ≡ taken s'
  plan_done s' h k e = plan_runs h k ∙ ap all_or_none (sym e)

-- ---- batches

module _ (f : ℕ → St → Step St ℕ) where
  -- two batches, one after the other, are one; a refused one too
  pub batch_append : (a j k : ℕ) (s : St) → batch_of f a (j + k) s ≡ and_then (batch_of f a j s) (batch_of f (a + j) k)
  unfolding batch_of
  batch_append a j k s =
      ap (λ (xs : List ℕ). run (λ l t. at_line l (f l t)) xs s) (from_add a j k)
      ∙ run_append (λ l t. at_line l (f l t)) (from a j) (from (a + j) k) s

  -- from a to b, and then from b to c, is from a to c
  pub batch_cut : (a b c : ℕ) (s : St) → a ≤ b → b ≤ c → batch_of f a (c - a) s ≡ and_then (batch_of f a (b - a) s) (batch_of f b (c - b))
  batch_cut a b c s h k =
      let e : c - a ≡ b - a + (c - b) = omega arith in
      let g : a + (b - a) ≡ b = omega arith in
      ap (λ (n : ℕ). batch_of f a n s) e ∙ batch_append a (b - a) (c - b) s
      ∙ ap (λ (n : ℕ). and_then (batch_of f a (b - a) s) (batch_of f n (c - b))) g

  -- one turn of a batch's loop: what is left says what all says
  turn : (a n m : ℕ) (s : St) → n ≡ suc m → batch_of f a n s ≡ on_step (at_line a (f a s)) s (batch_of f (a + 1) m)
  unfolding batch_of
  turn a n m s e = rw (e, add-one a)

  module _ (a e : ℕ) (s : St) (h : a < e) (all : Ran St Refusal) (inv : batch_of f a (e - a) s ≡ all) where
    turned : (o : Step St ℕ) → f a s ≡ o → on_step (at_line a o) s (batch_of f (a + 1) (e - (a + 1))) ≡ all
    turned o q =
        ap (λ (x : Step St ℕ). on_step (at_line a x) s (batch_of f (a + 1) (e - (a + 1)))) (sym q)
        ∙ sym (turn a (e - a) (e - (a + 1)) s (omega arith))
        ∙ inv

    pub batch_goes : (s' : St) → f a s ≡ taken s' → batch_of f (a + 1) (e - (a + 1)) s' ≡ all
    batch_goes s' q = turned (taken s') q

    pub batch_stops : (n : ℕ) → f a s ≡ halted n → refused s (record { no = n; line = a }) ≡ all
    batch_stops n q = turned (halted n) q

  pub batch_ends : (a e : ℕ) (s : St) (all : Ran St Refusal) → e ≤ a → batch_of f a (e - a) s ≡ all → done s ≡ all
  unfolding batch_of
  batch_ends a e s all h inv = let z : e - a ≡ 0 = omega arith in sym (ap (λ (n : ℕ). batch_of f a n s) z) ∙ inv
