-- A line of our own count, and all lines one after another.
-- Assumes nothing.
use mathlib.Core.Path.{◌≡◌, refl, sym, ap, ◌∙◌, subst}
use mathlib.Core.Bool.{true, false, not, ◌&&◌}
use mathlib.Core.Logic.{◌⊎◌, inl, inr}
use mathlib.Core.List.{List}
use Prim.Native.Nat.{ℕ, ◌+◌, ◌-◌, ◌≤◌, ◌<◌, ◌^◌}
use native.Mathlib.Nat.{add-zero, le_refl}
use native.Mathlib.Omega.{arith}
use lib.Dec.{ltb}
use lib.ListN.{length, get_or, set}
use lib.Seq.{get_or-set_same, get_or-set_other}
use lib.Ieee.{Float}
use Rattle.float32.proofs.Tests.{below_or_not}
use Rattle.lists.specs.Run.{Step, taken, halted, Ran, done, refused, and_then, left, all_or_none}
use Rattle.panel.specs.Limits.{most_lines, most_steps, most_slots}
use Rattle.panel.specs.Refusals.{count_over, no_room_word, line_number}
use Rattle.panel.specs.declared.kinds.Path.{Path}
use Rattle.panel.specs.Verdict.{Verdict}
use Rattle.panel.specs.Verdict.{Fine, Against}
use Rattle.walk.specs.declared.kinds.Walk.{Walk}
use Rattle.clip.specs.Page.{clipped_of}
use Rattle.clip.specs.declared.Clip.{Clip}
use Rattle.acts.specs.Acts.{St, run_acts, delta_of}
use Rattle.acts.specs.Line.{Plan, plan_acts, plan_step, Refusal}
use Rattle.acts.proofs.Once.{said_no}
use Rattle.acts.proofs.Lines.{plan_far, plan_full, plan_runs, batch_goes, batch_stops, batch_ends}
use Rattle.walked_lines.specs.Line.{plan_by, plan_of, line_step}
use Rattle.path_count.specs.Count.{batch}
use Rattle.walked_lines.specs.Tallied.{Tallied}
use Rattle.walked_lines.proofs.Lines.{not_far, is_far, line_over, line_made, ran_halted}
use Rattle.path_count.proofs.Batches.{batches}
use Rattle.own_count.specs.Own.{zeroed, own_to}
use Rattle.own_count.specs.View.{view_of, KeptFrom, ActsRan, Acted, StepAs, start_of, StartsNoted}
use Rattle.own_count.proofs.Shown.{view_kept}

-- ---- a walk. The plan is that of the clip in hand

plan_is : (w : Walk) (b : Path) (c : Clip) → c ≡ clipped_of w b → plan_of w b ≡ plan_by (not w.e.is_down) w.pace b c
unfolding plan_of
plan_is w b c e = rw e

pub view_made : (n : ℕ) (ws : List ℕ) (m : ℕ) → (view_of n ws m).made ≡ m
unfolding view_of
view_made n ws m = refl

module _ (l : ℕ) (w : Walk) (b : Path) (c : Clip) (e : c ≡ clipped_of w b) (n : ℕ) (ws : List ℕ) (made : ℕ) where
  by_clip : (o : Step St ℕ) → plan_step most_slots l (plan_by (not w.e.is_down) w.pace b c) (view_of n ws made) ≡ o → plan_step most_slots l (plan_of w b) (view_of n ws made) ≡ o
  by_clip o q = ap (λ (p : Plan). plan_step most_slots l p (view_of n ws made)) (plan_is w b c e) ∙ q

  pub own_far : (ltb c.imin c.imax && ltb most_steps c.imax) ≡ true → plan_step most_slots l (plan_of w b) (view_of n ws made) ≡ halted count_over
  own_far h = let f = is_far c.imin c.imax h in by_clip (halted count_over) (plan_far most_slots l _ (view_of n ws made) f.0 f.1)

  module _ (h : (ltb c.imin c.imax && ltb most_steps c.imax) ≡ false) where
    pub own_full : most_slots < made + (c.imax - c.imin) → plan_step most_slots l (plan_of w b) (view_of n ws made) ≡ halted no_room_word
    own_full k =
        by_clip (halted no_room_word)
        (plan_full most_slots l (plan_by (not w.e.is_down) w.pace b c) (view_of n ws made) (not_far c.imin c.imax h) (omega (arith, view_made n ws made)))

    module _ (k : made + (c.imax - c.imin) ≤ most_slots) (ws' : List ℕ) (v : Verdict)
        (a : Acted (delta_of (not w.e.is_down)) (plan_acts (plan_by (not w.e.is_down) w.pace b c)) n ws ws' (c.imax - c.imin) v) where
      runs : plan_step most_slots l (plan_by (not w.e.is_down) w.pace b c) (view_of n ws made)
          ≡ all_or_none (run_acts (delta_of (not w.e.is_down)) l (plan_acts (plan_by (not w.e.is_down) w.pace b c)) (view_of n ws made))
      runs = plan_runs most_slots l (plan_by (not w.e.is_down) w.pace b c) (view_of n ws made) (not_far c.imin c.imax h) (omega (arith, view_made n ws made))

      pub own_refused : (why : ℕ) → v ≡ Against why → plan_step most_slots l (plan_of w b) (view_of n ws made) ≡ halted why
      own_refused why q =
          let r = said_no (run_acts (delta_of (not w.e.is_down)) l (plan_acts (plan_by (not w.e.is_down) w.pace b c)) (view_of n ws made)) why (ran q l made) in
          by_clip (halted why) (runs ∙ ap all_or_none r.1)
        where
          ran : v ≡ Against why → ActsRan (delta_of (not w.e.is_down)) (plan_acts (plan_by (not w.e.is_down) w.pace b c)) n ws ws' (c.imax - c.imin) (Against why)
          ran q = subst (ActsRan (delta_of (not w.e.is_down)) (plan_acts (plan_by (not w.e.is_down) w.pace b c)) n ws ws' (c.imax - c.imin)) q a.ran

      pub own_done : v ≡ Fine → plan_step most_slots l (plan_of w b) (view_of n ws made) ≡ taken (view_of n ws' (made + (c.imax - c.imin)))
      own_done q = by_clip (taken (view_of n ws' (made + (c.imax - c.imin)))) (runs ∙ ap all_or_none (ran q l made))
        where
          ran : v ≡ Fine → ActsRan (delta_of (not w.e.is_down)) (plan_acts (plan_by (not w.e.is_down) w.pace b c)) n ws ws' (c.imax - c.imin) Fine
          ran q = subst (ActsRan (delta_of (not w.e.is_down)) (plan_acts (plan_by (not w.e.is_down) w.pace b c)) n ws ws' (c.imax - c.imin)) q a.ran

-- the same step of a line by another name
pub step_as : (n : ℕ) (ws : List ℕ) (made : ℕ) (o p : Step St ℕ) (r : Tallied) → o ≡ p → StepAs n ws made p r → StepAs n ws made o r
step_as n ws made o p r e s = subst (λ (q : Step St ℕ). StepAs n ws made q r) (sym e) s

pub skipped_as : (n : ℕ) (ws : List ℕ) (made : ℕ) → ◌≡◌ {A = Step St ℕ} (taken (view_of n ws made)) (taken (view_of n ws (made + 0)))
skipped_as n ws made = ap (λ (m : ℕ). taken (view_of n ws m)) (sym (add-zero made))

-- ---- all lines

module _ (nos : List ℕ) (coords : List Float) (paths : List ℕ) (tiles : ℕ) where
  pub own_none : own_to nos coords paths tiles 0 ≡ done (zeroed tiles)
  unfolding own_to
  own_none = sym (batch_ends (λ l. line_step nos coords paths most_slots l l) 0 0 (zeroed tiles) _ (le_refl 0) refl)

  cut : (a c : ℕ) (s : St) → a ≤ c → own_to nos coords paths tiles a ≡ done s → own_to nos coords paths tiles c ≡ batch nos coords paths most_slots a c s
  unfolding own_to
  cut a c s h e = batches nos coords paths most_slots 0 a c (zeroed tiles) (omega arith) h ∙ ap (λ (o : Ran St Refusal). and_then o (batch nos coords paths most_slots a c)) e

  module _ (l : ℕ) (s : St) (e : own_to nos coords paths tiles l ≡ done s) where
    pub own_next : (s' : St) → line_step nos coords paths most_slots l l s ≡ taken s' → own_to nos coords paths tiles (l + 1) ≡ done s'
    own_next s' q =
        cut l (l + 1) s (omega arith) e
        ∙ sym (batch_ends (λ k. line_step nos coords paths most_slots k k) (l + 1) (l + 1) s' _ (le_refl (l + 1))
        (batch_goes (λ k. line_step nos coords paths most_slots k k) l (l + 1) s (omega arith) _ refl s' q))

    pub own_stops : (c : ℕ) → l < c → (why : ℕ) → line_step nos coords paths most_slots l l s ≡ halted why → own_to nos coords paths tiles c ≡ refused s (record { no = why; line = l })
    own_stops c h why q = cut l c s (omega arith) e ∙ sym (batch_stops (λ k. line_step nos coords paths most_slots k k) l c s h _ refl why q)

    -- a line past the last number
    pub own_over : (c : ℕ) → l < c → most_lines ≤ l → own_to nos coords paths tiles c ≡ refused s (record { no = line_number; line = l })
    own_over c h k =
        own_stops c h line_number
        (ran_halted (line_step nos coords paths most_slots l l s) s s line_number (line_over nos coords paths most_slots l l s k)).0

  -- one line more, in the room
  module _ (l made : ℕ) (ws ws' : List ℕ) (fits : tiles + tiles + l < length ws) (e : own_to nos coords paths tiles l ≡ done (view_of tiles ws made)) where
    abbrev put : List ℕ
    put = set ws (tiles + tiles + l) made

    pub own_here : own_to nos coords paths tiles l ≡ done (view_of tiles (set ws (tiles + tiles + l) made) made)
    own_here = e ∙ ap done (sym (view_kept tiles ws made (omega arith) (tiles + tiles + l) made (omega arith)))

    pub starts_more : StartsNoted nos coords paths tiles ws (tiles + tiles) l → KeptFrom (tiles + tiles) (set ws (tiles + tiles + l) made) ws'
        → StartsNoted nos coords paths tiles ws' (tiles + tiles) (l + 1)
    starts_more h k j g = k.kept (tiles + tiles + j) (omega arith) ∙ go (below_or_not j l)
      where
        go : (j < l) ⊎ (l ≤ j) → get_or (set ws (tiles + tiles + l) made) (tiles + tiles + j) 0 ≡ start_of nos coords paths tiles j
        go (inl p) = get_or-set_other ws (tiles + tiles + l) (tiles + tiles + j) made 0 (λ q. absurd (omega arith)) ∙ h j p
        go (inr p) =
            let q : j ≡ l = omega arith in
            subst (λ (i : ℕ). get_or (set ws (tiles + tiles + l) made) (tiles + tiles + i) 0 ≡ start_of nos coords paths tiles i) (sym q)
            (get_or-set_same ws (tiles + tiles + l) made 0 fits ∙ sym (view_made tiles ws made) ∙ sym (ap (λ (o : Ran St Refusal). (left o).made) e))

    -- the number of references fits a word
    pub own_fits : made < 2 ^ 32 → (k : ℕ) → line_step nos coords paths most_slots l l (view_of tiles (set ws (tiles + tiles + l) made) made) ≡ taken (view_of tiles ws' (made + k)) →
        made + k < 2 ^ 32
    own_fits h k q =
        omega (
          arith,
          line_made nos coords paths most_slots l l (view_of tiles put made) (view_of tiles ws' (made + k)) (omega (arith, view_made tiles put made)) q,
          view_made tiles
              ws' (made + k),
        )
