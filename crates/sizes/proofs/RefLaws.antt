-- A line's references by its clip, and the lines one after another. Assumes nothing.
use mathlib.Core.Path.{◌≡◌, refl, sym, ap, ◌∙◌}
use mathlib.Core.Bool.{Bool, true, false, not, ◌&&◌}
use mathlib.Core.List.{List}
use Prim.Native.Nat.{ℕ, suc, ◌+◌, ◌-◌, ◌≤◌, ◌<◌}
use native.Mathlib.Nat.{add-zero}
use native.Mathlib.Numerals.{add-one}
use native.Mathlib.Omega.{arith}
use lib.Dec.{leb, ltb}
use lib.ListN.{length}
use lib.Ieee.{Float}
use borrow.Author.Tests.{lt-ltb, le-ltb, lt-leb, le-leb, ltb-false}
use Rattle.lists.specs.Run.{Step, taken, halted, Ran, done, refused, on_step}
use Rattle.panel.specs.Limits.{most_lines, most_steps, most_slots}
use Rattle.panel.specs.Refusals.{count_over, no_room_word, line_number}
use Rattle.panel.specs.declared.kinds.Path.{Path}
use Rattle.walk.specs.Lent.{walk_at}
use Rattle.walk.specs.declared.kinds.Walk.{Walk}
use Rattle.walk.specs.Walked.{Walked}
use Rattle.walk.specs.Walked.{Refused as WalkRefused, Skipped, Line}
use Rattle.clip.specs.Page.{clipped_of}
use Rattle.clip.specs.declared.Clip.{Clip}
use Rattle.acts.specs.Line.{Plan, too_far, Refusal}
use Rattle.walked_lines.specs.Line.{plan_by, plan_of}
use Rattle.sizes.specs.Refs.{stop_if, plan_size, walked_size, line_size, size_at, lines_size, told_ran, refs_of}
use Rattle.sizes.specs.RefsMade.{Made, Refused}

-- ---- a walk, by the clip in hand

plan_is : (w : Walk) (b : Path) (c : Clip) → c ≡ clipped_of w b → plan_by (not w.e.is_down) w.pace b c ≡ plan_of w b
unfolding plan_of
plan_is w b c e = rw e

module _ (w : Walk) (b : Path) (c : Clip) (e : c ≡ clipped_of w b) (made : ℕ) where
  by_clip : (o : Step ℕ ℕ) → o ≡ plan_size (plan_by (not w.e.is_down) w.pace b c) made → o ≡ plan_size (plan_of w b) made
  by_clip o q = q ∙ ap (λ (p : Plan). plan_size p made) (plan_is w b c e)

  pub size_far : (ltb c.imin c.imax && ltb most_steps c.imax) ≡ true → halted count_over ≡ plan_size (plan_of w b) made
  unfolding plan_size
  size_far h = by_clip (halted count_over) (rw h)

  module _ (h : (ltb c.imin c.imax && ltb most_steps c.imax) ≡ false) where
    pub size_full : most_slots < made + (c.imax - c.imin) → halted no_room_word ≡ plan_size (plan_of w b) made
    unfolding plan_size
    size_full k = by_clip (halted no_room_word) (rw (h, lt-ltb _ _ k))

    pub size_fits : made + (c.imax - c.imin) ≤ most_slots → taken (made + (c.imax - c.imin)) ≡ plan_size (plan_of w b) made
    unfolding plan_size
    size_fits k = by_clip (taken (made + (c.imax - c.imin))) (rw (h, le-ltb _ _ k))

-- ---- a line

module _ (nos : List ℕ) (coords : List Float) (paths : List ℕ) (l made : ℕ) where
  pub line_over : most_lines ≤ l → line_size nos coords paths l made ≡ halted line_number
  unfolding line_size
  line_over h = rw (le-leb _ _ h)

  pub line_walked : (x : Walked) → l < most_lines → walk_at nos coords paths l ≡ x → walked_size x made ≡ line_size nos coords paths l made
  unfolding line_size
  line_walked x h e = rw (lt-leb _ _ h, e)

  pub line_skipped : l < most_lines → walk_at nos coords paths l ≡ Skipped → taken (made + 0) ≡ line_size nos coords paths l made
  line_skipped h e = ap taken (add-zero made) ∙ line_walked Skipped h e

  -- a line that is taken leaves the references within the limit
  pub line_few : (m : ℕ) → made ≤ most_slots → line_size nos coords paths l made ≡ taken m → m ≤ most_slots
  unfolding line_size plan_size
  line_few m h e = go (walk_at nos coords paths l) (leb most_lines l) e
    where
      fits : (p : Plan) (a b : Bool) → ltb most_slots (made + (p.imax - p.imin)) ≡ b
          → stop_if a count_over (stop_if b no_room_word (taken (made + (p.imax - p.imin)))) ≡ taken m → m ≤ most_slots
      fits p true b f q = let z : ◌≡◌ {A = ℕ} 0 1 = cc in absurd (omega arith)
      fits p false true f q = let z : ◌≡◌ {A = ℕ} 0 1 = cc in absurd (omega arith)
      fits p false false f q =
          let s : made + (p.imax - p.imin) ≡ m = cc in
          omega (arith, ltb-false most_slots (made + (p.imax - p.imin)) f)

      go : (x : Walked) (a : Bool) → stop_if a line_number (walked_size x made) ≡ taken m → m ≤ most_slots
      go x true q = let z : ◌≡◌ {A = ℕ} 0 1 = cc in absurd (omega arith)
      go (WalkRefused n) false q = let z : ◌≡◌ {A = ℕ} 0 1 = cc in absurd (omega arith)
      go Skipped false q = let s : made ≡ m = cc in omega arith
      go (Line w b) false q = fits (plan_of w b) (too_far (plan_of w b)) (ltb most_slots (made + ((plan_of w b).imax - (plan_of w b).imin))) refl q

-- ---- the lines in order

module _ (nos : List ℕ) (coords : List Float) (paths : List ℕ) where
  lines_turn : (l n made : ℕ) → l < n
      → lines_size nos coords paths l n made ≡ on_step (size_at l (line_size nos coords paths l made)) made (lines_size nos coords paths (l + 1) n)
  unfolding lines_size
  lines_turn l n made h =
      let one_more : n - l ≡ suc (n - (l + 1)) = omega arith in
      rw (one_more, add-one l)

  module _ (l n made : ℕ) (all : Ran ℕ Refusal) (inv : lines_size nos coords paths l n made ≡ all) where
    turned : l < n → (o : Step ℕ ℕ) → line_size nos coords paths l made ≡ o → on_step (size_at l o) made (lines_size nos coords paths (l + 1) n) ≡ all
    turned h o q =
        ap (λ (x : Step ℕ ℕ). on_step (size_at l x) made (lines_size nos coords paths (l + 1) n)) (sym q)
        ∙ sym (lines_turn l n made h)
        ∙ inv

    pub lines_goes : l < n → (m : ℕ) → line_size nos coords paths l made ≡ taken m → lines_size nos coords paths (l + 1) n m ≡ all
    lines_goes h m q = turned h (taken m) q

    pub lines_stops : l < n → (why : ℕ) → line_size nos coords paths l made ≡ halted why → refused made (record { no = why; line = l }) ≡ all
    lines_stops h why q = turned h (halted why) q

    pub lines_ends : n ≤ l → done made ≡ all
    unfolding lines_size
    lines_ends h =
        let none_left : n - l ≡ 0 = omega arith in
        sym (rw none_left) ∙ inv

  -- what the code answers
  module _ (l made : ℕ) (inv : lines_size nos coords paths l (length nos) made ≡ lines_size nos coords paths 0 (length nos) 0) where
    pub refs_stops : l < length nos → (why : ℕ) → line_size nos coords paths l made ≡ halted why → Refused why l ≡ refs_of nos coords paths
    unfolding refs_of
    refs_stops h why q = ap told_ran (lines_stops l (length nos) made _ inv h why q)

    pub refs_made : length nos ≤ l → Made made ≡ refs_of nos coords paths
    unfolding refs_of
    refs_made h = ap told_ran (lines_ends l (length nos) made _ inv h)
