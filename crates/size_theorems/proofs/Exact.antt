-- `sizes` is exact: its promise is met where one of its ways holds, and nowhere else. docs/THEOREMS.md, "Sizes". Assumes nothing.
use mathlib.Core.Path.{◌≡◌, refl, sym, ap, ◌∙◌}
use mathlib.Core.Logic.{◌↔◌}
use mathlib.Core.Bool.{Bool, true, false, cond, ◌&&◌}
use mathlib.Core.List.{List}
use Prim.Native.Nat.{ℕ, zero, suc, ◌+◌, ◌-◌, ◌≤◌, ◌<◌}
use native.Mathlib.Decide.{dec_lt}
use native.Mathlib.Omega.{arith}
use lib.Dec.{ltb}
use lib.ListN.{length, get_or}
use lib.Ieee.{Float}
use borrow.Author.Tests.{lt-ltb, le-ltb, ltb-true, ltb-false}
use Rattle.lists.specs.Run.{Step, taken, halted, Ran, done, refused, on_step, run, run_append_done}
use Rattle.lists.specs.Sums.{from, from_add}
use Rattle.panel.specs.Limits.{most_tiles, most_lines, most_steps, most_slots}
use Rattle.panel.specs.Refusals.{line_number, coordinate, no_such, count_over, no_room_word}
use Rattle.panel.specs.Checks.{first_no}
use Rattle.panel.specs.Paths.{path_at, path_count, paths_answer}
use Rattle.panel.specs.declared.kinds.Path.{Path}
use Rattle.panel.specs.Answer.{Answer}
use Rattle.panel.specs.Verdict.{Verdict, Fine, Against}
use Rattle.walk.specs.Lent.{line_at, reached_of, walked_of, walk_at}
use Rattle.walk.specs.declared.kinds.Walk.{Walk}
use Rattle.walk.specs.Walked.{Walked}
use Rattle.walk.specs.Walked as Found
use Rattle.acts.specs.Line.{Plan, too_far, Refusal}
use Rattle.walked_lines.specs.Line.{plan_of}
use Rattle.walked_lines.proofs.Lines.{is_far, not_far}
use Rattle.theorems.specs.Refusing.{BadEnds, Walks}
use Rattle.theorems.proofs.Exact.{no_clash, row_exact, never}
use Rattle.theorems.proofs.ExactPaths.{paths_exact}
use Rattle.theorems.proofs.Grounds.{ends_exact, ends_good, good_ends}
use Rattle.sizes.specs.Refs.{stop_if, plan_size, walked_size, line_size, size_at, lines_size, refs_of}
use Rattle.sizes.specs.Words.{tiles_of, words_of}
use Rattle.sizes.specs.Sizes.{call_answer, room_of, sizes_of, SizesMet}
use Rattle.sizes.specs.Measured.{Measured, Done, Refused}
use Rattle.sizes.proofs.RefLaws.{line_over, line_walked}
use Rattle.size_theorems.specs.Ways.{SizeWhy, five, six, seven, eight, nine, sizes_row, Passes, SizesWay, row_refused, paths_refused, line_refused, all_told}

-- ---- a line

near : (a b : ℕ) → (a < b → b ≤ most_steps) → (ltb a b && ltb most_steps b) ≡ false
near a b h = go (ltb a b) refl (ltb most_steps b) refl
  where
    go : (x : Bool) → ltb a b ≡ x → (y : Bool) → ltb most_steps b ≡ y → (x && y) ≡ false
    go false e y f = refl
    go true e false f = refl
    go true e true f = absurd (omega (arith, h (ltb-true a b e), ltb-true most_steps b f))

module _ (nos : List ℕ) (coords : List Float) (paths : List ℕ) (l made n : ℕ) where
  abbrev Why : Type 0
  Why = SizeWhy nos coords paths l made n

  found_why : (m : ℕ) → l < most_lines → walk_at nos coords paths l ≡ Found.Refused m → m ≡ n → Why
  unfolding walk_at
  found_why m h e q =
      go (reached_of (line_at coords l).p0 (line_at coords l).p1) refl (ltb (get_or nos l 0) (path_count paths)) refl
      (walked_of (line_at coords l).p0 (line_at coords l).p1 (path_at paths (get_or nos l 0))) refl e
    where
      go : (x : Bool) → reached_of (line_at coords l).p0 (line_at coords l).p1 ≡ x → (y : Bool) → ltb (get_or nos l 0) (path_count paths) ≡ y
          → (v : Walked) → walked_of (line_at coords l).p0 (line_at coords l).p1 (path_at paths (get_or nos l 0)) ≡ v
          → cond x (cond y v (Found.Refused no_such)) (Found.Refused coordinate) ≡ Found.Refused m → Why
      go false f y g v i j = let z : coordinate ≡ m = cc in six (sym q ∙ sym z) h ((ends_exact (line_at coords l)).0 f)
      go true f false g v i j = let z : no_such ≡ m = cc in seven (sym q ∙ sym z) h (good_ends (line_at coords l) f) (ltb-false (get_or nos l 0) (path_count paths) g)
      go true f true g v i j = absurd (never (line_at coords l).p0 (line_at coords l).p1 (path_at paths (get_or nos l 0)) m (i ∙ j))

  plan_why : (w : Walk) (b : Path) → Walks nos coords paths l w b → plan_size (plan_of w b) made ≡ halted n → Why
  unfolding plan_size
  plan_why w b k e = go (too_far (plan_of w b)) refl (ltb most_slots (made + ((plan_of w b).imax - (plan_of w b).imin))) refl e
    where
      go : (x : Bool) → too_far (plan_of w b) ≡ x → (y : Bool) → ltb most_slots (made + ((plan_of w b).imax - (plan_of w b).imin)) ≡ y
          → stop_if x count_over (stop_if y no_room_word (taken (made + ((plan_of w b).imax - (plan_of w b).imin)))) ≡ halted n → Why
      go true f y g q =
          let z : count_over ≡ n = cc in
          let t = is_far (plan_of w b).imin (plan_of w b).imax f in
          eight (sym z) w b k t.0 t.1
      go false f true g q =
          let z : no_room_word ≡ n = cc in
          nine (sym z) w b k (not_far (plan_of w b).imin (plan_of w b).imax f) (ltb-true most_slots (made + ((plan_of w b).imax - (plan_of w b).imin)) g)
      go false f false g q = no_clash cc

  said : l < most_lines → (x : Walked) → walk_at nos coords paths l ≡ x → walked_size x made ≡ halted n → Why
  said h (Found.Refused m) e f = found_why m h e cc
  said h Found.Skipped e f = no_clash cc
  said h (Found.Line w b) e f = plan_why w b (h, e) f

  line_why : line_size nos coords paths l made ≡ halted n → Why
  line_why e = go (dec_lt l most_lines)
    where
      go : Dec (l < most_lines) → Why
      go (yes h) = said h (walk_at nos coords paths l) refl (line_walked nos coords paths l made (walk_at nos coords paths l) h refl ∙ e)
      go (no h) =
          let f : ◌≡◌ {A = Step ℕ ℕ} (halted line_number) (halted n) = sym (line_over nos coords paths l made (omega arith)) ∙ e in
          let z : line_number ≡ n = cc in
          five (sym z) (omega arith)

  found_six : BadEnds (line_at coords l) → walk_at nos coords paths l ≡ Found.Refused coordinate
  unfolding walk_at
  found_six h = rw ((ends_exact (line_at coords l)).1 h)

  found_seven : (BadEnds (line_at coords l) → ⊥) → path_count paths ≤ get_or nos l 0 → walk_at nos coords paths l ≡ Found.Refused no_such
  unfolding walk_at
  found_seven h k = rw (ends_good (line_at coords l) h, le-ltb (get_or nos l 0) (path_count paths) k)

  plan_eight : (p : Plan) → p.imin < p.imax → most_steps < p.imax → plan_size p made ≡ halted count_over
  unfolding plan_size
  plan_eight p h k = rw (lt-ltb _ _ h, lt-ltb _ _ k)

  plan_nine : (p : Plan) → (p.imin < p.imax → p.imax ≤ most_steps) → most_slots < made + (p.imax - p.imin) → plan_size p made ≡ halted no_room_word
  unfolding plan_size
  plan_nine p h k = rw (near p.imin p.imax h, lt-ltb _ _ k)

  line_halts : Why → line_size nos coords paths l made ≡ halted n
  line_halts (five q h) = line_over nos coords paths l made h ∙ ap halted (sym q)
  line_halts (six q h b) = sym (line_walked nos coords paths l made (Found.Refused coordinate) h (found_six b)) ∙ ap halted (sym q)
  line_halts (seven q h b k) = sym (line_walked nos coords paths l made (Found.Refused no_such) h (found_seven b k)) ∙ ap halted (sym q)
  line_halts (eight q w b h i j) = sym (line_walked nos coords paths l made (Found.Line w b) h.0 h.1) ∙ plan_eight (plan_of w b) i j ∙ ap halted (sym q)
  line_halts (nine q w b h i j) = sym (line_walked nos coords paths l made (Found.Line w b) h.0 h.1) ∙ plan_nine (plan_of w b) i j ∙ ap halted (sym q)

  -- A line's refusals are exact
  pub line_size_exact : (line_size nos coords paths l made ≡ halted n) ↔ SizeWhy nos coords paths l made n
  line_size_exact = (line_why, line_halts)

-- ---- all lines

module _ (nos : List ℕ) (coords : List Float) (paths : List ℕ) where
  abbrev step : ℕ → ℕ → Step ℕ Refusal
  step l m = size_at l (line_size nos coords paths l m)

  record Stops (k a m₀ m nr line : ℕ) : Type 0 where
    at : ℕ
    inside : at < k
    is : line ≡ a + at
    ran : run step (from a at) m₀ ≡ done m
    halts : line_size nos coords paths (a + at) m ≡ halted nr

  runs_why : (k a m₀ m nr line : ℕ) → run step (from a k) m₀ ≡ refused m (record { no = nr; line = line }) → Stops k a m₀ m nr line
  runs_why zero a m₀ m nr line e = no_clash cc
  runs_why (suc k) a m₀ m nr line e = go (line_size nos coords paths a m₀) refl e (runs_why k (suc a))
    where
      go : (o : Step ℕ ℕ) → line_size nos coords paths a m₀ ≡ o → on_step (size_at a o) m₀ (run step (from (suc a) k)) ≡ refused m (record { no = nr; line = line })
          → ((m₁ m nr line : ℕ) → run step (from (suc a) k) m₁ ≡ refused m (record { no = nr; line = line }) → Stops k (suc a) m₁ m nr line) → Stops (suc k) a m₀ m nr line
      go (taken m₁) q f ih =
          let w = ih m₁ m nr line f in
          let z : suc a + w.at ≡ a + suc w.at = omega arith in
          record {
            at = suc w.at;
            inside = omega (arith, w.inside);
            is = w.is ∙ z;
            ran = ap (λ (o : Step ℕ ℕ). on_step (size_at a o) m₀ (run step (from (suc a) w.at))) q ∙ w.ran;
            halts = rw z at w.halts;
          }
      go (halted n) q f ih =
          let x : m₀ ≡ m = cc in
          let k : ◌≡◌ {A = Refusal} (record { no = n; line = a }) (record { no = nr; line = line }) = cc in
          let y : n ≡ nr = ap (λ (r : Refusal). r.no) k in
          let v : a ≡ line = ap (λ (r : Refusal). r.line) k in
          let z : a + 0 ≡ a = omega arith in
          record {
            at = 0;
            inside = omega arith;
            is = sym v ∙ sym z;
            ran = ap done x;
            halts = ap (λ (j : ℕ). line_size nos coords paths j m) z ∙ ap (λ (j : ℕ). line_size nos coords paths a j) (sym x) ∙ q ∙ ap halted y;
          }

  pub lines_why : (n m nr line : ℕ) → lines_size nos coords paths 0 n 0 ≡ refused m (record { no = nr; line = line })
      → (line < n) × (lines_size nos coords paths 0 line 0 ≡ done m) × (line_size nos coords paths line m ≡ halted nr)
  unfolding lines_size
  lines_why n m nr line e =
      let w = runs_why (n - 0) 0 0 m nr line e in
      let z : w.at ≡ line - 0 = omega (arith, w.is) in
      let y : 0 + w.at ≡ line = omega (arith, w.is) in
      (omega (arith, w.is, w.inside), rw z at w.ran, rw y at w.halts)

  lines_halt : (n m nr line : ℕ) → line < n → lines_size nos coords paths 0 line 0 ≡ done m → line_size nos coords paths line m ≡ halted nr
      → lines_size nos coords paths 0 n 0 ≡ refused m (record { no = nr; line = line })
  unfolding lines_size
  lines_halt n m nr line h e f =
      let cut : n - 0 ≡ (line - 0) + suc (n - suc line) = omega arith in
      let here : 0 + (line - 0) ≡ line = omega arith in
      ap (λ (k : ℕ). run step (from 0 k) 0) cut
      ∙ ap (λ (xs : List ℕ). run step xs 0) (from_add 0 (line - 0) (suc (n - suc line)))
      ∙ run_append_done step (from 0 (line - 0)) (from (0 + (line - 0)) (suc (n - suc line))) 0 m e
      ∙ rw here (ap (λ (o : Step ℕ ℕ). on_step (size_at line o) m (run step (from (suc line) (n - suc line)))) f)

-- ---- the call

module _ (nos : List ℕ) (coords : List Float) (paths : List ℕ) (cols rows : ℕ) where
  abbrev Way : Measured → Type 0
  Way x = SizesWay nos coords paths cols rows x

  by_row : (n : ℕ) → first_no (sizes_row nos coords paths cols rows) ≡ Against n → Refused n 0 ≡ sizes_of nos coords paths cols rows
  unfolding sizes_of call_answer
  by_row n e = rw e

  by_paths : (n k : ℕ) → first_no (sizes_row nos coords paths cols rows) ≡ Fine → paths_answer paths most_tiles ≡ Answer.Refused n k
      → Refused n k ≡ sizes_of nos coords paths cols rows
  unfolding sizes_of call_answer
  by_paths n k e f = rw (e, f)

  by_line : (m nr line : ℕ) → Passes nos coords paths cols rows → lines_size nos coords paths 0 (length nos) 0 ≡ refused m (record { no = nr; line = line })
      → Refused nr line ≡ sizes_of nos coords paths cols rows
  unfolding sizes_of call_answer refs_of
  by_line m nr line h e = rw (h.0, h.1, e)

  by_all : (m : ℕ) → Passes nos coords paths cols rows → lines_size nos coords paths 0 (length nos) 0 ≡ done m
      → Done (room_of (tiles_of paths) m (words_of paths cols rows)) ≡ sizes_of nos coords paths cols rows
  unfolding sizes_of call_answer refs_of
  by_all m h e = rw (h.0, h.1, e)

  why : (x : Measured) → SizesMet nos coords paths cols rows x → Way x
  why x p = go (first_no (sizes_row nos coords paths cols rows)) refl (paths_answer paths most_tiles) refl (lines_size nos coords paths 0 (length nos) 0) refl
    where
      go : (v : Verdict) → first_no (sizes_row nos coords paths cols rows) ≡ v → (a : Answer) → paths_answer paths most_tiles ≡ a
          → (o : Ran ℕ Refusal) → lines_size nos coords paths 0 (length nos) 0 ≡ o → Way x
      go (Against n) e a f o g = row_refused n (p ∙ sym (by_row n e)) ((row_exact n (sizes_row nos coords paths cols rows)).0 e)
      go Fine e (Answer.Refused n k) f o g = paths_refused n k (p ∙ sym (by_paths n k e f)) e ((paths_exact paths most_tiles n k).0 f)
      go Fine e Answer.Done f (refused m r) g =
          let w = lines_why nos coords paths (length nos) m r.no r.line g in
          line_refused r.no r.line m (p ∙ sym (by_line m r.no r.line (e, f) g)) (e, f) w.0 w.1
          ((line_size_exact nos coords paths r.line m r.no).0 w.2)
      go Fine e Answer.Done f (done m) g = all_told m (p ∙ sym (by_all m (e, f) g)) (e, f) g

  back : (x : Measured) → Way x → SizesMet nos coords paths cols rows x
  back x (row_refused n q h) = q ∙ by_row n ((row_exact n (sizes_row nos coords paths cols rows)).1 h)
  back x (paths_refused n k q e h) = q ∙ by_paths n k e ((paths_exact paths most_tiles n k).1 h)
  back x (line_refused n l m q h k ran w) =
      q ∙ by_line m n l h (lines_halt nos coords paths (length nos) m n l k ran ((line_size_exact nos coords paths l m n).1 w))
  back x (all_told m q h ran) = q ∙ by_all m h ran

  -- The call is exact
  pub sizes_exact : (x : Measured) → SizesMet nos coords paths cols rows x ↔ SizesWay nos coords paths cols rows x
  sizes_exact x = (why x, back x)

  -- and leaves one answer only
  pub one_sizes : (a b : Measured) → SizesMet nos coords paths cols rows a → SizesMet nos coords paths cols rows b → a ≡ b
  one_sizes a b p q = p ∙ sym q
