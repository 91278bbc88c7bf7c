-- Refusals are exact: each number is given where its ground holds, and nowhere else. Assumes nothing.
use mathlib.Core.Path.{◌≡◌, refl, sym, ap, ◌∙◌}
use mathlib.Core.Logic.{◌≢◌, ◌↔◌, ◌⊎◌, inl, inr}
use mathlib.Core.Bool.{Bool, true, false, cond}
use mathlib.Core.List.{List, [], ◌∷◌}
use Prim.Native.Nat.{ℕ, ◌+◌, ◌-◌, ◌≤◌, ◌<◌, min}
use native.Mathlib.Omega.{arith}
use native.Mathlib.Decide.{dec_lt, ℕ_discrete}
use lib.Dec.{ltb}
use lib.ListN.{length, get_or}
use lib.IntN.{ℤ, pos, ◌+ℤ◌}
use lib.Ieee.{Float}
use borrow.Author.Tests.{le-ltb, le-leb, lt-leb, eq-eqb, ne_eqb, ltb-true, ltb-false}
use Rattle.lists.specs.Run.{Step, halted, Ran, done, refused, all_or_none, run_refused, run_stopped}
use Rattle.lists.specs.Sums.{sum}
use Rattle.panel.specs.Limits.{most_tiles, most_lines, most_count, most_slots}
use Rattle.panel.specs.Refusals.{not_whole, too_many, no_room_word, line_number, coordinate, no_such, count_over, sum_over}
use Rattle.panel.specs.Paths.{path_at, path_count}
use Rattle.panel.specs.declared.kinds.Path.{Path}
use Rattle.panel.specs.Checks.{Check, first_no}
use Rattle.panel.specs.Verdict.{Against}
use Rattle.panel.specs.Answer.{Done, Refused}
use Rattle.hand_out.specs.HandOut.{out_of, hand_out_of, hand}
use Rattle.util.specs.declared.Vec2.{Vec2}
use Rattle.walk.specs.Page.{line_of}
use Rattle.walk.proofs.Lines.{skipped}
use Rattle.walk.specs.Lent.{line_at, reached_of, walked_of, walk_at}
use Rattle.walk.specs.declared.kinds.Walk.{Walk}
use Rattle.walk.specs.Walked.{Walked}
use Rattle.walk.specs.Walked as Found
use Rattle.panel.specs.Signed.{in_i32}
use Rattle.acts.specs.Acts.{St, Act, mark, visit, stop, marked, visited, take_if, act, run_acts, delta_of}
use Rattle.acts.specs.Line.{Plan, plan_acts, halt_if, too_far, plan_step}
use Rattle.acts.proofs.Lines.{plan_far, plan_full, plan_runs}
use Rattle.walked_lines.specs.Line.{plan_of, walked_step, line_step}
use Rattle.walked_lines.proofs.Lines.{is_far, not_far}
use Rattle.theorems.specs.Refusing.{RowWhy, HandExact, Walks, StopsAt, ActWhy, LineWhy, five, six, seven, eight, nine, ten, stops}
use Rattle.theorems.proofs.Grounds.{ends_exact, ends_good, good_ends, plan_hit, plan_stops, plan_halts}

pub no_clash : {A : Type 0} → ◌≡◌ {A = ℕ} 0 1 → A
no_clash z = absurd (omega arith)

-- ---- a row of checks

pub row_exact : (n : ℕ) (cs : List Check) → (first_no cs ≡ Against n) ↔ RowWhy n cs
row_exact n cs = (why cs, halts cs)
  where
    why : (cs : List Check) → first_no cs ≡ Against n → RowWhy n cs
    why [] e = no_clash cc
    why (c ∷ more) e = go c.ok refl e (why more)
      where
        go : (b : Bool) → c.ok ≡ b → cond b (first_no more) (Against c.no) ≡ Against n → (first_no more ≡ Against n → RowWhy n more) → RowWhy n (c ∷ more)
        go true q d ih = inr (q, ih d)
        go false q d ih = inl (q, cc)

    halts : (cs : List Check) → RowWhy n cs → first_no cs ≡ Against n
    halts [] h = absurd h
    halts (c ∷ more) (inl h) = rw (h.0, h.1)
    halts (c ∷ more) (inr h) = rw h.0 (halts more h.1)

-- ---- hand-out

-- its answer by cases: exactly one of the four grounds holds, and the answer is that one's
pub data HandCase (room : ℕ) (ns kept : List ℕ) : Type 0 where
  unpaired : length ns ≢ length kept → hand_out_of room ns kept ≡ out_of (Refused not_whole 0) ns kept → HandCase room ns kept
  many : length ns ≡ length kept → most_tiles < length ns → hand_out_of room ns kept ≡ out_of (Refused too_many 0) ns kept → HandCase room ns kept
  over : length ns ≡ length kept → length ns ≤ most_tiles → min room most_slots < sum ns → hand_out_of room ns kept ≡ out_of (Refused no_room_word 0) ns kept → HandCase room ns kept
  fine : length ns ≡ length kept → length ns ≤ most_tiles → sum ns ≤ min room most_slots → hand_out_of room ns kept ≡ out_of Done (hand 0 ns) ns → HandCase room ns kept

pub hand_case : (room : ℕ) (ns kept : List ℕ) → HandCase room ns kept
unfolding hand_out_of
hand_case room ns kept = go (ℕ_discrete (length ns) (length kept)) (dec_lt most_tiles (length ns)) (dec_lt room (sum ns)) (dec_lt most_slots (sum ns))
  where
    go : Dec (length ns ≡ length kept) → Dec (most_tiles < length ns) → Dec (room < sum ns) → Dec (most_slots < sum ns) → HandCase room ns kept
    go (no a) b c d = unpaired a (rw (ne_eqb (length ns) (length kept) a))
    go (yes a) (yes b) c d = many a b (rw (eq-eqb (length ns) (length kept) a, lt-leb (length ns) most_tiles b))
    go (yes a) (no b) (yes c) d =
        over a (omega arith) (omega arith) (rw (eq-eqb (length ns) (length kept) a, le-leb (length ns) most_tiles (omega arith), lt-leb (sum ns) room c))
    go (yes a) (no b) (no c) (yes d) =
        over a (omega arith) (omega arith)
        (rw (eq-eqb (length ns) (length kept) a, le-leb (length ns) most_tiles (omega arith), le-leb (sum ns) room (omega arith), lt-leb (sum ns) most_slots d))
    go (yes a) (no b) (no c) (no d) =
        fine a (omega arith) (omega arith)
        (rw (eq-eqb (length ns) (length kept) a, le-leb (length ns) most_tiles (omega arith), le-leb (sum ns) room (omega arith), le-leb (sum ns) most_slots (omega arith)))

pub hand_exact : (room : ℕ) (ns kept : List ℕ) → HandExact room ns kept (hand_out_of room ns kept)
hand_exact room ns kept = go (hand_case room ns kept)
  where
    go : HandCase room ns kept → HandExact room ns kept (hand_out_of room ns kept)
    go (unpaired a e) =
        rw e record {
          one = ((λ p. a), (λ p. refl));
          two = ((λ p. no_clash cc), (λ p. absurd (a p.0)));
          nine = ((λ p. no_clash cc), (λ p. absurd (a p.0)));
          none = ((λ p. no_clash cc), (λ p. absurd (a p.0)));
          kept_all = λ p. (refl, refl);
        }
    go (many a b e) =
        rw e record {
          one = ((λ p. no_clash cc), (λ p. absurd (p a)));
          two = ((λ p. (a, b)), (λ p. refl));
          nine = ((λ p. no_clash cc), (λ p. absurd (omega (arith, p.1))));
          none = ((λ p. no_clash cc), (λ p. absurd (omega (arith, p.1))));
          kept_all = λ p. (refl, refl);
        }
    go (over a b c e) =
        rw e record {
          one = ((λ p. no_clash cc), (λ p. absurd (p a)));
          two = ((λ p. no_clash cc), (λ p. absurd (omega (arith, p.1))));
          nine = ((λ p. (a, b, c)), (λ p. refl));
          none = ((λ p. no_clash cc), (λ p. absurd (omega (arith, p.2))));
          kept_all = λ p. (refl, refl);
        }
    go (fine a b c e) =
        rw e record {
          one = ((λ p. no_clash cc), (λ p. absurd (p a)));
          two = ((λ p. no_clash cc), (λ p. absurd (omega (arith, p.1))));
          nine = ((λ p. no_clash cc), (λ p. absurd (omega (arith, p.2))));
          none = ((λ p. (a, b, c)), (λ p. refl));
          kept_all = λ p. absurd (p refl);
        }

-- ---- a line

-- an act that can't be done
act_why : (δ : ℤ) (l : ℕ) (a : Act) (u : St) (n : ℕ) → act δ l a u ≡ halted n → ActWhy δ u a n ⊎ ((m : ℕ) × (a ≡ stop m) × (m ≡ n))
act_why δ l (mark t) u n e = inl (go (in_i32 (get_or u.backs t (pos 0) +ℤ δ)) (marked δ t u) refl e)
  where
    go : (b : Bool) (v : St) → in_i32 (get_or u.backs t (pos 0) +ℤ δ) ≡ b → take_if b v sum_over ≡ halted n → ActWhy δ u (mark t) n
    go true v q f = no_clash cc
    go false v q f = (cc, q)
act_why δ l (visit t i) u n e = inl (go (ltb (get_or u.counts t 0) most_count) (visited l t i u) refl e)
  where
    go : (b : Bool) (v : St) → ltb (get_or u.counts t 0) most_count ≡ b → take_if b v count_over ≡ halted n → ActWhy δ u (visit t i) n
    go true v q f = no_clash cc
    go false v q f = (cc, ltb-false (get_or u.counts t 0) most_count q)
act_why δ l (stop m) u n e = inr (m, refl, cc)

act_halts : (δ : ℤ) (l : ℕ) (a : Act) (u : St) (n : ℕ) → ActWhy δ u a n → act δ l a u ≡ halted n
act_halts δ l (mark t) u n e = rw (e.0, e.1)
act_halts δ l (visit t i) u n e = rw (e.0, le-ltb (get_or u.counts t 0) most_count e.1)
act_halts δ l (stop m) u n e = absurd e

-- a run of acts that is refused
run_why : (δ : ℤ) (l : ℕ) (xs : List Act) (s u : St) (n : ℕ) → run_acts δ l xs s ≡ refused u n
    → (a : Act) × StopsAt δ l xs s u a × (ActWhy δ u a n ⊎ ((m : ℕ) × (a ≡ stop m) × (m ≡ n)))
unfolding run_acts
run_why δ l xs s u n e =
    let w = run_refused (act δ l) xs s u n e in
    (w.culprit, record { before = w.before; after = w.after; split = w.split; ran = w.ran }, act_why δ l w.culprit u n w.halts)

pub run_halts : (δ : ℤ) (l : ℕ) (xs : List Act) (s u : St) (n : ℕ) (a : Act) → StopsAt δ l xs s u a → ActWhy δ u a n → run_acts δ l xs s ≡ refused u n
unfolding run_acts
run_halts δ l xs s u n a w k =
    run_stopped (act δ l) xs s u n
    (record { before = w.before; culprit = a; after = w.after; split = w.split; ran = w.ran; halts = act_halts δ l a u n k })

-- a line that is reached, of a path that is there, is skipped or walked
pub never : (p0 p1 : Vec2) (b : Path) (m : ℕ) → walked_of p0 p1 b ≡ Found.Refused m → ⊥
unfolding walked_of
never p0 p1 b m e = go (skipped p0 p1 b) e
  where
    go : (x : Bool) → cond x Found.Skipped (Found.Line (line_of p0 p1) b) ≡ Found.Refused m → ⊥
    go true f = no_clash cc
    go false f = no_clash cc

module _ (nos : List ℕ) (coords : List Float) (paths : List ℕ) (room l : ℕ) (s : St) (n : ℕ) where
  none_halts : (o : Ran St ℕ) → all_or_none o ≡ halted n → (u : St) × (o ≡ refused u n)
  none_halts (done u) e = no_clash cc
  none_halts (refused u m) e = let q : m ≡ n = cc in (u, ap (refused u) q)

  plan_why : (w : Walk) (b : Path) → Walks nos coords paths l w b → plan_step room l (plan_of w b) s ≡ halted n → LineWhy nos coords paths room l s n
  unfolding plan_step
  plan_why w b k e = go (too_far (plan_of w b)) refl (ltb (min room most_slots) after) refl e
    where
      p : Plan
      p = plan_of w b

      after : ℕ
      after = s.made + ((plan_of w b).imax - (plan_of w b).imin)

      go : (x : Bool) → too_far (plan_of w b) ≡ x → (y : Bool) → ltb (min room most_slots) after ≡ y
          → halt_if x count_over (halt_if y no_room_word (all_or_none (run_acts (delta_of (plan_of w b).up) l (plan_acts (plan_of w b)) s))) ≡ halted n
          → LineWhy nos coords paths room l s n
      go true f y g h = let q = is_far (plan_of w b).imin (plan_of w b).imax f in eight (cc) w b k q.0 q.1
      go false f true g h = nine (cc) w b k (not_far (plan_of w b).imin (plan_of w b).imax f) (ltb-true (min room most_slots) after g)
      go false f false g h =
          let o = none_halts (run_acts (delta_of (plan_of w b).up) l (plan_acts (plan_of w b)) s) h in
          let r = run_why (delta_of (plan_of w b).up) l (plan_acts (plan_of w b)) s o.0 n o.1 in
          why o.0 r.0 r.1 r.2
        where
          why : (u : St) (a : Act) → StopsAt (delta_of (plan_of w b).up) l (plan_acts (plan_of w b)) s u a
              → ActWhy (delta_of (plan_of w b).up) u a n ⊎ ((m : ℕ) × (a ≡ stop m) × (m ≡ n)) → LineWhy nos coords paths room l s n
          why u a st (inl c) = stops w b k (not_far (plan_of w b).imin (plan_of w b).imax f) (ltb-false (min room most_slots) after g) u a st c
          why u a st (inr c) =
              let t = plan_stops (plan_of w b) (delta_of (plan_of w b).up) l s u c.0 (rw c.1 at st) in
              ten (sym c.2 ∙ t.number) w b k (not_far (plan_of w b).imin (plan_of w b).imax f) (ltb-false (min room most_slots) after g) u t.step t.low t.high t.ran
              ((plan_hit w b t.step).0 t.is_off)

  -- what the walk of a line as it is lent tells, refused
  walk_why : (m : ℕ) → l < most_lines → walk_at nos coords paths l ≡ Found.Refused m → m ≡ n → LineWhy nos coords paths room l s n
  unfolding walk_at
  walk_why m h e q =
      go (reached_of (line_at coords l).p0 (line_at coords l).p1) refl (ltb (get_or nos l 0) (path_count paths)) refl
      (walked_of (line_at coords l).p0 (line_at coords l).p1 (path_at paths (get_or nos l 0))) refl e
    where
      go : (x : Bool) → reached_of (line_at coords l).p0 (line_at coords l).p1 ≡ x → (y : Bool) → ltb (get_or nos l 0) (path_count paths) ≡ y
          → (v : Walked) → walked_of (line_at coords l).p0 (line_at coords l).p1 (path_at paths (get_or nos l 0)) ≡ v
          → cond x (cond y v (Found.Refused no_such)) (Found.Refused coordinate) ≡ Found.Refused m → LineWhy nos coords paths room l s n
      go false f y g v i j = let z : coordinate ≡ m = cc in six (sym q ∙ sym z) h ((ends_exact (line_at coords l)).0 f)
      go true f false g v i j = let z : no_such ≡ m = cc in seven (sym q ∙ sym z) h (good_ends (line_at coords l) f) (ltb-false (get_or nos l 0) (path_count paths) g)
      go true f true g v i j = absurd (never (line_at coords l).p0 (line_at coords l).p1 (path_at paths (get_or nos l 0)) m (i ∙ j))

  found_no : (m : ℕ) → n ≡ m → (x : Bool) → reached_of (line_at coords l).p0 (line_at coords l).p1 ≡ x → (x ≡ false) × (m ≡ coordinate) → walk_at nos coords paths l ≡ Found.Refused n
  unfolding walk_at
  found_no m q x e f = rw (e ∙ f.0, q ∙ f.1)

  found_seven : n ≡ no_such → reached_of (line_at coords l).p0 (line_at coords l).p1 ≡ true → path_count paths ≤ get_or nos l 0 → walk_at nos coords paths l ≡ Found.Refused n
  unfolding walk_at
  found_seven q e f = rw (e, le-ltb (get_or nos l 0) (path_count paths) f, q)

  by_walk : l < most_lines → (x : Walked) → walk_at nos coords paths l ≡ x → line_step nos coords paths room l l s ≡ walked_step room l x s
  unfolding line_step
  by_walk h x e = rw (lt-leb most_lines l h, e)

  over_line : most_lines ≤ l → line_step nos coords paths room l l s ≡ halted line_number
  unfolding line_step
  over_line h = rw (le-leb most_lines l h)

  -- Refusals of a line, when counting, are exact: it is refused with n where one of the grounds of n holds, and nowhere else; it then leaves all as it was
  pub line_exact : (line_step nos coords paths room l l s ≡ halted n) ↔ LineWhy nos coords paths room l s n
  line_exact = (why, halts)
    where
      said : l < most_lines → (x : Walked) → walk_at nos coords paths l ≡ x → walked_step room l x s ≡ halted n → LineWhy nos coords paths room l s n
      said h (Found.Refused m) e f = walk_why m h e (cc)
      said h Found.Skipped e f = no_clash cc
      said h (Found.Line w b) e f = plan_why w b (h, e) f

      why : line_step nos coords paths room l l s ≡ halted n → LineWhy nos coords paths room l s n
      why e = go (dec_lt l most_lines)
        where
          go : Dec (l < most_lines) → LineWhy nos coords paths room l s n
          go (yes h) = said h (walk_at nos coords paths l) refl (sym (by_walk h (walk_at nos coords paths l) refl) ∙ e)
          go (no h) =
              let f : ◌≡◌ {A = Step St ℕ} (halted line_number) (halted n) = sym (over_line (omega arith)) ∙ e in
              five (cc) (omega arith)

      halts : LineWhy nos coords paths room l s n → line_step nos coords paths room l l s ≡ halted n
      halts (five q h) = over_line h ∙ ap halted (sym q)
      halts (six q h e) = by_walk h (Found.Refused n) (found_no coordinate q false ((ends_exact (line_at coords l)).1 e) (refl, refl))
      halts (seven q h e f) = by_walk h (Found.Refused n) (found_seven q (ends_good (line_at coords l) e) f)
      halts (eight q w b k f g) = by_walk k.0 (Found.Line w b) k.1 ∙ plan_far room l (plan_of w b) s f g ∙ ap halted (sym q)
      halts (nine q w b k f g) = by_walk k.0 (Found.Line w b) k.1 ∙ plan_full room l (plan_of w b) s f g ∙ ap halted (sym q)
      halts (ten q w b k f g u i low high ran c) =
          by_walk k.0 (Found.Line w b) k.1 ∙ plan_runs room l (plan_of w b) s f g
          ∙ ap all_or_none (plan_halts (plan_of w b) (delta_of (plan_of w b).up) l s u i low high ran ((plan_hit w b i).1 c)) ∙ ap halted (sym q)
      halts (stops w b k f g u a c d) =
          by_walk k.0 (Found.Line w b) k.1 ∙ plan_runs room l (plan_of w b) s f g
          ∙ ap all_or_none (run_halts (delta_of (plan_of w b).up) l (plan_acts (plan_of w b)) s u n a c d)
