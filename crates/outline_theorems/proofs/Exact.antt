-- The call's promise leaves one outcome only, and is met where one of its ways holds and nowhere else. Assumes nothing.
use mathlib.Core.Path.{◌≡◌, refl, sym, ap, subst, ◌∙◌}
use mathlib.Core.Bool.{Bool, true, false, ◌||◌}
use mathlib.Core.Logic.{◌↔◌}
use mathlib.Core.List.{List}
use Prim.Native.Nat.{ℕ, ◌*◌, ◌/◌, ◌%◌, ◌≤◌, ◌<◌}
use native.Mathlib.Decide.{ℕ_discrete, dec_lt}
use native.Mathlib.Omega.{arith}
use lib.Dec.{leb, eqb}
use lib.ListN.{length, get_or}
use lib.Ieee.{Float}
use borrow.Author.Tests.{eq-eqb, ne_eqb, eqb-true, le-leb, lt-leb, leb-true, leb-false, lt-ltb, le-ltb}
use Rattle.panel.specs.Limits.{most_paths, most_lines}
use Rattle.panel.specs.Refusals.{not_whole, too_many, line_number, no_such, no_room_word, left_open}
use Rattle.panel.specs.Widths.{line_floats}
use Rattle.panel.specs.Checks.{first_no}
use Rattle.panel.specs.Verdict.{Fine}
use Rattle.panel.specs.Answer.{Answer, Done, Refused}
use Rattle.panel.proofs.CheckLaws.{none_fails, fails_at}
use Rattle.meeting.proofs.FirstLaws.{first_is, first_hit, first_missed}
use Rattle.outlines.specs.Outlines as Outlines
use Rattle.outlines.specs.Outlines.{first_open}
use Rattle.outlines.specs.Call.{room_words, lent_checks, bad_line, first_bad, bad_answer, open_if, Out, cleared, outlines_of, OutlinesMet}
use Rattle.outlines.proofs.Opens.{open_first}
use Rattle.outlines.proofs.CallLaws.{bad_most, met_refused, met_bad, met_open}
use Rattle.groatpocket.specs.Seen.{SeenAt}
use Rattle.groatpocket.specs.CallOutlines.{GpOutlinesMet}
use Rattle.outline_theorems.specs.Ways.{Lent, Good, NoneOpen, OutlinesWay, unwhole, many, roomless, numberless, nowhere, ajar, closed}

-- ---- one answer

pub one_outlines : (nos : List ℕ) (fs : List Float) (paths : ℕ) (work : List ℕ) (a b : Answer) (w v : List ℕ)
    → OutlinesMet nos fs paths work a w → OutlinesMet nos fs paths work b v → (a ≡ b) × (w ≡ v)
one_outlines nos fs paths work a b w v d e = let q = d ∙ sym e in (ap (λ (o : Out). o.answer) q, ap (λ (o : Out). o.work) q)

pub one_gp_outlines : (nos : List ℕ) (fs : List Float) (paths : ℕ) (work : List ℕ) (r s i j : ℕ) (w v : List ℕ)
    → GpOutlinesMet nos fs paths work r i w → GpOutlinesMet nos fs paths work s j v → (r ≡ s) × (i ≡ j) × (w ≡ v)
one_gp_outlines nos fs paths work r s i j w v d e =
    let q = d ∙ sym e in
    (ap (λ (x : SeenAt (List ℕ)). x.number) q, ap (λ (x : SeenAt (List ℕ)). x.at) q, ap (λ (x : SeenAt (List ℕ)). x.lent) q)

-- ---- each ground, and what the call then comes to

module _ (nos : List ℕ) (fs : List Float) (paths : ℕ) (work : List ℕ) where
  no_remainder : length fs ≡ length nos * line_floats → (eqb (length fs % line_floats) 0 ≡ true) × (eqb (length nos) (length fs / line_floats) ≡ true)
  no_remainder e =
      let a : length fs % line_floats ≡ 0 = omega arith in
      let b : length nos ≡ length fs / line_floats = omega arith in
      (eq-eqb (length fs % line_floats) 0 a, eq-eqb (length nos) (length fs / line_floats) b)

  unwhole_met : (length fs ≡ length nos * line_floats → ⊥) → OutlinesMet nos fs paths work (Refused not_whole 0) work
  unwhole_met h = go (eqb (length fs % line_floats) 0) refl
    where
      go : (t : Bool) → eqb (length fs % line_floats) 0 ≡ t → OutlinesMet nos fs paths work (Refused not_whole 0) work
      go false e = met_refused nos fs paths work _ refl not_whole (fails_at 0 (lent_checks (length nos) (length fs) paths (length work)) e)
      go true e =
          let zero : length fs % line_floats ≡ 0 = eqb-true (length fs % line_floats) 0 e in
          let other : eqb (length nos) (length fs / line_floats) ≡ false = ne_eqb (length nos) (length fs / line_floats) (λ q. h (omega arith)) in
          met_refused nos fs paths work _ refl not_whole (fails_at 1 (lent_checks (length nos) (length fs) paths (length work)) (e, other))

  many_met : length fs ≡ length nos * line_floats → most_paths < paths → OutlinesMet nos fs paths work (Refused too_many 0) work
  many_met e h =
      let n = no_remainder e in
      met_refused nos fs paths work _ refl too_many (fails_at 2 (lent_checks (length nos) (length fs) paths (length work)) (n.0, (n.1, lt-leb paths most_paths h)))

  roomless_met : length fs ≡ length nos * line_floats → paths ≤ most_paths → length work < paths * room_words → OutlinesMet nos fs paths work (Refused no_room_word 0) work
  roomless_met e h g =
      let n = no_remainder e in
      met_refused nos fs paths work _ refl no_room_word
      (fails_at 3 (lent_checks (length nos) (length fs) paths (length work)) (n.0, (n.1, (le-leb paths most_paths h, lt-leb (paths * room_words) (length work) g))))

  fine : Lent nos fs paths work → first_no (lent_checks (length nos) (length fs) paths (length work)) ≡ Fine
  fine l =
      let n = no_remainder l.whole in
      none_fails (lent_checks (length nos) (length fs) paths (length work)) (n.0, (n.1, (le-leb paths most_paths l.few, (le-leb (paths * room_words) (length work) l.room, tt))))

  -- a line that has a number, and a path that is there, isn't bad
  not_bad : (k : ℕ) → k < most_lines → get_or nos k 0 < paths → bad_line nos paths k ≡ false
  not_bad k h g = ap (λ (t : Bool). t || leb paths (get_or nos k 0)) (lt-leb most_lines k h) ∙ lt-leb paths (get_or nos k 0) g

  bad_met : (l : ℕ) → Lent nos fs paths work → l < length nos → l ≡ first_bad nos paths → OutlinesMet nos fs paths work (bad_answer l) work
  bad_met l k h e = rw e (met_bad nos fs paths work _ refl (fine k) (omega arith))

  numberless_met : Lent nos fs paths work → most_lines < length nos → ((l : ℕ) → l < most_lines → get_or nos l 0 < paths) → OutlinesMet nos fs paths work (Refused line_number most_lines) work
  unfolding bad_answer first_bad
  numberless_met k h f =
      bad_met most_lines k h (first_is (bad_line nos paths) (length nos) most_lines (omega arith) (λ g. refl) (λ l g. not_bad l g (f l g)))

  nowhere_met : (l : ℕ) → Lent nos fs paths work → l < length nos → l < most_lines → paths ≤ get_or nos l 0 → ((k : ℕ) → k < l → get_or nos k 0 < paths)
      → OutlinesMet nos fs paths work (Refused no_such l) work
  unfolding bad_answer first_bad
  nowhere_met l k h m p f =
      let low : leb most_lines l ≡ false = lt-leb most_lines l m in
      let hit : bad_line nos paths l ≡ true = ap (λ (t : Bool). t || leb paths (get_or nos l 0)) low ∙ le-leb paths (get_or nos l 0) p in
      let is = first_is (bad_line nos paths) (length nos) l (omega arith) (λ g. hit) (λ j g. not_bad j (omega arith) (f j g)) in
      rw low at (bad_met l k h is)

  none_bad : Good nos paths → length nos ≤ first_bad nos paths
  unfolding first_bad
  none_bad g =
      omega (
        arith,
        first_is (bad_line nos paths) (length nos) (length nos) (omega arith) (λ h. absurd (omega arith)) (λ l h. not_bad l (omega (arith, g.few)) (g.there l h)),
      )

  open_met : (l : ℕ) → Lent nos fs paths work → Good nos paths → l ≡ first_open nos fs → OutlinesMet nos fs paths work (open_if l (length nos)) (cleared (paths * room_words) work)
  open_met l k g e = rw e (met_open nos fs paths work _ refl (fine k) (none_bad g))

  ajar_met : (l : ℕ) → Lent nos fs paths work → Good nos paths → l < length nos → Outlines.left_open nos fs l ≡ true → NoneOpen nos fs l
      → OutlinesMet nos fs paths work (Refused left_open l) (cleared (paths * room_words) work)
  unfolding open_if
  ajar_met l k g h t f = rw (lt-ltb l (length nos) h) at (open_met l k g (open_first nos fs l (omega arith) (λ q. t) f))

  closed_met : Lent nos fs paths work → Good nos paths → NoneOpen nos fs (length nos) → OutlinesMet nos fs paths work Done (cleared (paths * room_words) work)
  unfolding open_if
  closed_met k g f =
      rw (le-ltb (length nos) (length nos) (omega arith)) at
      (open_met (length nos) k g (open_first nos fs (length nos) (omega arith) (λ q. absurd (omega arith)) f))

  -- ---- the way that it goes

  abbrev Way : Answer → List ℕ → Type 0
  Way a w = OutlinesWay nos fs paths work a w

  went : (a : Answer) (w : List ℕ) → OutlinesMet nos fs paths work a w → Way a w → Way (outlines_of nos fs paths work).answer (outlines_of nos fs paths work).work
  went a w e x = subst (λ (o : Out). Way o.answer o.work) e x

  there : (l : ℕ) → l < first_bad nos paths → (l < most_lines) × (get_or nos l 0 < paths)
  unfolding first_bad
  there l h = go (leb most_lines l) refl (leb paths (get_or nos l 0)) refl (first_missed (bad_line nos paths) (length nos) l h)
    where
      go : (s : Bool) → leb most_lines l ≡ s → (t : Bool) → leb paths (get_or nos l 0) ≡ t → (s || t) ≡ false → (l < most_lines) × (get_or nos l 0 < paths)
      go false p false q e = (leb-false most_lines l p, leb-false paths (get_or nos l 0) q)
      go false p true q e = let z : ◌≡◌ {A = ℕ} 0 1 = cc in absurd (omega arith)
      go true p t q e = let z : ◌≡◌ {A = ℕ} 0 1 = cc in absurd (omega arith)

  bad_path : first_bad nos paths < length nos → first_bad nos paths < most_lines → paths ≤ get_or nos (first_bad nos paths) 0
  unfolding first_bad
  bad_path h m = go (leb most_lines (first_bad nos paths)) (lt-leb most_lines (first_bad nos paths) m) (first_hit (bad_line nos paths) (length nos) h)
    where
      go : (s : Bool) → s ≡ false → (s || leb paths (get_or nos (first_bad nos paths) 0)) ≡ true → paths ≤ get_or nos (first_bad nos paths) 0
      go false p e = leb-true paths (get_or nos (first_bad nos paths) 0) e
      go true p e = let z : ◌≡◌ {A = ℕ} 0 1 = cc in absurd (omega arith)

  way : Way (outlines_of nos fs paths work).answer (outlines_of nos fs paths work).work
  unfolding first_open
  way = go (ℕ_discrete (length fs) (length nos * line_floats)) (dec_lt most_paths paths) (dec_lt (length work) (paths * room_words)) (dec_lt (first_bad nos paths) (length nos))
      (dec_lt (first_bad nos paths) most_lines) (dec_lt (first_open nos fs) (length nos))
    where
      go : Dec (length fs ≡ length nos * line_floats) → Dec (most_paths < paths) → Dec (length work < paths * room_words) → Dec (first_bad nos paths < length nos)
          → Dec (first_bad nos paths < most_lines) → Dec (first_open nos fs < length nos) → Way (outlines_of nos fs paths work).answer (outlines_of nos fs paths work).work
      go (no a) b c d e f = went _ _ (unwhole_met a) (unwhole refl a refl)
      go (yes a) (yes b) c d e f = went _ _ (many_met a b) (many refl a b refl)
      go (yes a) (no b) (yes c) d e f = let l : paths ≤ most_paths = omega arith in went _ _ (roomless_met a l c) (roomless refl a l c refl)
      go (yes a) (no b) (no c) (yes d) (yes e) f =
          let k : Lent nos fs paths work = record { whole = a; few = omega arith; room = omega arith } in
          let before : (j : ℕ) → j < first_bad nos paths → get_or nos j 0 < paths = λ j h. (there j h).1 in
          went _ _ (nowhere_met (first_bad nos paths) k d e (bad_path d e) before) (nowhere (first_bad nos paths) refl k d e (bad_path d e) before refl)
      go (yes a) (no b) (no c) (yes d) (no e) f =
          let k : Lent nos fs paths work = record { whole = a; few = omega arith; room = omega arith } in
          let over : most_lines < length nos = omega (arith, bad_most nos paths) in
          let before : (j : ℕ) → j < most_lines → get_or nos j 0 < paths = λ j h. (there j (omega arith)).1 in
          went _ _ (numberless_met k over before) (numberless refl k over before refl)
      go (yes a) (no b) (no c) (no d) e (yes f) =
          let k : Lent nos fs paths work = record { whole = a; few = omega arith; room = omega arith } in
          let g : Good nos paths = record { few = omega (arith, bad_most nos paths); there = λ l h. (there l (omega arith)).1 } in
          let is = first_hit (Outlines.left_open nos fs) (length nos) f in
          let before : NoneOpen nos fs (first_open nos fs) = λ j h. first_missed (Outlines.left_open nos fs) (length nos) j h in
          went _ _ (ajar_met (first_open nos fs) k g f is before) (ajar (first_open nos fs) refl k g f is before refl)
      go (yes a) (no b) (no c) (no d) e (no f) =
          let k : Lent nos fs paths work = record { whole = a; few = omega arith; room = omega arith } in
          let g : Good nos paths = record { few = omega (arith, bad_most nos paths); there = λ l h. (there l (omega arith)).1 } in
          let before : NoneOpen nos fs (length nos) = λ j h. first_missed (Outlines.left_open nos fs) (length nos) j (omega arith) in
          went _ _ (closed_met k g before) (closed refl k g before refl)

  pub outlines_exact : (a : Answer) (w : List ℕ) → OutlinesMet nos fs paths work a w ↔ OutlinesWay nos fs paths work a w
  outlines_exact a w = ((λ p. subst (λ (o : Out). Way o.answer o.work) (sym p) way), back)
    where
      back : OutlinesWay nos fs paths work a w → OutlinesMet nos fs paths work a w
      back (unwhole ea h ew) = rw (ea, ew) (unwhole_met h)
      back (many ea e h ew) = rw (ea, ew) (many_met e h)
      back (roomless ea e h g ew) = rw (ea, ew) (roomless_met e h g)
      back (numberless ea k h f ew) = rw (ea, ew) (numberless_met k h f)
      back (nowhere l ea k h m p f ew) = rw (ea, ew) (nowhere_met l k h m p f)
      back (ajar l ea k g h t f ew) = rw (ea, ew) (ajar_met l k g h t f)
      back (closed ea k g f ew) = rw (ea, ew) (closed_met k g f)
