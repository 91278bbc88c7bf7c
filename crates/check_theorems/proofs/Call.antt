-- Exact at the call: the check's promise is met where one of its ways holds, and nowhere else; and it admits one answer only. Assumes nothing.
use mathlib.Core.Path.{◌≡◌, refl, sym, ap, ◌∙◌}
use mathlib.Core.Logic.{◌↔◌}
use mathlib.Core.List.{List, [], ◌∷◌}
use Prim.Native.Nat.{ℕ, ◌<◌}
use native.Mathlib.Omega.{arith}
use native.Mathlib.Decide.{dec_lt}
use lib.Dec.{leb}
use lib.ListN.{length}
use lib.IntN.{ℤ}
use lib.Ieee.{Float}
use borrow.Author.Tests.{le-leb, lt-leb}
use Rattle.lists.specs.Run.{Ran, done, refused}
use Rattle.panel.specs.Limits.{most_slots}
use Rattle.panel.specs.Refusals.{no_room_word}
use Rattle.panel.specs.Checks.{check, first_no, unless}
use Rattle.panel.specs.Paths.{paths_answer}
use Rattle.panel.specs.Answer.{Answer}
use Rattle.panel.specs.Verdict.{Verdict, Fine, Against}
use Rattle.acts.specs.Acts.{St}
use Rattle.acts.specs.Line.{Refusal}
use Rattle.path_count.specs.Count.{batch}
use Rattle.made.specs.Made.{made_of}
use Rattle.own_count.specs.Own.{zeroed, own_to, own_ran}
use Rattle.tile_check.specs.Tables.{tables_of, and_answer, asked_of, Out, cleared, looked_of, checked_of, CheckMet}
use Rattle.tile_check.specs.Checked.{Checked, Refused}
use Rattle.theorems.specs.Refusing.{BatchWhy}
use Rattle.theorems.proofs.Exact.{row_exact, line_exact}
use Rattle.theorems.proofs.ExactPaths.{paths_exact}
use Rattle.theorems.proofs.ExactRuns.{batch_exact}
use Rattle.check_theorems.specs.Ways.{lent_row, asked, AskedWhy, lengths, of_paths, working, Asked, CheckWay, lent_refused, line_refused, looked}
use Rattle.check_theorems.proofs.Tables.{tables_exact}

module _ (nos : List ℕ) (coords : List Float) (paths refs counts : List ℕ) (backs : List ℤ) (stored : List ℕ) (room : ℕ) (work : List ℕ) where
  abbrev answer : Answer
  answer = asked_of paths (length nos) (length coords) (length refs) (length counts) (length backs) (length stored) (length work)

  abbrev row : Verdict
  row = first_no (lent_row nos coords paths refs counts backs stored room work)

  abbrev needed : ℕ
  needed = asked nos coords paths refs counts backs stored room work

  abbrev room_on : Answer
  room_on = unless (first_no (check (leb needed (length work)) no_room_word ∷ [])) 0 Answer.Done

  in_order : answer ≡ unless row 0 (and_answer (paths_answer paths (length counts)) room_on)
  unfolding asked_of
  in_order = refl

  abbrev Why : ℕ → ℕ → Type 0
  Why = AskedWhy nos coords paths refs counts backs stored room work

  abbrev Ok : Type 0
  Ok = Asked nos coords paths refs counts backs stored room work

  -- what the checks come to
  asked_no : (n item : ℕ) → Why n item → answer ≡ Answer.Refused n item
  asked_no n item (lengths w e) = in_order ∙ rw ((row_exact n (lent_row nos coords paths refs counts backs stored room work)).1 w, e)
  asked_no n item (of_paths f w) = in_order ∙ rw (f, (paths_exact paths (length counts) n item).1 w)
  asked_no n item (working f p e i h) = in_order ∙ rw (f, p, lt-leb needed (length work) h, e, i)

  pub asked_ok : Ok → answer ≡ Answer.Done
  asked_ok w = in_order ∙ rw (w.whole, w.passed, le-leb needed (length work) w.enough)

  data Found : Type 0 where
    against : (n item : ℕ) → Why n item → Found
    fine : Ok → Found

  found : Found
  found = go row refl
    where
      third : row ≡ Fine → paths_answer paths (length counts) ≡ Answer.Done → Dec (length work < needed) → Found
      third f p (yes h) = against no_room_word 0 (working f p refl refl h)
      third f p (no h) = fine (record { whole = f; passed = p; enough = omega arith })

      second : row ≡ Fine → (a : Answer) → paths_answer paths (length counts) ≡ a → Found
      second f (Answer.Refused n item) p = against n item (of_paths f ((paths_exact paths (length counts) n item).0 p))
      second f Answer.Done p = third f p (dec_lt (length work) needed)

      go : (v : Verdict) → row ≡ v → Found
      go (Against n) e = against n 0 (lengths ((row_exact n (lent_row nos coords paths refs counts backs stored room work)).0 e) refl)
      go Fine e = second e (paths_answer paths (length counts)) refl

  -- ---- one answer only

  abbrev Met : Checked → List ℕ → Type 0
  Met x work' = CheckMet nos coords paths refs counts backs stored room work x work'

  pub one_check : (x y : Checked) (w₁ w₂ : List ℕ) → Met x w₁ → Met y w₂ → (x ≡ y) × (w₁ ≡ w₂)
  one_check x y w₁ w₂ p q = let e = p ∙ sym q in (ap (λ (o : Out). o.answer) e, ap (λ (o : Out). o.work) e)

  -- ---- the call, by what its checks and our own count come to

  met_no : (n item : ℕ) → Why n item → Met (Refused n item) work
  unfolding checked_of
  met_no n item w = rw (asked_no n item w)

  abbrev after : List ℕ
  after = cleared needed work

  pub met_looked : Ok → Met (looked_of nos coords paths refs counts backs stored room) after
  unfolding checked_of
  met_looked w = rw (asked_ok w)

  abbrev ran : Ran St Refusal
  ran = own_ran nos coords paths (length counts)

  looked_refused : (u : St) (why : Refusal) → ran ≡ refused u why → looked_of nos coords paths refs counts backs stored room ≡ Refused why.no why.line
  unfolding looked_of
  looked_refused u why e = rw e

  pub looked_done : (ours : St) → ran ≡ done ours
      → looked_of nos coords paths refs counts backs stored room ≡ tables_of (made_of nos coords paths) ours refs counts backs stored room
  unfolding looked_of
  looked_done ours e = rw e

  -- our own count stops before the first line refused
  own_exact : (u : St) (why : Refusal)
      → (ran ≡ refused u why) ↔ BatchWhy nos coords paths most_slots 0 (length nos) (zeroed (length counts)) u why
  unfolding own_to
  own_exact u why = batch_exact nos coords paths most_slots 0 (length nos) (zeroed (length counts)) u why

  own_before : (l : ℕ) (u : St) → (batch nos coords paths most_slots 0 l (zeroed (length counts)) ≡ done u) ↔ (own_to nos coords paths (length counts) l ≡ done u)
  unfolding own_to
  own_before l u = ((λ e. e), (λ e. e))

  module _ (x : Checked) (work' : List ℕ) where
    abbrev Way : Type 0
    Way = CheckWay nos coords paths refs counts backs stored room work x work'

    why : Met x work' → Way
    why p = go found
      where
        looks : Ok → (o : Ran St Refusal) → ran ≡ o → Way
        looks w (refused u k) e =
            let m = one_check x (looked_of nos coords paths refs counts backs stored room) work' after p (met_looked w) in
            let b = (own_exact u k).0 e in
            line_refused k.no k.line u (m.0 ∙ looked_refused u k e) w b.below_b ((own_before k.line u).0 b.ran)
            ((line_exact nos coords paths most_slots k.line u k.no).0 b.halts) m.1
        looks w (done ours) e =
            let m = one_check x (looked_of nos coords paths refs counts backs stored room) work' after p (met_looked w) in
            looked ours w e ((tables_exact (made_of nos coords paths) ours refs counts backs stored room x).0 (m.0 ∙ looked_done ours e)) m.1

        go : Found → Way
        go (against n item w) = let m = one_check x (Refused n item) work' work p (met_no n item w) in lent_refused n item m.0 w m.1
        go (fine w) = looks w ran refl

    back : Way → Met x work'
    back (lent_refused n item e w f) = rw (e, f) (met_no n item w)
    back (line_refused n l u e w h b y f) =
        let k : Refusal = record { no = n; line = l } in
        let o : ran ≡ refused u k =
        (own_exact u k).1 (record { from_a = omega arith; below_b = h; ran = (own_before l u).1 b; halts = (line_exact nos coords paths most_slots l u n).1 y }) in
        rw (e, f, ← looked_refused u k o) (met_looked w)
    back (looked ours w e y f) =
        rw (f, (tables_exact (made_of nos coords paths) ours refs counts backs stored room x).1 y, ← looked_done ours e) (met_looked w)

    -- The check is exact
    pub check_exact : Met x work' ↔ Way
    check_exact = (why, back)
