-- The call's ways, and one answer only. Assumes nothing.
--     ways          the definition goes one of the ways
--     boxes_exact   the promise is met where one of them holds, and nowhere else
--     one_boxes     one answer, one list of paths, one working room
--     made_told     what is known where the answer is 0
use mathlib.Core.Path.{◌≡◌, refl, sym, ap, ◌∙◌}
use mathlib.Core.Bool.{Bool, true, false}
use mathlib.Core.List.{List}
use Prim.Native.Nat.{ℕ, ◌*◌, ◌≤◌}
use native.Mathlib.Omega.{arith}
use lib.Dec.{leb}
use lib.ListN.{length}
use lib.Ieee.{Float}
use borrow.Author.Tests.{leb-true, leb-false, le-leb, lt-leb}
use Rattle.ranges.specs.Ranges.{cleared_of}
use Rattle.panel.specs.Limits.{most_tiles}
use Rattle.panel.specs.Refusals.{too_many}
use Rattle.panel.specs.Checks.{first_no}
use Rattle.panel.specs.Verdict.{Verdict, Fine, Against}
use Rattle.panel.specs.Answer.{Answer}
use Rattle.end_tiles.specs.Lines.{lines_from}
use Rattle.path_reach.specs.Room.{box_words}
use Rattle.box_records.specs.Records.{records_from}
use Rattle.boxes.specs.Boxes.{lent_checks, tiles_of, box_of, Out, out_of, asked_of, boxes_of, BoxesMet}
use Rattle.boxes.specs.Boxed.{Boxed, Done, Refused}
use Rattle.box_theorems.specs.Made.{BoxesWay, lent_refused, line_refused, tiles_refused, made}

-- the promise admits one answer only, and one list each
pub one_boxes : (nos : List ℕ) (coords : List Float) (beams : List ℕ) (m : ℕ) (paths work : List ℕ) (r s : Boxed) (ps qs us ws : List ℕ)
    → BoxesMet nos coords beams m paths work r ps us → BoxesMet nos coords beams m paths work s qs ws → (r ≡ s) × (ps ≡ qs) × (us ≡ ws)
one_boxes nos coords beams m paths work r s ps qs us ws a b =
    let e = a ∙ sym b in
    (ap (λ (o : Out). o.answer) e, ap (λ (o : Out). o.paths) e, ap (λ (o : Out). o.work) e)

module _ (nos : List ℕ) (coords : List Float) (beams : List ℕ) (m : ℕ) (paths work : List ℕ) where
  abbrev row : Verdict
  row = first_no (lent_checks (length nos) (length coords) (length paths) (length beams) (length work))

  abbrev lines : Answer
  lines = lines_from nos coords (length beams) (length nos) 0

  -- a way gives the promise
  met : (r : Boxed) (ps us : List ℕ) → BoxesWay nos coords beams m paths work r ps us → BoxesMet nos coords beams m paths work r ps us
  unfolding boxes_of asked_of
  met r ps us (lent_refused why e a b c) = rw (e, a, b, c)
  met r ps us (line_refused why item f e a b c) = rw (f, e, a, b, c)
  met r ps us (tiles_refused f e h a b c) = rw (f, e, lt-leb (tiles_of nos coords m (length beams)) most_tiles h, a, b, c)
  met r ps us (made f e h a b c) = rw (f, e, le-leb (tiles_of nos coords m (length beams)) most_tiles h, a, b, c)

  -- and the definition goes one of them
  pub ways : (o : Out) → o ≡ boxes_of nos coords beams m paths work → BoxesWay nos coords beams m paths work o.answer o.paths o.work
  unfolding boxes_of asked_of
  ways o q = go row refl lines refl (leb (tiles_of nos coords m (length beams)) most_tiles) refl
    where
      same : (x : Out) → boxes_of nos coords beams m paths work ≡ x → o ≡ x
      same x e = q ∙ e

      go : (v : Verdict) → row ≡ v → (a : Answer) → lines ≡ a → (b : Bool) → leb (tiles_of nos coords m (length beams)) most_tiles ≡ b
          → BoxesWay nos coords beams m paths work o.answer o.paths o.work
      go (Against why) ev a ea b eb =
          let e = same (out_of (Refused why 0) paths work) (rw ev) in
          lent_refused why ev (ap (λ (x : Out). x.answer) e) (ap (λ (x : Out). x.paths) e) (ap (λ (x : Out). x.work) e)
      go Fine ev (Answer.Refused why item) ea b eb =
          let e = same (out_of (Refused why item) paths work) (rw (ev, ea)) in
          line_refused why item ev ea (ap (λ (x : Out). x.answer) e) (ap (λ (x : Out). x.paths) e) (ap (λ (x : Out). x.work) e)
      go Fine ev Answer.Done ea false eb =
          let e = same (out_of (Refused too_many 0) paths (cleared_of 0 0 (length beams * box_words) work)) (rw (ev, ea, eb)) in
          tiles_refused ev ea (leb-false _ _ eb) (ap (λ (x : Out). x.answer) e) (ap (λ (x : Out). x.paths) e) (ap (λ (x : Out). x.work) e)
      go Fine ev Answer.Done ea true eb =
          let e =
          same (out_of (Done (tiles_of nos coords m (length beams))) (records_from (box_of nos coords m) beams (length beams) 0 0) (cleared_of 0 0 (length beams * box_words) work))
          (rw (ev, ea, eb)) in
          made ev ea (leb-true _ _ eb) (ap (λ (x : Out). x.answer) e) (ap (λ (x : Out). x.paths) e) (ap (λ (x : Out). x.work) e)

  -- Exact at the call: the promise is met where one of the ways holds, and nowhere else
  pub boxes_exact : (r : Boxed) (ps us : List ℕ)
      → (BoxesMet nos coords beams m paths work r ps us → BoxesWay nos coords beams m paths work r ps us)
      × (BoxesWay nos coords beams m paths work r ps us → BoxesMet nos coords beams m paths work r ps us)
  boxes_exact r ps us = (λ q. ways (out_of r ps us) q, met r ps us)

-- what is known where boxes are made
pub record MadeTold (nos : List ℕ) (coords : List Float) (beams : List ℕ) (m : ℕ) (paths work : List ℕ) (tiles : ℕ) (ps : List ℕ) : Type 0 where
  pub lent : first_no (lent_checks (length nos) (length coords) (length paths) (length beams) (length work)) ≡ Fine
  pub lines : lines_from nos coords (length beams) (length nos) 0 ≡ Answer.Done
  pub tiles_are : tiles ≡ tiles_of nos coords m (length beams)
  pub few : tiles ≤ most_tiles
  pub records_are : ps ≡ records_from (box_of nos coords m) beams (length beams) 0 0

pub made_told : (nos : List ℕ) (coords : List Float) (beams : List ℕ) (m : ℕ) (paths work : List ℕ) (tiles : ℕ) (ps us : List ℕ)
    → BoxesMet nos coords beams m paths work (Done tiles) ps us → MadeTold nos coords beams m paths work tiles ps
made_told nos coords beams m paths work tiles ps us q = go (ways nos coords beams m paths work (out_of (Done tiles) ps us) q)
  where
    none : (x : Boxed) (a b c : ℕ) → x ≡ Done a → x ≡ Refused b c → ⊥
    none x a b c p r = let z : ◌≡◌ {A = ℕ} 0 1 = cc in omega arith

    is : (a b : ℕ) → ◌≡◌ {A = Boxed} (Done a) (Done b) → a ≡ b
    is a b e = cc

    go : BoxesWay nos coords beams m paths work (Done tiles) ps us → MadeTold nos coords beams m paths work tiles ps
    go (lent_refused why e a b c) = absurd (none (Done tiles) tiles why 0 refl a)
    go (line_refused why item f e a b c) = absurd (none (Done tiles) tiles why item refl a)
    go (tiles_refused f e h a b c) = absurd (none (Done tiles) tiles too_many 0 refl a)
    go (made f e h a b c) =
        let t : tiles ≡ tiles_of nos coords m (length beams) = is _ _ a in
        record { lent = f; lines = e; tiles_are = t; few = omega arith; records_are = b }
