-- `meeting::pass` meets its contract. The loop's invariant: each flag says whether a range that was passed has its key, and no two of them have one in common; the words
-- looked at are the flags that stand. Assumes nothing.
use native.Mathlib.Omega.{arith}
use mathlib.Core.Path.{◌≡◌, refl, ap, ◌∙◌}
use mathlib.Core.Logic.{inl}
use Prim.Native.Nat.{ℕ, ◌≤◌, ◌<◌, ◌-◌, ◌+◌}
use native.Mathlib.Nat.{le_refl}
use lib.ListN.{length, get_or}
use Rattle.lists.specs.Sums.{sum}
use Rattle.meeting.specs.Found.{KeptBelow, place_of}
use Rattle.meeting.proofs.Stores.{kept_all, OnesFrom}
use Rattle.meeting.proofs.Windows.{place_fits, places_fit, pass_kept, pass_goes, pass_stops, pass_words}
use Rattle.meeting.proofs.pass.Goals as goal
use Rattle.meeting.proofs.pass.Goals.{After-flag-stop}

lt_irrefl : (n : ℕ) → n < n → ⊥
lt_irrefl n h = omega arith

pub overflow_sub-width : goal.overflow_sub-width
overflow_sub-width c = omega arith

pub loop-i-init : goal.loop-i-init
loop-i-init c = (
  kept_all _ _,
  (λ p h. inl (c.requires.2 (c.args.free + p) (omega arith), λ j l. absurd (omega arith))),
  (λ i j k h. absurd (omega arith)),
  (λ k h. omega (arith, c.requires.2 k h)),
  omega arith,
  omega arith,
)

pub overflow_add-start : goal.overflow_add-start
overflow_add-start c = omega arith

pub bounds-work-at : goal.bounds-work-at
bounds-work-at c = omega (arith, c.loop-i.invariant.0.same_length)

pub overflow_cast-start : goal.overflow_cast-start
overflow_cast-start c = omega (arith, c.type_inv.work (c.args.at + c.loop-i.i))

pub overflow_cast-end : goal.overflow_cast-end
overflow_cast-end c = omega arith

pub overflow_add-end : goal.overflow_add-end
overflow_add-end c = omega (arith, c.type_inv.work (c.args.at + c.loop-i.i))

pub overflow_add-from : goal.overflow_add-from
overflow_add-from c =
    let a = c.args in
    let s = get_or c.loop-i.work (a.at + c.loop-i.i) 0 in
    omega (
      arith,
      place_fits s a.low (length a.work.now - a.free) a.free (length a.work.now) _
          c.place_of.ensures refl c.requires.1,
    )

pub overflow_add-to : goal.overflow_add-to
overflow_add-to c =
    let a = c.args in
    let s = get_or c.loop-i.work (a.at + c.loop-i.i) 0 in
    let h =
    places_fit s c.len_at.result a.low (length a.work.now - a.free) a.free (length a.work.now) _ _ c.place_of.ensures
    c.place_of-in-loop-i.ensures refl c.requires.1 in
    omega (arith, h.1)

pub flag-stop-requires : goal.flag-stop-requires
flag-stop-requires c =
    let a = c.args in
    let l = c.loop-i in
    let s = get_or l.work (a.at + l.i) 0 in
    let h =
    places_fit s c.len_at.result a.low (length a.work.now - a.free) a.free (length a.work.now) _ _ c.place_of.ensures
    c.place_of-in-loop-i.ensures refl c.requires.1 in
    (h.0, rw l.invariant.0.same_length h.1)

-- the room and the number of words looked at, after a range
looked : (c : After-flag-stop) → KeptBelow c.args.free c.args.work.now c.flag-stop.new.work × OnesFrom c.args.free c.flag-stop.new.work
    × (sum c.flag-stop.new.work ≡ sum c.args.work.now + (c.loop-i.words + (c.flag-stop.result - (c.args.free + c.place_of.result))))
    × (c.loop-i.words + (c.flag-stop.result - (c.args.free + c.place_of.result)) ≤ length c.args.work.now - c.args.free)
looked c =
    let a = c.args in
    let p = c.requires in
    let l = c.loop-i in
    let v = l.invariant in
    let wide = length a.work.now - a.free in
    let s = get_or l.work (a.at + l.i) 0 in
    let from = c.place_of in
    let to = c.place_of-in-loop-i in
    let f = c.flag-stop in
    let end = to.ensures ∙ ap (λ (k : ℕ). place_of (s + k) a.low wide) c.len_at.ensures in
    let kept =
    pass_kept a.work.now l.work a.lens.now a.at a.n a.free a.low wide l.i from.result to.result p.0 c.loop-i-test.true v.0 from.ensures end v.1
    f.new.work f.result v.2 f.ensures.0 f.ensures.1 in
    let words =
    pass_words a.free (a.free + from.result) (a.free + to.result) f.result wide l.words a.work.now l.work f.new.work p.1 refl kept f.ensures.1
    v.3 v.4 in
    (kept, words.0, words.1, words.2)

pub overflow_sub-words : goal.overflow_sub-words
overflow_sub-words c = omega (arith, c.flag-stop.ensures.1.from)

pub overflow_add-words : goal.overflow_add-words
overflow_add-words c = omega (arith, looked (goal.at.overflow_add-words c).After-flag-stop)

pub overflow_add-result-then-stop-to : goal.overflow_add-result-then-stop-to
overflow_add-result-then-stop-to c = omega (arith, looked (goal.at.overflow_add-result-then-stop-to c).After-flag-stop)

pub returns-then-stop-to : goal.returns-then-stop-to
returns-then-stop-to c =
    let a = c.args in
    let p = c.requires in
    let l = c.loop-i in
    let v = l.invariant in
    let wide = length a.work.now - a.free in
    let s = get_or l.work (a.at + l.i) 0 in
    let from = c.place_of in
    let to = c.place_of-in-loop-i in
    let f = c.flag-stop in
    let end = to.ensures ∙ ap (λ (k : ℕ). place_of (s + k) a.low wide) c.len_at.ensures in
    let turn = looked (goal.at.returns-then-stop-to c).After-flag-stop in
    let t =
    pass_stops a.work.now l.work a.lens.now a.at a.n a.free a.low wide l.i from.result to.result p.0 c.loop-i-test.true v.0 from.ensures end v.1
    f.new.work f.result v.2 f.ensures.0 f.ensures.1 c.if-stop-to.true in
    (turn.0, t, omega (arith, turn.3), omega arith)

pub loop-i-preserved : goal.loop-i-preserved
loop-i-preserved c =
    let a = c.args in
    let p = c.requires in
    let l = c.loop-i in
    let v = l.invariant in
    let wide = length a.work.now - a.free in
    let s = get_or l.work (a.at + l.i) 0 in
    let from = c.place_of in
    let to = c.place_of-in-loop-i in
    let f = c.flag-stop in
    let end = to.ensures ∙ ap (λ (k : ℕ). place_of (s + k) a.low wide) c.len_at.ensures in
    let turn = looked (goal.at.loop-i-preserved c).After-flag-stop in
    let t =
    pass_goes a.work.now l.work a.lens.now a.at a.n a.free a.low wide l.i from.result to.result p.0 c.loop-i-test.true v.0 from.ensures end v.1
    f.new.work f.result v.2 f.ensures.0 f.ensures.1 c.if-stop-to.false in
    (turn.0, t.0, t.1, turn.1, turn.2, turn.3)

pub returns : goal.returns
returns c =
    let a = c.args in
    let l = c.loop-i in
    let v = l.invariant in
    let all : l.i ≡ a.n = omega arith in
    (v.0, record { within = le_refl a.n; met = λ h. absurd (lt_irrefl a.n h); apart = rw (← all) v.2 }, omega (arith, v.5), le_refl a.n)
