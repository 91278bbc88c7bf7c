-- `meeting::meeting` meets its contract. The loop's invariant: the ranges before the best one do not meet where a start lies below the window, and the best one, if it is not n, meets
-- an earlier one; the windows so far lie below low. Assumes nothing.
use native.Mathlib.Omega.{arith}
use mathlib.Core.Path.{refl, subst}
use Prim.Native.Nat.{ℕ, ◌≤◌, ◌<◌, ◌-◌, ◌+◌}
use lib.Dec.{ltb}
use lib.ListN.{length}
use borrow.Author.Tests.{ltb-true}
use Rattle.meeting.specs.Meeting.{starts_at}
use Rattle.meeting.specs.Found.{keys, window_end, NextStart}
use Rattle.meeting.proofs.Stores.{kept_all}
use Rattle.meeting.proofs.Windows.{passes_none, words_turn, words_small, ranges_turn, ranges_small, both_true, windows_go, windows_less, windows_end}
use Rattle.meeting.proofs.meeting.Goals as goal

pub overflow_sub-width : goal.overflow_sub-width
overflow_sub-width c = omega arith

pub loop-best-init : goal.loop-best-init
loop-best-init c = (
  omega arith,
  kept_all _ _,
  (λ h. absurd (omega arith)),
  (λ i j h l m. absurd (omega arith)),
  omega arith,
  (λ h. absurd (omega arith)),
  passes_none _ _ _,
  omega arith,
  omega arith,
)

pub clear-requires : goal.clear-requires
clear-requires c = tt

pub pass-seen-requires : goal.pass-seen-requires
pass-seen-requires c =
    let v = c.loop-best.invariant in
    let k = c.clear.ensures in
    (omega (arith, v.0, c.requires.0), omega (arith, v.1.same_length, k.0.same_length, c.requires.1), k.1)

pub overflow_add-ranges : goal.overflow_add-ranges
overflow_add-ranges c =
    let a = c.args in
    let p = c.requires in
    let l = c.loop-best in
    let v = l.invariant in
    let t = both_true (ltb 1 l.best) (ltb l.low keys) c.loop-best-test.true in
    let q = c.pass-seen.ensures in
    let most : c.pass-seen.result.ranges ≤ a.n = omega (arith, q.3, v.0) in
    omega (arith, ranges_small _ a.n _ l.low l.passes l.ranges _ (ltb-true l.low keys t.1) p.3 v.6 v.8 most)

pub overflow_add-words : goal.overflow_add-words
overflow_add-words c =
    let a = c.args in
    let l = c.loop-best in
    let v = l.invariant in
    let t = both_true (ltb 1 l.best) (ltb l.low keys) c.loop-best-test.true in
    let small = words_small _ _ _ l.low l.passes l.words (ltb-true l.low keys t.1) v.6 v.7 in
    omega (arith, small, c.pass-seen.ensures.2, c.clear.ensures.0.same_length, v.1.same_length)

pub window_end-requires : goal.window_end-requires
window_end-requires c =
    let l = c.loop-best in
    ltb-true l.low keys (both_true (ltb 1 l.best) (ltb l.low keys) c.loop-best-test.true).1

pub next_start-low-requires : goal.next_start-low-requires
next_start-low-requires c =
    let v = c.loop-best.invariant in
    let k = c.clear.ensures in
    let q = c.pass-seen.ensures in
    omega (arith, v.0, v.1.same_length, k.0.same_length, q.0.same_length, q.1.within, c.requires.0, c.requires.1)

pub overflow_add-passes : goal.overflow_add-passes
overflow_add-passes c =
    let l = c.loop-best in
    let t = both_true (ltb 1 l.best) (ltb l.low keys) c.loop-best-test.true in
    omega (arith, l.invariant.6.most (ltb-true l.low keys t.1))

pub loop-best-smaller : goal.loop-best-smaller
loop-best-smaller c =
    let a = c.args in
    let l = c.loop-best in
    let q = c.pass-seen in
    let width = length a.work.now - a.free in
    let t = both_true (ltb 1 l.best) (ltb l.low keys) c.loop-best-test.true in
    let more : 1 < a.n = omega (arith, ltb-true 1 l.best t.0, l.invariant.0) in
    let wide : 0 < width = omega (arith, c.requires.2 more) in
    let w = q.new.work in
    let low = c.next_start-low.result in
    let end : NextStart (starts_at w a.at) (window_end l.low width) q.result.first low =
    subst (λ (e : ℕ). NextStart (starts_at w a.at) e q.result.first low) c.window_end.ensures c.next_start-low.ensures in
    windows_less (starts_at w a.at) l.low width q.result.first low (ltb-true l.low keys t.1) wide end

pub loop-best-preserved : goal.loop-best-preserved
loop-best-preserved c =
    let a = c.args in
    let l = c.loop-best in
    let v = l.invariant in
    let k = c.clear in
    let q = c.pass-seen in
    let width = length a.work.now - a.free in
    let t = both_true (ltb 1 l.best) (ltb l.low keys) c.loop-best-test.true in
    let key = ltb-true l.low keys t.1 in
    let more : 1 < a.n = omega (arith, ltb-true 1 l.best t.0, l.invariant.0) in
    let wide : 0 < width = omega (arith, c.requires.2 more) in
    let w = q.new.work in
    let low = c.next_start-low.result in
    let end : NextStart (starts_at w a.at) (window_end l.low width) q.result.first low =
    subst (λ (e : ℕ). NextStart (starts_at w a.at) e q.result.first low) c.window_end.ensures c.next_start-low.ensures in
    let go =
    windows_go a.work.now l.work k.new.work w a.lens.now a.at a.n a.free l.low width l.best q.result.first low l.passes
    c.requires.0 v.0 refl v.1 k.ensures.0 q.ensures.0 v.3 v.2 q.ensures.1 end key wide (omega (arith, more)) v.6 in
    let words : q.result.words ≤ width + 1 = omega (arith, q.ensures.2, k.ensures.0.same_length, v.1.same_length) in
    let ranges : q.result.ranges ≤ a.n = omega (arith, q.ensures.3, v.0) in (
      go.0,
      go.1,
      go.2,
      go.3,
      go.4,
      go.5,
      go.6,
      words_turn l.passes width l.words q.result.words v.7 words,
      ranges_turn l.passes a.n l.ranges q.result.ranges v.8 ranges,
    )

pub returns : goal.returns
returns c =
    let a = c.args in
    let l = c.loop-best in
    let v = l.invariant in
    (windows_end a.work.now a.lens.now a.at a.n l.low l.best v.0 v.2 v.3 v.5 c.loop-best-test.false, v.1, v.6.few, v.7, v.8)
