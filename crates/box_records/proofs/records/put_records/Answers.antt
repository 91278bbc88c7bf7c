-- `box_records::records::put_records` meets its contract. The loop's invariant: the records left, written from here on, make what all of them make, and the
-- first tile is past those of the boxes so far.
-- Assumes nothing.
use mathlib.Core.Path.{◌≡◌, refl, sym, ap₂, ◌∙◌}
use Prim.Native.Nat.{ℕ, ◌+◌, ◌-◌}
use native.Mathlib.Nat.{zero-add}
use native.Mathlib.Omega.{arith}
use Rattle.panel.specs.Paths.{end_of}
use Rattle.panel.proofs.LimitLaws.{small}
use Rattle.box_records.specs.Records.{area_of_word}
use Rattle.box_records.specs.Told.{box_in}
use Rattle.box_records.proofs.BoxLaws.{area_same, area_most, first_is}
use Rattle.box_records.proofs.RowLaws.{put_turn, put_end, sum_turn}
use Rattle.box_records.proofs.records.put_records.Goals as goal

pub loop-k-init : goal.loop-k-init
loop-k-init c =
    let all : c.args.n - 0 ≡ c.args.n = omega arith in
    (refl, rw (all, zero-add), rw all)

pub put_path-requires : goal.put_path-requires
put_path-requires c = omega (arith, c.loop-k.invariant.0)

pub overflow_cast-first : goal.overflow_cast-first
overflow_cast-first c =
    let s = c.args in
    let l = c.loop-k in
    record { fits = omega (arith, c.area-tiles.ensures, rw (← c.box_at-p.ensures) at (area_most s.work.now s.m l.k l.first)) }

pub overflow_add-first : goal.overflow_add-first
overflow_add-first c =
    let s = c.args in
    let l = c.loop-k in
    let e : c.area-tiles.result ≡ area_of_word (box_in s.work.now s.m l.k 0) = rw (c.area-tiles.ensures, c.box_at-p.ensures) (area_same
    s.work.now s.m l.k l.first) in
    omega (arith, sum_turn (λ j. area_of_word (box_in s.work.now s.m j 0)) s.n l.k (omega arith), l.invariant.1, small.tiles)

pub loop-k-preserved : goal.loop-k-preserved
loop-k-preserved c =
    let s = c.args in
    let l = c.loop-k in
    let b : c.box_at-p.result ≡ box_in s.work.now s.m l.k l.first = c.box_at-p.ensures in
    let e : c.area-tiles.result ≡ area_of_word (box_in s.work.now s.m l.k l.first) = rw (c.area-tiles.ensures, b) in
    let z = area_same s.work.now s.m l.k l.first in
    let t = sum_turn (λ j. area_of_word (box_in s.work.now s.m j 0)) s.n l.k (omega arith) in
    let on : l.first + c.area-tiles.result ≡ end_of (box_in s.work.now s.m l.k l.first) =
    ap₂ (λ (a d : ℕ). a + d) (sym (first_is s.work.now s.m l.k l.first)) e in
    let u = put_turn (box_in s.work.now s.m) s.beams.now s.n l.k l.first l.paths (omega arith) in
    (c.put_path.auto.paths ∙ l.invariant.0, omega (arith, l.invariant.1), rw (on, c.put_path.ensures, b) (sym u ∙ l.invariant.2))

pub returns : goal.returns
returns c =
    let s = c.args in
    let l = c.loop-k in
    sym (put_end (box_in s.work.now s.m) s.beams.now s.n l.k l.first l.paths (omega arith)) ∙ l.invariant.2
