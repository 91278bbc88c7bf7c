-- `near::Listing::on_row` meets its contract. The loop's invariant: those kept, and those to be kept of the paths left, are those of the row.
-- Assumes nothing.
use mathlib.Core.Path.{◌≡◌, sym, ap, ◌∙◌}
use mathlib.Core.List.{List, ◌++◌}
use mathlib.Core.Bool.{Bool}
use Prim.Native.Nat.{ℕ, ◌+◌, ◌-◌, ◌<◌}
use native.Mathlib.Omega.{arith}
use lib.ListN.{length, take, set}
use Rattle.lists.specs.Sums.{from}
use Rattle.panel.specs.Paths.{path_at, path_count}
use Rattle.panel.specs.declared.kinds.Path.{Path}
use Rattle.near.specs.Near.{kept, has_row, row_paths}
use Rattle.near.proofs.NearLaws.{keep_turn, keep_end, one_small, from_turn, from_end}
use Rattle.near.proofs.Listing.on_row.Goals as goal

pub loop-p-preserved : goal.loop-p-preserved
loop-p-preserved c =
    let a = c.args in
    let l = c.loop-p in
    let f : ℕ → Bool = λ q. has_row (path_at a.paths.now q) a.y in
    let ns = l.self.numbers in
    let b = c.has_row.result in
    let is : b ≡ f l.p = c.has_row.ensures ∙ ap (λ (q : Path). has_row q a.y) c.path_at-b.ensures in
    let there : l.m < length ns = omega arith in
    let n = path_count a.paths.now in
    let rest = from (l.p + 1) (n - (l.p + 1)) in (
      l.invariant.0,
      omega (arith, c.from-m.ensures, one_small b),
      ap (λ (k : ℕ). take (l.m + k) (set ns l.m l.p) ++ kept f rest) c.from-m.ensures
          ∙ keep_turn f ns l.m l.p rest b is there ∙ ap (λ (ps : List ℕ). take l.m ns ++ kept f ps) (sym (from_turn l.p n (omega arith)))
          ∙ l.invariant.2,
    )

pub returns : goal.returns
unfolding row_paths
returns c =
    let a = c.args in
    let l = c.loop-p in
    let f : ℕ → Bool = λ q. has_row (path_at a.paths.now q) a.y in
    let n = path_count a.paths.now in
    record {
      few = omega (arith, c.requires.few);
      same = keep_end f l.self.numbers l.m (from l.p (n - l.p)) (from_end l.p n (omega arith)) ∙ l.invariant.2;
    }
