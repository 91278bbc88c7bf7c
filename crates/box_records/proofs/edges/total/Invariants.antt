use mathlib.Core.Path.{◌≡◌}
use mathlib.Core.List.{map}
use Prim.Native.Nat.{◌+◌, ◌-◌, ◌*◌, ◌≤◌, ◌^◌}
use Rattle.lists.specs.Sums.{sum, from}
use Rattle.box_records.specs.Records.{area_of_word}
use Rattle.box_records.specs.Told.{box_in}
use Rattle.box_records.proofs.edges.total.Given as goal

abbrev pub invariant-loop-k : goal.invariant-loop-k
invariant-loop-k l = (l.tiles + sum (map (λ j. area_of_word (box_in l.work l.m j 0)) (from l.k (l.n - l.k))) ≡ sum (map (λ j. area_of_word (box_in l.work l.m j 0)) (from 0 l.n))) × (l.tiles ≤ l.k * 2 ^ 24)
