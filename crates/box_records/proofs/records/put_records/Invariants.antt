use mathlib.Core.Path.{◌≡◌}
use mathlib.Core.List.{map}
use Prim.Native.Nat.{◌+◌, ◌-◌, ◌*◌}
use lib.ListN.{length}
use lib.Seq.{sets}
use Rattle.lists.specs.Sums.{sum, from}
use Rattle.panel.specs.Widths.{path_words}
use Rattle.box_records.specs.Records.{area_of_word, records_from}
use Rattle.box_records.specs.Told.{box_in}
use Rattle.box_records.proofs.records.put_records.Given as goal

abbrev pub invariant-loop-k : goal.invariant-loop-k
invariant-loop-k l =
    (length l.paths ≡ length l.initial.paths) × (l.first + sum (map (λ j. area_of_word (box_in l.work l.m j 0)) (from l.k (l.n - l.k))) ≡ sum (map (λ j. area_of_word (box_in l.work l.m j 0)) (from 0 l.n)))
    × (sets l.paths (l.k * path_words) (records_from (box_in l.work l.m) l.beams (l.n - l.k) l.k l.first) ≡ sets l.initial.paths 0 (records_from (box_in l.work l.m) l.beams l.n 0 0))
