-- The parts of a drawing, by number. Definitions only.
use Rattle.std.specs.Prelude.{ℕ}
use Rattle.frame.specs.Frame.{stage_no}
use Rattle.paint.specs.declared.kinds.Part.{Part}
use Rattle.paint.specs.declared.kinds.Part.TheVariants as Part

-- the parts after a frame's five
abbrev pub lists_no : ℕ
lists_no = 6

abbrev pub fine_no : ℕ
fine_no = 7

abbrev pub part_no : Part → ℕ
part_no (Part.Frame s) = stage_no s
part_no Part.Lists = lists_no
part_no Part.Fine = fine_no
