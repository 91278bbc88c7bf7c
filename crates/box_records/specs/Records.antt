-- The tiles of a box, and the records of boxes one after another. docs/RULES.md, "Boxes". Definitions only.
use Rattle.std.specs.Prelude.{List, [], ◌++◌, ℕ, zero, suc, ◌*◌, get_or}
use Rattle.panel.specs.Paths.{path_record, width_of, height_of, end_of}
use Rattle.panel.specs.declared.kinds.Path.{Path}

abbrev pub area_of_word : Path → ℕ
area_of_word p = width_of p * height_of p

-- so many records from path k on: each begins where the one before it ends
abbrev pub records_from : (ℕ → ℕ → Path) → (beams : List ℕ) → ℕ → (k first : ℕ) → List ℕ
records_from box beams zero k first = []
records_from box beams (suc more) k first = path_record (box k first) (get_or beams k 0) ++ records_from box beams more (suc k) (end_of (box k first))
