-- A range, some references at once: how the code goes over it. Only proofs lean on this: no promise of a public call does. Definitions only.
use Rattle.std.specs.Prelude.{ℕ, ◌+◌, ◌-◌, ◌≤◌, ◌<◌, ◌≡◌, Bool, true, cond, not, List, eqb, length}
use Rattle.panel.specs.Pieces.{Pieces}
use Rattle.panel.specs.Answer.{Answer, Done, Refused}
use Rattle.looks.specs.Look.{Lent, line_at}
use Rattle.line_runs.specs.Runs.{Run}
use Rattle.path_tiling.specs.Tiling.{range_of, Tiled, tiled, range_tiled}

-- reference k names another line than the one after it, or is the last before `to`
unfoldable pub alone_of : (refs : List ℕ) (k to : ℕ) → Bool
alone_of refs k to = cond (eqb (k + 1) to) true (not (eqb (line_at refs k) (line_at refs (k + 1))))

-- what is left of a range up to `to` after some of its references
abbrev pub after_by : Lent → ℕ → ℕ → Answer → ℕ → Pieces → Tiled
after_by L slots to Done next p = range_tiled (range_of L slots (to - next) next) p
after_by L slots to (Refused why item) next p = tiled (Refused why item) p

abbrev pub after : Lent → ℕ → ℕ → Run → Tiled
after L slots to r = after_by L slots to r.answer r.next r.pieces

-- some of the references from `from` up to `to`: one at least, where none is refused; what is left after them is what the range comes to
pub record NextMet (from to : ℕ) (L : Lent) (slots : ℕ) (p : Pieces) (r : Run) : Type 0 where
  pub less : r.answer ≡ Done → from < r.next
  pub high : r.next ≤ to
  pub segments : length r.pieces.segments ≡ length p.segments
  pub tags : length r.pieces.tags ≡ length p.tags
  pub left : after L slots to r ≡ range_tiled (range_of L slots (to - from) from) p
