-- A fill's ground of refusal, one question for `fill`, for a tile's FILL and for one pixel: 13 where its first segment plus their number is over the
-- segments lent, then 20 where one of them has an end outside its tile or a y_edge not finite. Definitions only.
use Rattle.std.specs.Prelude.{Bool, true, ◌&&◌, List, [], ◌∷◌, ℕ, zero, suc, ◌+◌, ◌/◌, leb, length, Float}
use Rattle.panel.specs.Checks.{Check, check, first_no}
use Rattle.panel.specs.Refusals.{past_end, bad_segment}
use Rattle.panel.specs.Segments.{segment_at, straight_of}
use Rattle.panel.specs.Widths.{segment_floats}
use Rattle.panel.specs.Verdict.{Verdict}

-- the n segments from the first on: whether a fill takes each
unfoldable pub straight_from : List Float → ℕ → ℕ → Bool
straight_from segments first zero = true
straight_from segments first (suc n) = straight_from segments first n && straight_of (segment_at segments (first + n))

-- of the segments lent, the fill's first and their number
abbrev pub ground_checks : List Float → ℕ → ℕ → List Check
ground_checks segments first n = check (leb (first + n) (length segments / segment_floats)) past_end ∷ check (straight_from segments first n) bad_segment ∷ []

abbrev pub ground_of : List Float → ℕ → ℕ → Verdict
ground_of segments first n = first_no (ground_checks segments first n)
