-- Which entries of another's references and backdrops are at fault, by looking at each entry beside all earlier ones. What our lines make is handed in as
-- `made`, of a line's number and a step's. Counts and slots: `entries`, specs/Entries. Definitions only.
use Rattle.std.specs.Prelude.{Bool, false, true, not, ◌&&◌, ◌||◌, List, ℕ, ◌/◌, leb, eqb, length, get_or, ℤ, pos, negsuc}
use Rattle.panel.specs.Widths.{ref_words}
use Rattle.panel.specs.Refs.{line_at, packed_at, step_no, slice_no}
use Rattle.meeting.specs.First.{first_of, some_below_word}
use Rattle.made.specs.MadeAt.{Made, At, Not}

-- how many references are lent
abbrev pub ref_count : List ℕ → ℕ
ref_count refs = length refs / ref_words

-- reference j: its step's number, and its slice's
abbrev pub step_at : List ℕ → ℕ → ℕ
step_at refs j = step_no (packed_at refs j)

abbrev pub slice_at : List ℕ → ℕ → ℕ
slice_at refs j = slice_no (packed_at refs j)

-- what our lines make of it
abbrev pub made_ref : (ℕ → ℕ → Made) → List ℕ → ℕ → Made
made_ref made refs j = made (line_at refs j) (step_at refs j)

-- our lines don't make it, or its slice number reaches our count of its tile
abbrev pub stray : List ℕ → Made → ℕ → Bool
stray ours (At n t) slice = leb (get_or ours t 0) slice
stray ours Not slice = true

abbrev pub stray_ref : (ℕ → ℕ → Made) → (ours refs : List ℕ) → ℕ → Bool
stray_ref made ours refs j = stray ours (made_ref made refs j) (slice_at refs j)

-- references i and j have the same line and step
abbrev pub same_step : List ℕ → (i j : ℕ) → Bool
same_step refs i j = eqb (line_at refs i) (line_at refs j) && eqb (step_at refs i) (step_at refs j)

-- the same tile: one that isn't made has none
abbrev pub same_tile : Made → Made → Bool
same_tile (At m t) (At n u) = eqb t u
same_tile (At m t) Not = false
same_tile Not r = false

-- references i and j have the same tile and slice
abbrev pub same_slice : (ℕ → ℕ → Made) → List ℕ → (i j : ℕ) → Bool
same_slice made refs i j = same_tile (made_ref made refs i) (made_ref made refs j) && eqb (slice_at refs i) (slice_at refs j)

-- an earlier one has its line and step; its tile and slice
abbrev pub step_twice : List ℕ → ℕ → Bool
step_twice refs j = some_below_word (λ i. same_step refs i j) j

abbrev pub slice_twice : (ℕ → ℕ → Made) → List ℕ → ℕ → Bool
slice_twice made refs j = some_below_word (λ i. same_slice made refs i j) j

-- a reference is at fault
unfoldable pub ref_fault : (ℕ → ℕ → Made) → (ours refs : List ℕ) → ℕ → Bool
ref_fault made ours refs j = (stray_ref made ours refs j || step_twice refs j) || slice_twice made refs j

-- the first that is; as many as are lent where none is
unfoldable pub first_ref_fault : (ℕ → ℕ → Made) → (ours refs : List ℕ) → ℕ
first_ref_fault made ours refs = first_of (ref_fault made ours refs) (ref_count refs)

-- ---- backdrops

abbrev pub same_back : ℤ → ℤ → Bool
same_back (pos m) (pos n) = eqb m n
same_back (pos m) (negsuc n) = false
same_back (negsuc m) (pos n) = false
same_back (negsuc m) (negsuc n) = eqb m n

-- a backdrop is at fault where it isn't ours
abbrev pub back_fault : (backs ours : List ℤ) → ℕ → Bool
back_fault backs ours t = not (same_back (get_or backs t (pos 0)) (get_or ours t (pos 0)))

unfoldable pub first_back_fault : (backs ours : List ℤ) → ℕ
first_back_fault backs ours = first_of (back_fault backs ours) (length backs)
