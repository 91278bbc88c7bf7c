-- What a line does to the tiles and to the references lent: a list of acts, in order, each of which may be refused. The list is made from the
-- line's walk alone, apart from memory; running it is where counts and backdrops come in. Definitions only.
use Rattle.std.specs.Prelude.{Bool, true, false, List, [], ◌∷◌, ◌++◌, ℕ, zero, suc, ◌+◌, ◌-◌, ◌*◌, ltb, get_or, set, ℤ, pos, negsuc, ◌+ℤ◌}
use Rattle.lists.specs.Run.{Step, taken, halted, Ran, done, refused, run}
use Rattle.panel.specs.Limits.{most_count}
use Rattle.panel.specs.Refusals.{count_over, outside, sum_over}
pub use Rattle.panel.specs.Refs.{packed}
use Rattle.panel.specs.Refs.{put_ref}
use Rattle.panel.specs.Signed.{in_i32}
use Rattle.panel.specs.Verdict.{Verdict}
use Rattle.panel.specs.Verdict.{Fine, Against}

-- what is lent, and the number of references so far
pub record St : Type 0 where
  pub backs : List ℤ
  pub counts : List ℕ
  pub refs : List ℕ
  pub made : ℕ

abbrev pub st_of : List ℤ → List ℕ → List ℕ → ℕ → St
st_of b c r n = record { backs = b; counts = c; refs = r; made = n }

-- ---- the acts of a line

-- a mark on a tile's backdrop; a visit of a tile at a step, which counts it and makes a reference; a refusal
pub data Act : Type 0 where
  mark : ℕ → Act
  visit : ℕ → ℕ → Act
  stop : ℕ → Act

-- where a step falls: on a tile, and whether it marks the tile right of it; or outside its path's box
pub data Hit : Type 0 where
  on : ℕ → Bool → Hit
  off : Hit

-- k row marks from row y on, on the box's first column: its first tile, its top row, its width
unfoldable pub row_acts : ℕ → ℕ → ℕ → ℕ → ℕ → List Act
row_acts first top width zero y = []
row_acts first top width (suc k) y = mark (first + (y - top) * width) ∷ row_acts first top width k (suc y)

-- a step visits its tile, and marks the tile right of it where its top edge is crossed
abbrev pub cross_acts : Bool → ℕ → List Act
cross_acts true t = mark (t + 1) ∷ []
cross_acts false t = []

abbrev pub step_acts : Hit → ℕ → List Act
step_acts (on t x) i = visit t i ∷ cross_acts x t
step_acts off i = stop outside ∷ []

-- k steps from step i on
unfoldable pub steps_acts : (ℕ → Hit) → ℕ → ℕ → List Act
steps_acts f zero i = []
steps_acts f (suc k) i = step_acts (f i) i ++ steps_acts f k (suc i)

-- ---- what an act does

-- what a mark adds: an upward line +1, a downward one -1
abbrev pub delta_of : Bool → ℤ
delta_of true = pos 1
delta_of false = negsuc 0

abbrev pub marked : ℤ → ℕ → St → St
marked δ t s = st_of (set s.backs t (get_or s.backs t (pos 0) +ℤ δ)) s.counts s.refs s.made

-- a tile is counted once more, and its reference's slice number is its count before
abbrev pub visited : ℕ → ℕ → ℕ → St → St
visited l t i s =
    st_of s.backs (set s.counts t (get_or s.counts t 0 + 1))
    (put_ref s.made l (packed (get_or s.counts t 0) i) s.refs)
    (s.made + 1)

abbrev pub take_if : Bool → St → ℕ → Step St ℕ
take_if true s n = taken s
take_if false s n = halted n

-- an act of the line with number l, whose marks add δ
abbrev pub act : ℤ → ℕ → Act → St → Step St ℕ
act δ l (mark t) s = take_if (in_i32 (get_or s.backs t (pos 0) +ℤ δ)) (marked δ t s) sum_over
act δ l (visit t i) s = take_if (ltb (get_or s.counts t 0) most_count) (visited l t i s) count_over
act δ l (stop n) s = halted n

-- the acts in order, up to the first that is refused
unfoldable pub run_acts : ℤ → ℕ → List Act → St → Ran St ℕ
run_acts δ l xs s = run (act δ l) xs s

-- ---- the same held against one state, with nothing done: the first refusal

abbrev pub or_else : Verdict → Verdict → Verdict
or_else Fine v = v
or_else (Against n) v = Against n

abbrev pub fine_if : Bool → ℕ → Verdict
fine_if true n = Fine
fine_if false n = Against n

abbrev pub act_no : ℤ → Act → List ℤ → List ℕ → Verdict
act_no δ (mark t) bs cs = fine_if (in_i32 (get_or bs t (pos 0) +ℤ δ)) sum_over
act_no δ (visit t i) bs cs = fine_if (ltb (get_or cs t 0) most_count) count_over
act_no δ (stop n) bs cs = Against n

unfoldable pub check_no : ℤ → List Act → List ℤ → List ℕ → Verdict
check_no δ [] bs cs = Fine
check_no δ (a ∷ more) bs cs = or_else (act_no δ a bs cs) (check_no δ more bs cs)

-- whether a run goes through, and what it says
abbrev pub is_done : Ran St ℕ → Bool
is_done (done s) = true
is_done (refused s n) = false

abbrev pub verdict_of : Ran St ℕ → Verdict
verdict_of (done s) = Fine
verdict_of (refused s n) = Against n
