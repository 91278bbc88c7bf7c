-- How our own count stands in the working room, and what its functions tell each other. Only proofs lean on this, and the crate above: no promise of a
-- public call does. Definitions only.
use Rattle.std.specs.Prelude.{◌≡◌, List, [], map, ℕ, ◌+◌, ◌≤◌, ◌<◌, length, get_or, take, drop, ℤ, Float}
use Rattle.std.proofs.Math.IntN.{sub_ℕ}
use Rattle.lists.specs.Run.{Step, taken, halted, done, refused, left}
use Rattle.panel.specs.Verdict.{Verdict}
use Rattle.panel.specs.Verdict.{Fine, Against}
use Rattle.acts.specs.Acts.{St, st_of, Act, run_acts, verdict_of}
use Rattle.walked_lines.specs.Tallied.{Tallied}
use Rattle.walked_lines.specs.Tallied.{On, Against as TallyAgainst}
use Rattle.own_count.specs.Own.{own_to, own_ran}
use Rattle.own_count.specs.Counted.{Own}
use Rattle.own_count.specs.Counted.{Done, Refused}

-- a backdrop stands as a word, with half of all words added
abbrev pub zero_back : ℕ
zero_back = 2147483648

unfoldable pub back_of : ℕ → ℤ
back_of w = sub_ℕ w zero_back

-- what n tiles' words say: their counts, then their backdrops; no reference is kept, and so many are made
unfoldable pub view_of : (n : ℕ) → List ℕ → (made : ℕ) → St
view_of n ws made = st_of (map back_of (take n (drop n ws))) (take n ws) [] made

-- only words before a place were changed
pub record KeptFrom (a : ℕ) (ws ws' : List ℕ) : Type 0 where
  pub same_length : length ws' ≡ length ws
  pub kept : (k : ℕ) → a ≤ k → get_or ws' k 0 ≡ get_or ws k 0

-- so many words from a place on are v, and the rest are as they were
pub record Filled (a n v : ℕ) (ws ws' : List ℕ) : Type 0 where
  pub same_length : length ws' ≡ length ws
  pub filled : (k : ℕ) → k < n → get_or ws' (a + k) 0 ≡ v
  pub before : (k : ℕ) → k < a → get_or ws' k 0 ≡ get_or ws k 0

-- acts that go through leave these words, with k references more; or they are refused. The line's number and the references so far make no difference
abbrev pub ActsRan : ℤ → List Act → (n : ℕ) (ws ws' : List ℕ) (k : ℕ) → Verdict → Type 0
ActsRan δ xs n ws ws' k Fine = (l m : ℕ) → run_acts δ l xs (view_of n ws m) ≡ done (view_of n ws' (m + k))
ActsRan δ xs n ws ws' k (Against why) = (l m : ℕ) → verdict_of (run_acts δ l xs (view_of n ws m)) ≡ Against why

pub record Acted (δ : ℤ) (xs : List Act) (n : ℕ) (ws ws' : List ℕ) (k : ℕ) (v : Verdict) : Type 0 where
  pub ran : ActsRan δ xs n ws ws' k v
  pub above : KeptFrom (n + n) ws ws'

-- a line's step, by its answer: what it leaves, or why it is refused
abbrev pub StepAs : (n : ℕ) (ws' : List ℕ) (made : ℕ) → Step St ℕ → Tallied → Type 0
StepAs n ws' made o (On k) = o ≡ taken (view_of n ws' (made + k))
StepAs n ws' made o (TallyAgainst why) = o ≡ halted why

-- the references made before line k
abbrev pub start_of : (nos : List ℕ) (coords : List Float) (paths : List ℕ) (tiles k : ℕ) → ℕ
start_of nos coords paths tiles k = (left (own_to nos coords paths tiles k)).made

-- those of the first n lines stand in the room from a place on
abbrev pub StartsNoted : (nos : List ℕ) (coords : List Float) (paths : List ℕ) (tiles : ℕ) (ws : List ℕ) (at n : ℕ) → Type 0
StartsNoted nos coords paths tiles ws at n = (k : ℕ) → k < n → get_or ws (at + k) 0 ≡ start_of nos coords paths tiles k

-- all lines, by the answer
abbrev pub OwnMet : (nos : List ℕ) (coords : List Float) (paths : List ℕ) (tiles : ℕ) (ws' : List ℕ) → Own → Type 0
OwnMet nos coords paths tiles ws' (Done m) =
    (own_ran nos coords paths tiles ≡ done (view_of tiles ws' m)) × StartsNoted nos coords paths tiles ws' (tiles + tiles) (length nos)
OwnMet nos coords paths tiles ws' (Refused why line) = (s : St) × (own_ran nos coords paths tiles ≡ refused s (record { no = why; line = line }))
