-- What the functions of this crate tell each other. Only proofs lean on it: no promise of a public call does. Definitions only.
use Rattle.std.specs.Prelude.{◌≡◌, List, ℕ, ◌+◌, ◌-◌, ◌*◌, ◌≤◌, ◌<◌, ◌^◌, min, length, get_or}
use Rattle.lists.specs.Sums.{sum}

-- a key of the range that starts at s with n keys
abbrev pub Has : (s n k : ℕ) → Type 0
Has s n k = (s ≤ k) × (k < s + n)

-- a list in which only words from a place on were changed
pub record KeptBelow (free : ℕ) (ws ws' : List ℕ) : Type 0 where
  pub same_length : length ws' ≡ length ws
  pub kept : (k : ℕ) → k < free → get_or ws' k 0 ≡ get_or ws k 0

-- all words from a place on are 0
abbrev pub ClearFrom : ℕ → List ℕ → Type 0
ClearFrom free ws = (k : ℕ) → free ≤ k → get_or ws k 0 ≡ 0

-- a flag stood there before
pub record FlagStood (ws : List ℕ) (a b : ℕ) : Type 0 where
  pub place : ℕ
  pub low : a ≤ place
  pub high : place < b
  pub stood : get_or ws place 0 ≡ 0 → ⊥

-- none did, and each stands now
pub record FlagsNew (ws ws' : List ℕ) (a b : ℕ) : Type 0 where
  pub none : (k : ℕ) → a ≤ k → k < b → get_or ws k 0 ≡ 0
  pub now_flagged : (k : ℕ) → a ≤ k → k < b → get_or ws' k 0 ≡ 1
  pub before : (k : ℕ) → k < a → get_or ws' k 0 ≡ get_or ws k 0
  pub after : (k : ℕ) → b ≤ k → get_or ws' k 0 ≡ get_or ws k 0

-- flags from a on, up to b or to the first that stood before; so many words are 1 now that were 0
pub record FlagRan (ws ws' : List ℕ) (a b r : ℕ) : Type 0 where
  pub from : a ≤ r
  pub to : r ≤ b
  pub new : FlagsNew ws ws' a r
  pub stood : r < b → get_or ws r 0 ≡ 0 → ⊥
  pub more : sum ws' ≡ sum ws + (r - a)

-- range i meets an earlier one
pub record MeetsAt (start len : ℕ → ℕ) (i : ℕ) : Type 0 where
  pub other : ℕ
  pub key : ℕ
  pub earlier : other < i
  pub mine : Has (start i) (len i) key
  pub its : Has (start other) (len other) key

-- no two of the first n ranges have a key in common from low on and below high
abbrev pub ApartIn : (start len : ℕ → ℕ) → (low high n : ℕ) → Type 0
ApartIn start len low high n =
    (i j k : ℕ) → i < n → j < i → low ≤ k → k < high → Has (start i) (len i) k → Has (start j) (len j) k → ⊥

-- a pass over a window of keys stops at range r
pub record PassedTo (start len : ℕ → ℕ) (low high n r : ℕ) : Type 0 where
  pub within : r ≤ n
  pub met : r < n → MeetsAt start len r
  pub apart : ApartIn start len low high r

-- keys are below this
abbrev pub keys : ℕ
keys = 2 ^ 32

-- how far a key lies in a window that begins at low, at most its width
unfoldable pub place_of : (key low width : ℕ) → ℕ
place_of key low width = min (key - low) width

-- the end of a window of so many keys, no more than all of them
unfoldable pub window_end : (low width : ℕ) → ℕ
window_end low width = low + min width keys

-- one start more
pub record Nearer (before start end r : ℕ) : Type 0 where
  pub most : r ≤ before
  pub past : r < before → end ≤ r
  pub least : end ≤ start → r ≤ start
  pub own : r < before → r ≡ start

-- the least start at or past end, or the number of all keys; every start is a key
pub record NextStart (start : ℕ → ℕ) (end n r : ℕ) : Type 0 where
  pub most : r ≤ keys
  pub past : r < keys → end ≤ r
  pub least : (i : ℕ) → i < n → end ≤ start i → r ≤ start i
  pub small : (i : ℕ) → i < n → start i < keys
  pub is_start : r < keys → (i : ℕ) × (i < n) × (start i ≡ r)

-- so many windows of so many keys each, for n ranges that start below k, whatever k is: all but the last take up less than k keys
abbrev pub FewPasses : (start : ℕ → ℕ) → (n width passes : ℕ) → Type 0
FewPasses start n width passes = (k : ℕ) → 0 < passes → ((i : ℕ) → i < n → start i < k) → passes * width < k + width
