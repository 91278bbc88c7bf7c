-- What a caller in C or Rust sees after a call: the number that it answers, the item's number where it asked for one, and all that it lent.
-- Each is read off what the stage's own definition leaves, whose answer stands on paper. Definitions only.
use Rattle.std.specs.Prelude.{ℕ, List, [], ◌∷◌}

-- an answer on paper is its number, then the item's where it is a refusal
abbrev pub no : List ℕ → ℕ
no [] = 0
no (n ∷ more) = n

abbrev pub item : List ℕ → ℕ
item [] = 0
item (n ∷ []) = 0
item (n ∷ i ∷ more) = i

-- the number and what was lent
pub record Seen (L : Type 0) : Type 0 where
  pub number : ℕ
  pub lent : L

abbrev pub seen : {L : Type 0} → ℕ → L → Seen L
seen n l = record { number = n; lent = l }

-- and the item's number besides
pub record SeenAt (L : Type 0) : Type 0 where
  pub number : ℕ
  pub at : ℕ
  pub lent : L

abbrev pub seen_at : {L : Type 0} → ℕ → ℕ → L → SeenAt L
seen_at n i l = record { number = n; at = i; lent = l }
