-- References in another order. Definitions only.
use Rattle.std.specs.Prelude.{◌≡◌, List, ℕ, ◌*◌, ◌<◌, length}
use Rattle.panel.specs.Widths.{ref_words}
use Rattle.panel.specs.Refs.{line_at, packed_at}

-- the m references of rs' are the first m of rs, each once: reference j is the one at `order j`
pub record Reordered (m : ℕ) (rs rs' : List ℕ) : Type 0 where
  pub order : ℕ → ℕ
  pub inside : (j : ℕ) → j < m → order j < m
  pub once : (i j : ℕ) → i < m → j < m → order i ≡ order j → i ≡ j
  pub many : length rs' ≡ m * ref_words
  pub line : (j : ℕ) → j < m → line_at rs' j ≡ line_at rs (order j)
  pub word : (j : ℕ) → j < m → packed_at rs' j ≡ packed_at rs (order j)
