-- The least number that passes a test, by looking at one after another. Definitions only.
use Rattle.std.specs.Prelude.{Bool, cond, ℕ, zero, suc, ltb}

-- of n numbers from a on; a + n where none does
unfoldable pub first_from : (ℕ → Bool) → ℕ → ℕ → ℕ
first_from p a zero = a
first_from p a (suc n) = cond (p a) a (first_from p (suc a) n)

-- of the numbers below n; n where none does
abbrev pub first_of : (ℕ → Bool) → ℕ → ℕ
first_of p n = first_from p 0 n

-- whether one below n does
abbrev pub some_below_word : (ℕ → Bool) → ℕ → Bool
some_below_word p n = ltb (first_of p n) n
