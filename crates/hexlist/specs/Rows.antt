-- A row of words that stands for a slice, by the length word before it. Definitions only.
use Rattle.std.specs.Prelude.{ℕ, suc, ◌+◌, ◌%◌, Bool, true, ◌&&◌, cond, List, [], ◌∷◌, ltb, get_or}

-- below 2 ^ 31 a length, and else 2 ^ 31 more than one, of words that are all the same
abbrev pub length_of : ℕ → ℕ
length_of code = code % 2147483648

-- so many words follow, or one, or none where the slice is as it was before
abbrev pub stored_of : ℕ → ℕ
stored_of code = cond (ltb code 2147483648) code (cond (ltb code 4294967295) 1 0)

-- the word for element k of the slice whose row is at base
unfoldable pub word_of : List ℕ → ℕ → ℕ → ℕ → ℕ
word_of words base code k = cond (ltb code 2147483648) (get_or words (base + k) 0) (get_or words (base + 0) 0)

-- what stands at k afterwards, where x stood; `value` gives what a word stands for
abbrev pub element_as : {A : Type 0} → (ℕ → A) → List ℕ → ℕ → ℕ → ℕ → A → A
element_as value words base code k x = value (word_of words base code k)

-- whether each element, the first being element k, is the one that its word names
unfoldable pub same_row : {A : Type 0} → (A → ℕ → Bool) → (ℕ → ℕ) → ℕ → List A → Bool
same_row is word k [] = true
same_row is word k (x ∷ xs) = is x (word k) && same_row is word (suc k) xs
