-- A range of a list, cleared or copied; what lies outside it stays. Definitions only.
use Rattle.std.specs.Prelude.{List, ℕ, ◌+◌, ◌-◌, get_or}
use Rattle.lists.specs.Grid.{mapi, within}

-- the n elements from a on are z
unfoldable pub cleared_of : {A : Type 0} → A → (a n : ℕ) → List A → List A
cleared_of z a n xs = mapi (within a (a + n) (λ k x. z)) xs

-- the n elements from b on are those of another list from a on; d stands for one that isn't there
unfoldable pub copied_of : {A : Type 0} → A → List A → (a b n : ℕ) → List A → List A
copied_of d from a b n xs = mapi (within b (b + n) (λ k x. get_or from (a + (k - b)) d)) xs
