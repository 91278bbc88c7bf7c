-- Laws that several proofs cite. Assumes nothing.
use mathlib.Core.Path.{◌≡◌, refl, ap}
use mathlib.Core.List.{List, [], ◌∷◌}
use Prim.Native.Nat.{ℕ, suc}
use lib.ListN.{length}
use Rattle.lists.specs.Grid.{map_from, mapi, tab_from, tabulate}

tab : {A B : Type 0} (j : ℕ) (f : ℕ → B) (l : List A) → map_from j (λ k x. f k) l ≡ tab_from j (length l) f
unfolding map_from tab_from
tab j f [] = refl
tab j f (x ∷ l) = ap (◌∷◌ (f j)) (tab (suc j) f l)

-- a list written over at each index
pub mapi_over : {A B : Type 0} (f : ℕ → B) (l : List A) → mapi (λ k x. f k) l ≡ tabulate (length l) f
mapi_over f l = tab 0 f l
