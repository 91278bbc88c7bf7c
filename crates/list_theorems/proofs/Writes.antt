-- Words that stand at a place stay where others are written apart from them. Assumes nothing.
use mathlib.Core.Path.{◌≡◌, ap, ◌∙◌}
use mathlib.Core.Logic.{◌⊎◌, inl, inr}
use mathlib.Core.List.{List, ◌++◌}
use Prim.Native.Nat.{ℕ, ◌+◌, ◌≤◌, ◌<◌}
use native.Mathlib.Omega.{arith}
use native.Mathlib.Nat.{add_assoc}
use lib.ListN.{length, get_or, length-append, get_or-append}
use lib.Seq.{sets, length-sets, get_or-append-add}
use Rattle.lists.specs.Cells.{get_d_sets_after, get_d_sets_before}
use Rattle.commands.proofs.Encoded.{Stands}

-- other words written apart from them
pub other_stands : (ws : List ℕ) (at : ℕ) (vs : List ℕ) (i : ℕ) (us : List ℕ) → (at + length vs ≤ i) ⊎ (i + length us ≤ at) → Stands ws at vs → Stands (sets ws i us) at vs
other_stands ws at vs i us apart s =
    let r = s.room in
    record {
      room = omega (arith, length-sets ws i us);
      each = λ j b. go apart j b;
    }
  where
    go : (at + length vs ≤ i) ⊎ (i + length us ≤ at) → (j : ℕ) → j < length vs → get_or (sets ws i us) (at + j) 0 ≡ get_or vs j 0
    go (inl h) j b = get_d_sets_before us ws i (at + j) 0 (omega arith) ∙ s.each j b
    go (inr h) j b = get_d_sets_after us ws i (at + j) 0 (omega arith) ∙ s.each j b

-- words one after another
module _ (ws : List ℕ) (at : ℕ) (vs us : List ℕ) (s : Stands ws at (vs ++ us)) where
  pub first_stands : Stands ws at vs
  first_stands =
      let r = s.room in
      let n : length (vs ++ us) ≡ length vs + length us = length-append vs us in
      record {
        room = omega arith;
        each = λ j b. s.each j (omega arith) ∙ get_or-append vs us 0 j b;
      }

  pub then_stands : Stands ws (at + length vs) us
  then_stands =
      let r = s.room in
      let n : length (vs ++ us) ≡ length vs + length us = length-append vs us in
      record {
        room = omega arith;
        each = λ j b. ap (λ (k : ℕ). get_or ws k 0) (add_assoc at (length vs) j) ∙ s.each (length vs + j) (omega arith) ∙ get_or-append-add vs us j 0;
      }
