-- `hand_out::total_of` meets its contract: std's sum of a list is that of the crate `lists`. Assumes nothing.
use mathlib.Core.Path.{◌≡◌, refl, ◌∙◌}
use mathlib.Core.List.{List, [], ◌∷◌}
use Prim.Native.Nat.{ℕ}
use native.Mathlib.Omega.{arith}
use borrow.Author.Rules.{rules}
use Rattle.std.specs.List.{sum as list_sum}
use Rattle.std.proofs.lemmas.List.Sums.{sum_by-cons}
use Rattle.lists.specs.Sums.{sum}
use Rattle.hand_out.proofs.total_of.Goals as goal

same_sum : (l : List ℕ) → list_sum l ≡ sum l
same_sum [] = refl
same_sum (x ∷ l) = omega (arith, sum_by-cons (λ (n : ℕ). n) x l, same_sum l)

pub returns : goal.returns
returns c = let e : c.sum.result ≡ list_sum c.args.counts.now = search rules in e ∙ same_sum c.args.counts.now
