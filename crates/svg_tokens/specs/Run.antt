-- The digits at the head of a text, up to a limit: the number that they make after n, and how many were taken, k before them. Definitions only.
use Rattle.std.specs.Prelude.{ℕ, zero, suc, ◌+◌, ◌-◌, ◌*◌, cond, List, [], ◌∷◌}
use Rattle.svg_path.specs.Chars.{is_digit}
use Rattle.svg_tokens.specs.declared.Run.{Run}

unfoldable pub run_of : ℕ → ℕ → ℕ → List ℕ → Run
run_of zero n k s = record { n = n; taken = k }
run_of (suc l) n k [] = record { n = n; taken = k }
run_of (suc l) n k (c ∷ s) = cond (is_digit c) (run_of l (n * 10 + (c - 48)) (suc k) s) (record { n = n; taken = k })
