--  Definitions only.
use Rattle.std.specs.Prelude.{Result, Ok, Err, ⊤, ℕ}

abbrev pub Verdict : Type 0
Verdict = Result ⊤ ℕ

pattern abbrev pub Fine : Verdict
Fine = Ok tt

pattern abbrev pub Refused : ℕ → Verdict
Refused a = Err a
