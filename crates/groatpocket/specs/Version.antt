-- The version's number: 10,000 for each major one, 100 for each minor one. Definitions only.
use Rattle.std.specs.Prelude.{ℕ}

abbrev pub version_number : ℕ
version_number = 200
