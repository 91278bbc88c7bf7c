-- How much working room a path has; the promise of the call for boxes cites it. Definitions only.
use Rattle.std.specs.Prelude.{ℕ}

-- words of working room to a path
abbrev pub box_words : ℕ
box_words = 4
