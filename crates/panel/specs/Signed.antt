-- The range of a backdrop. docs/RULES.md, refusal 11. Definition only.
use Rattle.std.specs.Prelude.{Bool, ◌&&◌, ℤ, pos, negsuc}
use Rattle.std.specs.Int.Signed.{le_z}

-- from -2,147,483,648 to 2,147,483,647
abbrev pub in_i32 : ℤ → Bool
in_i32 z = le_z (negsuc 2147483647) z && le_z z (pos 2147483647)
