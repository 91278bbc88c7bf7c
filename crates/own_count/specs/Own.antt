-- Our own count of all lines, from zeroed tiles, with room for as many references as there can be. The references themselves are kept by nobody: their
-- list is empty. docs/RULES.md, "When the panel says no", counting. Definitions only.
use Rattle.std.specs.Prelude.{List, [], ℕ, length, replicate, pos, Float}
use Rattle.lists.specs.Run.{Ran}
use Rattle.panel.specs.Limits.{most_slots}
use Rattle.acts.specs.Acts.{St, st_of}
use Rattle.acts.specs.Line.{Refusal}
use Rattle.path_count.specs.Count.{batch}

-- so many tiles, all 0, and no reference made
abbrev pub zeroed : ℕ → St
zeroed tiles = st_of (replicate tiles (pos 0)) (replicate tiles 0) [] 0

-- the first n lines
unfoldable pub own_to : (nos : List ℕ) (coords : List Float) (paths : List ℕ) (tiles n : ℕ) → Ran St Refusal
own_to nos coords paths tiles n = batch nos coords paths most_slots 0 n (zeroed tiles)

-- all of them: what they leave, or the number of the first refusal and its line
abbrev pub own_ran : (nos : List ℕ) (coords : List Float) (paths : List ℕ) (tiles : ℕ) → Ran St Refusal
own_ran nos coords paths tiles = own_to nos coords paths tiles (length nos)
