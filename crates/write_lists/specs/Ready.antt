-- What the writer's functions tell each other: the answer of the checks made tile by tile. Only proofs lean on this: no promise of a public call
-- does. Definitions only.
use Rattle.std.specs.Prelude.{Bool, ◌&&◌, List, ℕ, ◌+◌}
use Rattle.panel.specs.Checks.{first_no, unless}
use Rattle.panel.specs.Answer.{Answer}
use Rattle.panel.specs.Answer.{Done}
use Rattle.pairs.specs.Pairs.{Tables}
use Rattle.write_lists.specs.Lists.{then_check, long_from, fresh_of, fills_fit, room_checks}

-- 15 over these tiles, then 9, where those before them took so many fresh regions, and their slots fit or not; n tiles in all
unfoldable pub tiles_answer : Tables → (cols room n lent : ℕ) → ℕ → Bool → List ℕ → Answer
tiles_answer s cols room n lent fresh slots ts =
    then_check (long_from s cols ts) (unless (first_no (room_checks (n + (fresh + fresh_of s cols ts)) lent (slots && fills_fit s cols room ts))) 0 Done)
