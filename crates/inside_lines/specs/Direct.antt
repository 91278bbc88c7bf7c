-- What is said of a line that lies inside its path's box. Only proofs lean on this: no promise of a public call does. Definitions only.
use Rattle.std.specs.Prelude.{◌≡◌, List, ℕ, ◌+◌, ℤ}
use Rattle.lists.specs.Run.{done}
use Rattle.walk.specs.Walked.{Walked}
use Rattle.acts.specs.Acts.{st_of}
use Rattle.walked_lines.specs.Line.{walked_step, line_ran}
use Rattle.few_steps.specs.Direct.{Direct}
use Rattle.few_steps.specs.Direct.{On, Other}

-- the line whose walk is x is counted, with n references, and leaves what its acts make; or nothing is said, and what is lent is as it was
abbrev pub DirectMet : Walked → (room l made : ℕ) → (bs : List ℤ) (cs rs : List ℕ) → (bs' : List ℤ) (cs' rs' : List ℕ) → Direct → Type 0
DirectMet x room l made bs cs rs bs' cs' rs' (On n) = done (st_of bs' cs' rs' (made + n)) ≡ line_ran (walked_step room l x (st_of bs cs rs made)) (st_of bs cs rs made)
DirectMet x room l made bs cs rs bs' cs' rs' Other = (bs' ≡ bs) × (cs' ≡ cs) × (rs' ≡ rs)
