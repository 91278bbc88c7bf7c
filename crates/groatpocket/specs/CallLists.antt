-- What a caller sees of the list writer's call, read off what its definition leaves. Definitions only.
use Rattle.std.specs.Prelude.{ℕ, ◌≡◌, List}
use Rattle.pairs.specs.Pairs.{Tables}
use Rattle.write_lists.specs.Lists as Lists
use Rattle.groatpocket.specs.Seen.{no, item, SeenAt, seen_at}

-- the words
abbrev pub lists_seen : Lists.Left → SeenAt (List ℕ)
lists_seen l = seen_at (no l.paper) (item l.paper) l.words

-- the call's promise: what a caller sees is what the writer's definition leaves
abbrev pub GpListsMet : Tables → (cols rows room : ℕ) (ws : List ℕ) → ℕ → ℕ → (ws' : List ℕ) → Type 0
GpListsMet s cols rows room ws r at ws' = seen_at r at ws' ≡ lists_seen (Lists.write_lists_of s cols rows room ws)
