-- What a caller sees of `gp_outlines`: the number, the item's number, and the working room. Definitions only.
use Rattle.std.specs.Prelude.{ℕ, ◌≡◌, List, Float}
use Rattle.panel.specs.Kinds.{number_of, item_of}
use Rattle.outlines.specs.Call.{Out, outlines_of}
use Rattle.groatpocket.specs.Seen.{SeenAt, seen_at}

abbrev pub outlines_seen : Out → SeenAt (List ℕ)
outlines_seen o = seen_at (number_of o.answer) (item_of o.answer) o.work

abbrev pub GpOutlinesMet : (nos : List ℕ) (coords : List Float) (paths : ℕ) (work : List ℕ) → ℕ → ℕ → (work' : List ℕ) → Type 0
GpOutlinesMet nos coords paths work r at work' = seen_at r at work' ≡ outlines_seen (outlines_of nos coords paths work)
