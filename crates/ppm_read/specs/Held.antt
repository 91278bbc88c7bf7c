-- What the reader's inner functions promise. Once a number is over the limit the code takes no more of
-- its digits in, so that no file makes it wrap: what the code has and what is meant are equal under
-- `held`, which tells numbers over the limit from the others and not from each other. Only proofs lean on
-- this: no promise of a public call does. Definitions only.
use Rattle.std.specs.Prelude.{ℕ, None, ◌+◌, ◌≤◌, ◌<◌, List, cond, leb, length, drop}
use Rattle.panel.specs.Limits.{side_most}
use Rattle.ppm_read.specs.Header.{Got, got, none, Header, size, no_header}
use Rattle.ppm_read.specs.declared.Stage.{Stage}
use Rattle.ppm_read.specs.declared.Stage.TheVariants.{Start, Gap, Digits}
use Rattle.ppm_read.specs.declared.Next.{Next}
use Rattle.ppm_read.specs.declared.Next.TheVariants.{To, Ends, Bad}
use Rattle.ppm_read.specs.Number.{Number}
use Rattle.ppm_read.specs.Number.{At}
use Rattle.ppm_read.specs.Head.{Head}
use Rattle.ppm_read.specs.Head.{Size, NoHead}

-- a number, or one over the limit where it is larger
unfoldable pub held : ℕ → ℕ
held n = cond (leb n side_most) n (side_most + 1)

abbrev pub held_stage : Stage → Stage
held_stage Start = Start
held_stage Gap = Gap
held_stage (Digits n) = Digits (held n)

abbrev pub held_next : Next → Next
held_next (To c s) = To c (held_stage s)
held_next (Ends n) = Ends (held n)
held_next Bad = Bad

abbrev pub held_got : Got → Got
held_got (got n r) = got (held n) r
held_got none = none

-- what the code's answers stand for, over the file's bytes
abbrev pub got_of : List ℕ → Number → Got
got_of file (At n at) = got n (drop at file)
got_of file None = none

abbrev pub sized_of : List ℕ → Head → Header
sized_of file (Size w h at) = size w h (drop at file)
sized_of file NoHead = no_header

abbrev pub held_header : Header → Header
held_header (size w h r) = size (held w) (held h) r
held_header no_header = no_header

-- a place that a number's reading answers is one of the file's
abbrev pub Within : List ℕ → Number → Type 0
Within file (At n at) = at < length file
Within file None = Unit

abbrev pub WithinHead : List ℕ → Head → Type 0
WithinHead file (Size w h at) = at ≤ length file
WithinHead file NoHead = Unit
