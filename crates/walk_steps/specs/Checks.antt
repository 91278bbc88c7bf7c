-- What the check of a step hands on, and what it notes. Only proofs lean on this: no promise of a public call does. Definitions only.
use Rattle.std.specs.Prelude.{cond, ℕ, ◌+◌, ◌-◌, leb, Float}
use Rattle.panel.specs.Verdict.{Verdict}
use Rattle.panel.specs.Verdict.{Fine, Against}
use Rattle.walk.specs.Num.{float}
use Rattle.walk.specs.Step.{z_at}
use Rattle.walk.specs.declared.kinds.Pace.{Pace}
use Rattle.strides.specs.Words.{word_of}
use Rattle.acts.specs.Acts.{Hit, on, off}
use Rattle.hits.specs.Notes.{note_words}
use Rattle.walk_steps.specs.Noted.{Noted}
use Rattle.walk_steps.specs.Noted.{Passed as NotedPassed, Against as NotedAgainst}
use Rattle.walk_steps.specs.Seen.{Seen}
use Rattle.walk_steps.specs.Seen.{Passed, Against as SeenAgainst}

-- z of step i, which is the last z of the step after it
abbrev pub z_of : Pace → ℕ → Float
z_of w i = z_at w.a w.b (float i)

-- a step that passes hands its z on
abbrev pub seen_of : Verdict → Float → Seen
seen_of Fine z = Passed z
seen_of (Against n) z = SeenAgainst n

-- the word of a step
abbrev pub word_by : Hit → ℕ
word_by (on t c) = word_of t c
word_by off = 0

abbrev pub noted_of : Verdict → Float → ℕ → Noted
noted_of Fine z k = NotedPassed z k
noted_of (Against n) z k = NotedAgainst n

-- the end of the steps that are noted, of a walk from step a up to step b
abbrev pub noted_to : ℕ → ℕ → ℕ
noted_to a b = cond (leb (b - a) note_words) b (a + note_words)
