-- One reference, taken: the segments and tags after it. Only proofs lean on this: no promise of a public call does. Definitions only.
use Rattle.std.specs.Prelude.{ℕ}
use Rattle.panel.specs.Pieces.{Pieces, placed}
use Rattle.panel.specs.Verdict.{Verdict}
use Rattle.looks.specs.Looked.{Look, Put, Empty, Against}

-- one reference, with its line's tag: the verdict on it, and the segments and tags afterwards
pub record One : Type 0 where
  pub verdict : Verdict
  pub pieces : Pieces

abbrev pub one : Verdict → Pieces → One
one v p = record { verdict = v; pieces = p }

abbrev pub one_of : ℕ → Look → Pieces → One
one_of tag (Put slot s) p = one Verdict.Fine (placed slot.0 s tag p)
one_of tag Empty p = one Verdict.Fine p
one_of tag (Against why) p = one (Verdict.Against why) p
