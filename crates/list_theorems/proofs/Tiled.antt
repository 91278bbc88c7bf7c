-- Tables as hand-out leaves them: of the segments only those in slots handed out count. Where a fill takes each of these, as it takes what tiling
-- writes, a list written is never refused and its pixels are those of painting. docs/THEOREMS.md, "Lists written". Assumes nothing.
use mathlib.Core.List.{List}
use Prim.Native.Nat.{ℕ}
use lib.IntN.{ℤ}
use lib.Ieee.{Float}
use Rattle.lists.specs.Sums.{sum}
use Rattle.pairs.specs.Pairs.{Tables, tables}
use Rattle.list_theorems.specs.Written.{Wrote, Fills, AllI32, NeverRefused, LikePainted}
use Rattle.list_theorems.proofs.Handed.{Handed, handed_used}
use Rattle.list_theorems.proofs.Written.{never_refused, like_painted}

module _ (paths paints : List ℕ) (backdrops : List ℤ) (stored tally : List ℕ) (room : ℕ) (h : Handed room stored tally) (cols rows : ℕ) (ws words : List ℕ)
    (wrote : Wrote (tables paths paints backdrops stored tally) cols rows room ws words) (segs : List Float) (fills : Fills (sum tally) segs) where
  abbrev s : Tables
  s = tables paths paints backdrops stored tally

  used : Wrote s cols rows (sum tally) ws words
  used = handed_used paths paints backdrops stored tally room h cols rows ws words wrote

  pub handed_never_refused : NeverRefused cols rows words segs
  handed_never_refused = never_refused s cols rows (sum tally) ws words used segs fills

  pub handed_like_painted : AllI32 backdrops → LikePainted s cols rows words segs
  handed_like_painted fit = like_painted s cols rows (sum tally) ws words used segs fills fit
