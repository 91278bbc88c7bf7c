-- What is written at the slots: there are as many segments and tags afterwards, the tag written at a slot is read there, and other slots keep theirs.
-- Assumes nothing.
use mathlib.Core.Path.{◌≡◌}
use mathlib.Core.Logic.{◌≢◌}
use Prim.Native.Nat.{ℕ, ◌*◌, ◌<◌}
use lib.ListN.{length, get_or, length-set}
use lib.Seq.{length-sets, get_or-set_same, get_or-set_other}
use Rattle.panel.specs.Widths.{segment_floats}
use Rattle.panel.specs.Segments.{floats_of}
use Rattle.panel.specs.Pieces.{Pieces, placed}
use Rattle.panel.specs.declared.segments.Segment.{Segment}

module _ (slot : ℕ) (s : Segment) (tag : ℕ) (p : Pieces) where
  pub as_long : length (placed slot s tag p).segments ≡ length p.segments
  as_long = length-sets p.segments (slot * segment_floats) (floats_of s)

  pub as_many : length (placed slot s tag p).tags ≡ length p.tags
  as_many = length-set p.tags slot tag

  pub tag_back : slot < length p.tags → get_or (placed slot s tag p).tags slot 0 ≡ tag
  tag_back h = get_or-set_same p.tags slot tag 0 h

  pub tag_other : (k : ℕ) → k ≢ slot → get_or (placed slot s tag p).tags k 0 ≡ get_or p.tags k 0
  tag_other k n = get_or-set_other p.tags slot k tag 0 n
