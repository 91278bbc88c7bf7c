-- From counting to the screen: lines counted into zeroed tiles with no refusal, their slots handed out, all references tiled with no refusal, and the
-- lists written. Then no screen tile is refused, not for 13, 14, 15 or 20, and the pixels are those of painting. docs/THEOREMS.md, "Lists written".
-- Assumes nothing.
use mathlib.Core.Path.{◌≡◌, sym, ap, subst, ◌∙◌}
use mathlib.Core.List.{List}
use Prim.Native.Nat.{ℕ, ◌/◌, ◌%◌, ◌≤◌, ◌<◌}
use lib.IntN.{ℤ}
use lib.ListN.{length}
use lib.Ieee.{Float}
use Rattle.panel.specs.Pieces.{Pieces}
use Rattle.lists.specs.Sums.{sum}
use Rattle.panel.specs.Widths.{segment_floats}
use Rattle.panel.specs.Answer.{Done}
use Rattle.hand_out.specs.HandOut.{out_of, hand_out_of}
use Rattle.looks.specs.Look.{lent}
use Rattle.path_tiling.specs.Tiling.{applied, call_of}
use Rattle.path_tiling.proofs.WriteLaws.{length_applied}
use Rattle.pairs.specs.Pairs.{tables}
use Rattle.theorems.specs.Refs.{AllCounted}
use Rattle.theorems.proofs.SumLaws.{sums}
use Rattle.theorems.proofs.StrayLaws.{handed_is, no_stray}
use Rattle.theorems.proofs.Taken.{tiled_straight}
use Rattle.list_theorems.specs.Written.{Wrote, Fills, AllI32, NeverRefused, LikePainted}
use Rattle.list_theorems.proofs.Handed.{handed}
use Rattle.list_theorems.proofs.Tiled.{handed_never_refused, handed_like_painted}

module _ (b : ℕ) (nos : List ℕ) (coords : List Float) (paths : List ℕ) (n : ℕ) (refs : List ℕ) (bs : List ℤ) (cs rs : List ℕ) (m : ℕ)
    (counted : AllCounted b nos coords paths n refs bs cs rs m) (room : ℕ) (kept stored tally : List ℕ) (out : hand_out_of room cs kept ≡ out_of Done stored tally)
    (p : Pieces) (whole : length p.segments % segment_floats ≡ 0) (enough : m ≤ length p.segments / segment_floats)
    (tiled : (call_of 0 m (lent nos coords paths stored rs) p).answer ≡ Done) where
  -- the segments after tiling
  abbrev after : List Float
  after = (applied (call_of 0 m (lent nos coords paths stored rs) p).writes p).segments

  all : sum tally ≡ m
  all = ap sum (handed_is room cs kept stored tally out).1 ∙ (sums b nos coords paths n refs bs cs rs m counted).total

  pub tiled_fills : Fills (sum tally) after
  tiled_fills =
      let l = length_applied (call_of 0 m (lent nos coords paths stored rs) p).writes p in
      let each = tiled_straight nos coords paths cs rs m p _ (no_stray b nos coords paths n refs bs cs rs m room kept stored tally p counted out) tiled in
      record {
        whole = ap (λ (k : ℕ). k % segment_floats) l ∙ whole;
        enough = subst (λ (k : ℕ). sum tally ≤ k / segment_floats) (sym l) (subst (λ (k : ℕ). k ≤ length p.segments / segment_floats) (sym all) enough);
        straight = λ k h. each k (subst (λ (j : ℕ). k < j) all h);
      }

  module _ (paints : List ℕ) (backdrops : List ℤ) (cols rows : ℕ) (ws words : List ℕ) (wrote : Wrote (tables paths paints backdrops stored tally) cols rows room ws words) where
    pub drawn_never_refused : NeverRefused cols rows words after
    drawn_never_refused = handed_never_refused paths paints backdrops stored tally room (handed room cs kept stored tally out) cols rows ws words wrote after tiled_fills

    pub drawn_like_painted : AllI32 backdrops → LikePainted (tables paths paints backdrops stored tally) cols rows words after
    drawn_like_painted fit = handed_like_painted paths paints backdrops stored tally room (handed room cs kept stored tally out) cols rows ws words wrote after tiled_fills fit
