-- The theorems put together: lines counted in batches, references tiled in ranges, backdrops after the sums. Assumes nothing.
use mathlib.Core.Path.{◌≡◌, sym, ap, ◌∙◌}
use mathlib.Core.List.{List, [], ◌∷◌}
use Prim.Native.Nat.{ℕ, ◌/◌, ◌≤◌, ◌<◌}
use native.Mathlib.Omega.{arith}
use lib.ListN.{length, replicate}
use lib.IntN.{ℤ, pos, negsuc}
use lib.Ieee.{Float}
use Rattle.lists.specs.Tally.{zeros}
use Rattle.panel.specs.Widths.{line_floats, ref_words}
use Rattle.panel.specs.Pieces.{Pieces}
use Rattle.panel.specs.Kinds.{running_of}
use Rattle.panel.specs.Paths.{boxed, path_at, path_count, tile_of}
use Rattle.panel.specs.Answer as Answer
use Rattle.panel.proofs.PathLaws.{InBox}
use Rattle.backdrop.specs.Backdrop.{Out, backdrop_at, backdrop_of}
use Rattle.hand_out.specs.HandOut as HandOut
use Rattle.acts.specs.Acts.{st_of}
use Rattle.path_count.specs.Count.{told_of, paper_of}
use Rattle.path_count.specs.Counted.{Done}
use Rattle.looks.specs.Look.{lent}
use Rattle.path_tiling.specs.Tiling.{call_of, range_tiled}
use Rattle.theorems.specs.Drawn.{drawn, of_path}
use Rattle.theorems.specs.Refs.{AllCounted}
use Rattle.theorems.specs.Stray.{NoStray}
use Rattle.theorems.specs.Batches.{Rising, last_of, in_batches, in_ranges}
use Rattle.theorems.specs.Starred.{floats_of}
use Rattle.theorems.proofs.StarredTable.{starred}
use Rattle.theorems.proofs.SumLaws.{sums}
use Rattle.theorems.proofs.StrayLaws.{no_stray}
use Rattle.theorems.proofs.BatchLaws.{many_batches, many_ranges}
use Rattle.theorems.proofs.Isolation.{isolated_sums}
use Rattle.theorems.proofs.Calm.{sums_done}

-- lines counted in batches, of which the last is done: the premise of the other theorems
pub batches_counted : (nos : List ℕ) (coords : List Float) (paths : List ℕ) (n : ℕ) (refs : List ℕ) (bs : List ℤ) (cs rs : List ℕ) (m e : ℕ) (es : List ℕ)
    → Rising 0 (e ∷ es) → last_of e es ≤ length coords / line_floats
    → in_batches (e ∷ es) (running_of 0 0) nos coords paths (replicate n (pos 0)) (zeros n) refs ≡ told_of (paper_of (Done (running_of (last_of e es) m))) (st_of bs cs rs m)
    → AllCounted (last_of e es) nos coords paths n refs bs cs rs m
batches_counted nos coords paths n refs bs cs rs m e es h k d =
    sym (many_batches nos coords paths 0 e es h k 0 (replicate n (pos 0)) (zeros n) refs) ∙ d

-- No stray piece, with the references tiled in ranges, cut anywhere: the segments and the answer afterwards are those of one call, whose writes are
-- all their own path's
pub no_stray_cut : (b : ℕ) (nos : List ℕ) (coords : List Float) (paths : List ℕ) (n : ℕ) (refs : List ℕ) (bs : List ℤ) (cs rs : List ℕ) (m : ℕ)
    (room : ℕ) (kept ws tl : List ℕ) (p : Pieces) → AllCounted b nos coords paths n refs bs cs rs m → HandOut.hand_out_of room cs kept ≡ HandOut.out_of Answer.Done ws tl
    → (e : ℕ) (es : List ℕ) → Rising 0 (e ∷ es) → last_of e es ≡ m
    → (in_ranges 0 (e ∷ es) (lent nos coords paths ws rs) p ≡ range_tiled (call_of 0 m (lent nos coords paths ws rs) p) p)
    × NoStray nos coords paths cs rs m p (call_of 0 m (lent nos coords paths ws rs) p)
no_stray_cut b nos coords paths n refs bs cs rs m room kept ws tl p all d e es h q =
    let there : last_of e es ≤ length rs / ref_words = omega (arith, (sums b nos coords paths n refs bs cs rs m all).there) in (
      many_ranges (lent nos coords paths ws rs) 0 e es h there p ∙ ap (λ (k : ℕ). range_tiled (call_of 0 k (lent nos coords paths ws rs) p) p) q,
      no_stray b nos coords paths n refs bs cs rs m room kept ws tl p all d,
    )

-- Beam isolation after the sums: they are never refused, and path p's tiles are alike
pub isolated_after : (paths : List ℕ) (n : ℕ)
    (b : ℕ) (nos : List ℕ) (coords : List Float) (refs : List ℕ) (bs : List ℤ) (cs rs : List ℕ) (m : ℕ)
    (b' : ℕ) (nos' : List ℕ) (coords' : List Float) (refs' : List ℕ) (bs' : List ℤ) (cs' rs' : List ℕ) (m' : ℕ)
    → AllCounted b nos coords paths n refs bs cs rs m → AllCounted b' nos' coords' paths n refs' bs' cs' rs' m'
    → (p : ℕ) → of_path p (drawn nos coords b) ≡ of_path p (drawn nos' coords' b') → p < path_count paths
    → (x y : ℕ) → InBox (path_at paths p) x y
    → backdrop_at (backdrop_of paths bs).backs (tile_of (path_at paths p) x y) ≡ backdrop_at (backdrop_of paths bs').backs (tile_of (path_at paths p) x y)
isolated_after paths n b nos coords refs bs cs rs m b' nos' coords' refs' bs' cs' rs' m' all all' p e k x y i =
    let d = sums_done b nos coords paths n refs bs cs rs m all in
    let d' = sums_done b' nos' coords' paths n refs' bs' cs' rs' m' all' in
    let t : ℕ = tile_of (path_at paths p) x y in
    ap (λ (o : Out). backdrop_at o.backs t) d.1
    ∙ isolated_sums paths n b nos coords refs bs cs rs m b' nos' coords' refs' bs' cs' rs' m' all all' p e k d.0 d'.0 d.1 d'.1 x y i
    ∙ sym (ap (λ (o : Out). backdrop_at o.backs t) d'.1)

-- the premise is no empty one: (8,8)-(8,24) over the box 0,0,2,2
pub an_instance : AllCounted 1 (0 ∷ []) (floats_of (8 ∷ 8 ∷ 8 ∷ 24 ∷ [])) (boxed 0 0 2 2 0) 4 (0 ∷ 0 ∷ 0 ∷ 0 ∷ [])
    (pos 0 ∷ pos 0 ∷ pos 0 ∷ negsuc 0 ∷ []) (1 ∷ 0 ∷ 1 ∷ 0 ∷ []) (0 ∷ 0 ∷ 0 ∷ 1 ∷ []) 2
an_instance = starred.0
