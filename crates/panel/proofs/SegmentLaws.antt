-- What is written at a slot is what is read there, and other slots are as they were. Assumes nothing.
use mathlib.Core.Path.{◌≡◌, refl}
use mathlib.Core.Logic.{◌≢◌}
use mathlib.Core.List.{List, [], ◌∷◌}
use Prim.Native.Nat.{ℕ, zero, suc, ◌+◌, ◌*◌, ◌≤◌, ◌<◌}
use native.Mathlib.Decide.{dec_lt}
use native.Mathlib.Nat.{add-zero}
use native.Mathlib.Omega.{arith}
use lib.ListN.{length, get_or, set}
use lib.Seq.{sets}
use lib.Ieee.{Float, nan}
use Rattle.lists.specs.Cells.{get_d_sets_in, get_d_sets_before, get_d_sets_after}
use Rattle.panel.specs.Widths.{segment_floats}
use Rattle.panel.specs.Segments.{floats_of, put_of, segment_at}
use Rattle.panel.specs.declared.segments.Segment.{Segment}

-- five stores, one after another
pub five_stores : (l : List Float) (k : ℕ) (a b c d e : Float)
    → set (set (set (set (set l k a) (k + 1) b) (k + 2) c) (k + 3) d) (k + 4) e ≡ sets l k (a ∷ b ∷ c ∷ d ∷ e ∷ [])
five_stores l k a b c d e =
    let one : k + 1 ≡ suc k = omega arith in
    let two : k + 2 ≡ suc (suc k) = omega arith in
    let three : k + 3 ≡ suc (suc (suc k)) = omega arith in
    let four : k + 4 ≡ suc (suc (suc (suc k))) = omega arith in
    rw (one, two, three, four)

module _ (slot : ℕ) (s : Segment) (l : List Float) where
  -- a segment's floats, one by one
  float_in : slot * segment_floats + segment_floats ≤ length l → (j : ℕ) → j < segment_floats
      → get_or (put_of slot s l) (segment_floats * slot + j) nan ≡ get_or (floats_of s) j nan
  float_in h j q =
      let e : segment_floats * slot + j ≡ slot * segment_floats + j = omega arith in
      rw e (get_d_sets_in (floats_of s) l (slot * segment_floats) j nan (omega arith) (omega arith))

  float_other : (k : ℕ) → k ≢ slot → (j : ℕ) → j < segment_floats
      → get_or (put_of slot s l) (segment_floats * k + j) nan ≡ get_or l (segment_floats * k + j) nan
  float_other k n j q = go (dec_lt k slot)
    where
      go : Dec (k < slot) → get_or (put_of slot s l) (segment_floats * k + j) nan ≡ get_or l (segment_floats * k + j) nan
      go (yes p) = get_d_sets_before (floats_of s) l (slot * segment_floats) (segment_floats * k + j) nan (omega arith)
      go (no p) = get_d_sets_after (floats_of s) l (slot * segment_floats) (segment_floats * k + j) nan (omega arith)

  -- what tiling writes at a slot is what coverage reads there
  pub reads_put : slot * segment_floats + segment_floats ≤ length l → segment_at (put_of slot s l) slot ≡ s
  unfolding segment_at
  reads_put h =
      let a : (j : ℕ) → j < segment_floats → get_or (put_of slot s l) (segment_floats * slot + j) nan ≡ get_or (floats_of s) j nan = float_in h in
      let first : get_or (put_of slot s l) (segment_floats * slot) nan ≡ s.p0.x = rw add-zero at (a 0 (omega arith)) in
      rw (first, a 1 (omega arith), a 2 (omega arith), a 3 (omega arith), a 4 (omega arith))

  -- and at other slots nothing has changed
  pub reads_other : (k : ℕ) → k ≢ slot → segment_at (put_of slot s l) k ≡ segment_at l k
  unfolding segment_at
  reads_other k n =
      let a : (j : ℕ) → j < segment_floats → get_or (put_of slot s l) (segment_floats * k + j) nan ≡ get_or l (segment_floats * k + j) nan = float_other k n in
      let first : get_or (put_of slot s l) (segment_floats * k) nan ≡ get_or l (segment_floats * k) nan = rw add-zero at (a 0 (omega arith)) in
      rw (first, a 1 (omega arith), a 2 (omega arith), a 3 (omega arith), a 4 (omega arith))

-- a slot's floats are those of the segment that is read there: `floats_of` undoes `segment_at`
pub floats_read : (l : List Float) (k j : ℕ) → j < segment_floats → get_or (floats_of (segment_at l k)) j nan ≡ get_or l (segment_floats * k + j) nan
unfolding segment_at
floats_read l k zero q = rw add-zero
floats_read l k (suc zero) q = refl
floats_read l k (suc (suc zero)) q = refl
floats_read l k (suc (suc (suc zero))) q = refl
floats_read l k (suc (suc (suc (suc zero)))) q = refl
floats_read l k (suc (suc (suc (suc (suc j))))) q = absurd (omega arith)
