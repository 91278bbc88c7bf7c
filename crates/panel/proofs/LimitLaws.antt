-- How far the limits stay under what the stages' numbers can hold: a float holds whole numbers up to 2^24, a word numbers below 2^32. Proofs cite
-- this, never a limit's digits; a limit that is raised is raised within these. Assumes nothing.
use mathlib.Core.Path.{◌≡◌, refl}
use Prim.Native.Nat.{ℕ, ◌+◌, ◌*◌, ◌/◌, ◌%◌, ◌≤◌, ◌<◌, ◌^◌}
use native.Mathlib.Nat.{le_trans, mul-le-mul}
use native.Mathlib.Omega.{arith}
use lib.Ieee.{binary32, of_bits, of_int, round}
use lib.IntN.{pos}
use Rattle.panel.specs.Limits.{most_paths, most_tiles, edge_most, most_lines, most_steps, most_count, most_slots, most_commands, coord_whole, coord_most}
use Rattle.panel.specs.Widths.{path_words, line_floats, ref_words, step_range, segment_floats}

pub record Small : Type 0 where
  pub paths : most_paths ≤ 2 ^ 16
  pub tiles : most_tiles ≤ 2 ^ 24
  pub edge : edge_most ≤ 2 ^ 12
  pub lines : most_lines ≤ 2 ^ 16
  pub steps : most_steps ≤ 2 ^ 16
  pub count : most_count ≤ 2 ^ 16
  pub slots : most_slots ≤ 2 ^ 24
  pub commands : most_commands ≤ 2 ^ 16
  pub coord : coord_whole ≤ 2 ^ 16
  pub path_wide : path_words ≤ 2 ^ 3
  pub line_wide : line_floats ≤ 2 ^ 3
  pub ref_wide : ref_words ≤ 2 ^ 3
  pub segment_wide : segment_floats ≤ 2 ^ 3

pub small : Small
unfolding edge_most most_steps coord_whole
small =
    record {
      paths = omega arith;
      tiles = omega arith;
      edge = omega arith;
      lines = omega arith;
      steps = omega arith;
      count = omega arith;
      slots = omega arith;
      commands = omega arith;
      coord = omega arith;
      path_wide = omega arith;
      line_wide = omega arith;
      ref_wide = omega arith;
      segment_wide = omega arith;
    }

-- a reference's second word: a step number that counting allows is one that it can tell apart, and slice and step together fit a word
pub record Packs : Type 0 where
  pub steps : most_steps ≤ step_range
  pub float : step_range ≤ 2 ^ 16
  pub word : most_count * step_range ≤ 2 ^ 32

pub packs : Packs
unfolding most_steps step_range
packs = record { steps = omega arith; float = omega arith; word = omega arith }

-- what is read back of any word, and of one that was packed
pub step_read : (p : ℕ) → p % step_range < step_range
unfolding step_range
step_read p = omega arith

pub slice_read : (p : ℕ) → p < 2 ^ 32 → p / step_range < 2 ^ 31
unfolding step_range
slice_read p h = omega arith

pub step_back : (slice i : ℕ) → i < most_steps → (slice * step_range + i) % step_range ≡ i
unfolding most_steps step_range
step_back slice i h = omega arith

pub slice_back : (slice i : ℕ) → i < most_steps → (slice * step_range + i) / step_range ≡ slice
unfolding most_steps step_range
slice_back slice i h = omega arith

-- a box's tiles are no more than a float counts exactly
pub box_small : (w h : ℕ) → w ≤ edge_most → h ≤ edge_most → w * h ≤ 2 ^ 24
box_small w h p q = omega (arith, mul-le-mul {n₁ = w} {m₁ = h} {n₂ = 2 ^ 12} {m₂ = 2 ^ 12} (le_trans p small.edge) (le_trans q small.edge))

-- words of so many records are numbered within a word: any number of records up to 2^24, any width up to 2^3
pub record_small : (n w : ℕ) → n ≤ 2 ^ 24 → w ≤ 2 ^ 3 → n * w < 2 ^ 32
record_small n w p q = omega (arith, mul-le-mul {n₁ = n} {m₁ = w} {n₂ = 2 ^ 24} {m₂ = 2 ^ 3} p q)

-- the coordinate's limit is the same number twice
pub coord_whole_lem : coord_most ≡ of_int binary32 (pos coord_whole)
unfolding coord_most coord_whole of_bits of_int round
coord_whole_lem = refl
