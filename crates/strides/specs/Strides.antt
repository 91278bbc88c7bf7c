-- A walk's steps in whole numbers: what the functions tell each other. Only proofs lean on this: no promise of a public call does. Definitions only.
use Rattle.std.specs.Prelude.{◌≡◌, ℕ, ◌+◌, ◌-◌, ◌*◌, ◌^◌, ◌≤◌, Bool, true, cond, ◌==◌, from_bits, Float}
use Rattle.std.specs.Float.{binary32}
use Rattle.std.specs.Float.Ieee.{add, mul, neg, lt, eq, to_unsigned}
use Rattle.float32.specs.Inner.{Within}
use Rattle.util.specs.Constants.{zero, one}
use Rattle.panel.specs.Kinds.{tile_no_of}
use Rattle.panel.specs.Paths.{width_of, height_of}
use Rattle.panel.specs.declared.kinds.Path.{Path}
use Rattle.exact.specs.Whole.{floor_z}
use Rattle.whole.specs.Bits.{zero_bits, bits_of}
use Rattle.walk.specs.Num.{float}
use Rattle.walk.specs.Step.{z_at, step_of, last_z_word, cross_of}
use Rattle.walk.specs.declared.kinds.Pace.{Pace}
use Rattle.walk.specs.Stepped.{Tile}
use Rattle.strides.specs.Words.{word_tile, word_marks}
use Rattle.strides.specs.declared.Strides.{Strides}
use Rattle.strides.specs.Stride.{Stride}
use Rattle.strides.specs.Stride.{At, Other}
use Rattle.strides.specs.declared.Laid.{Laid}
use Rattle.strides.specs.Last.{Last}
use Rattle.strides.specs.Last.{Z, Other as NoLast}

-- a f + b, whose floor is z
abbrev pub sum_at : Pace → Float → Float
sum_at p f = add binary32 (mul binary32 p.a f) p.b

-- its floor's bits
abbrev pub bits_at : Pace → Float → ℕ
bits_at p f = bits_of (floor_z (sum_at p f))

-- v's floor's bits, of a v below 2 ^ 22 in size
pub record Bits (v : Float) (z : ℕ) : Type 0 where
  pub near : Within v
  pub is : z ≡ bits_of (floor_z v)

abbrev pub BitsMet : Float → Last → Type 0
BitsMet v (Z z) = Bits v z
BitsMet v NoLast = Unit {0}

-- where z is 0 at the left edge of the box, or at its right edge where x falls
abbrev pub low_of : Bool → (col : ℕ) → Path → ℕ
low_of rises col b = cond rises (zero_bits + zero_bits + b.x0 - col) (col + 1 - b.x1)

unfoldable pub strides_of : Pace → Path → Strides
strides_of p b =
    let rises = lt zero p.sign in
    let low = low_of rises (bits_of (floor_z p.x0)) b in
    record {
      twice = to_unsigned 32 (add binary32 p.sign one);
      back = cond rises (width_of b) 1;
      low = low;
      edge = cond rises (low + width_of b - 1) low;
      top = bits_of (floor_z p.y0) - b.y0;
      base = b.first + width_of b;
      width = width_of b;
      height = height_of b;
    }

-- whether step i crosses its tile's top edge
abbrev pub on_top : Pace → ℕ → Bool
on_top p i = cond (i == 0) p.on_top (eq (last_z_word p i) (z_at p.a p.b (float i)))

-- z of step i, where it is near, is `last` just where the top edge is crossed
pub record Before (p : Pace) (i last : ℕ) : Type 0 where
  pub same : Within (sum_at p (float i)) → (bits_at p (float i) == last) ≡ on_top p i

abbrev pub LastMet : Pace → ℕ → Last → Type 0
LastMet p i (Z last) = Before p i last
LastMet p i NoLast = Unit {0}

-- step i is on tile t, and this is whether it marks; z is what the next step's is held against
pub record Struck (p : Pace) (b : Path) (i t : ℕ) (marks : Bool) (z : ℕ) : Type 0 where
  pub x : ℕ
  pub y : ℕ
  pub falls : step_of p b i ≡ Tile (tile_no_of t) x y (z_at p.a p.b (float i))
  pub crosses : marks ≡ cross_of p.on_top b.x1 i (last_z_word p i) x (z_at p.a p.b (float i))
  pub next : Before p (i + 1) z

abbrev pub StrideMet : Pace → Path → ℕ → Stride → Type 0
StrideMet p b i (At t marks z) = Struck p b i t marks z
StrideMet p b i Other = Unit {0}

-- 3 * 2 ^ 20: no z in a box is so far from 0
abbrev pub far_off : Float
far_off = from_bits binary32 0x4a40_0000

-- v, or what no z in a box is where v is further from 0, or no number
unfoldable pub held_of : Float → Float
held_of v =
    let u = cond (lt v far_off) v far_off in
    cond (lt (neg far_off) u) u (neg far_off)

-- the tile in a column and a row of the box
abbrev pub own_at : Strides → (col row : ℕ) → ℕ
own_at g col row = g.base - g.back + row * g.width + cond (g.twice == 2) col 0 - cond (g.twice == 2) 0 col

-- no sum there is below 0, or large
pub record Room (g : Strides) (col row : ℕ) : Type 0 where
  pub backward : g.back ≤ g.base
  pub base_few : g.base ≤ 2 ^ 21
  pub rows_few : row * g.width ≤ 2 ^ 20
  pub right_few : cond (g.twice == 2) col 0 ≤ 2 ^ 20
  pub left_in : cond (g.twice == 2) 0 col ≤ g.base - g.back + row * g.width + cond (g.twice == 2) col 0

-- where step i is told to be good, it is on the tile of its word, and marks as its word says
abbrev pub LaidMet : Pace → Path → (i last : ℕ) → Laid → Type 0
LaidMet p b i last r = r.good ≡ true → Before p i last → Struck p b i (word_tile r.word) (word_marks r.word) r.z
