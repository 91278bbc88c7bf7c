-- Two whole numbers by their bits, held against the edges of a box by differences that wrap. Assumes nothing.
use Rattle.std.proofs.Common.{◌≡◌, ℕ, ◌+◌, ◌-◌, ◌%◌, ◌^◌, ◌<◌, ◌≤◌, Bool, true, false, ◌||◌, leb, refl, true≢false, arith, leb-false}
use lib.Dec.{T}
use lib.Ieee.{Float, binary32, fits, to_bits}
use Rattle.float32.proofs.Fields.{pattern_lt}
use Rattle.panel.specs.Paths.{width_of, height_of}
use Rattle.panel.specs.declared.kinds.Path.{Path}
use Rattle.panel.proofs.LimitLaws.{small}
use Rattle.whole.specs.Bits.{zero_bits}
use Rattle.walk.specs.Step.{Boxed}
use Rattle.spot.specs.Tests.{At}

neither : (a b : Bool) → (a || b) ≡ false → (a ≡ false) × (b ≡ false)
neither true b e = absurd (true≢false e)
neither false b e = (refl, e)

pub record Side (bits n low high : ℕ) : Type 0 where
  pub least : low ≤ n
  pub most : n < high
  pub is : bits ≡ zero_bits + n

-- a subtraction that wraps
abbrev pub less : ℕ → ℕ → ℕ
less a b = (a + (2 ^ 32 - b)) % 2 ^ 32

-- n is the bits, less those of the shift, and d is n, less the low edge; both wrap
side : (bits n d low high : ℕ) → (n + zero_bits) % 2 ^ 32 ≡ bits → (d + low) % 2 ^ 32 ≡ n → d < high - low → high ≤ 2 ^ 12 → Side bits n low high
side bits n d low high e g l h =
    let i : n ≡ d + low = omega arith in
    record { least = omega arith; most = omega arith; is = omega arith }

pub at_box : (tx ty : Float) (b : Path) → Boxed b → (col row x y : ℕ)
    → (col + zero_bits) % 2 ^ 32 ≡ to_bits binary32 tx → (row + zero_bits) % 2 ^ 32 ≡ to_bits binary32 ty → (x + b.x0) % 2 ^ 32 ≡ col → (y + b.y0) % 2 ^ 32 ≡ row
    → (leb (width_of b) x || leb (height_of b) y) ≡ false → At tx ty b col row
at_box tx ty b k col row x y e f g h n =
    let c = neither (leb (width_of b) x) (leb (height_of b) y) n in
    let i = side (to_bits binary32 tx) col x b.x0 b.x1 e g (leb-false (width_of b) x c.0) (omega (arith, k.wide, small.edge)) in
    let j = side (to_bits binary32 ty) row y b.y0 b.y1 f h (leb-false (height_of b) y c.1) (omega (arith, k.high, small.edge)) in
    record { within = record { col_least = i.least; col_most = i.most; row_least = j.least; row_most = j.most }; column = i.is; row = j.is }

-- the same where code subtracts: what is tried is n, less the low edge
side_less : (bits n low high : ℕ) → n ≡ less bits zero_bits → bits < 2 ^ 32 → less n low < high - low → high ≤ 2 ^ 12 → Side bits n low high
side_less bits n low high e f l h =
    let i : n ≡ less n low + low = omega arith in
    record { least = omega arith; most = omega arith; is = omega arith }

pub at_less : (tx ty : Float) (b : Path) → Boxed b → T (fits binary32 tx) → T (fits binary32 ty) → (col row : ℕ)
    → col ≡ less (to_bits binary32 tx) zero_bits → row ≡ less (to_bits binary32 ty) zero_bits
    → (leb (width_of b) (less col b.x0) || leb (height_of b) (less row b.y0)) ≡ false → At tx ty b col row
at_less tx ty b k f g col row e h n =
    let c = neither (leb (width_of b) (less col b.x0)) (leb (height_of b) (less row b.y0)) n in
    let i = side_less (to_bits binary32 tx) col b.x0 b.x1 e (pattern_lt tx f) (leb-false (width_of b) (less col b.x0) c.0) (omega (arith, k.wide, small.edge)) in
    let j = side_less (to_bits binary32 ty) row b.y0 b.y1 h (pattern_lt ty g) (leb-false (height_of b) (less row b.y0) c.1) (omega (arith, k.high, small.edge)) in
    record { within = record { col_least = i.least; col_most = i.most; row_least = j.least; row_most = j.most }; column = i.is; row = j.is }
