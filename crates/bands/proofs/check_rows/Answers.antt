-- `bands::check_rows` meets its contract. Assumes nothing.
use Prim.Native.Nat.{ℕ, ◌-◌, ◌*◌, ◌/◌, ◌^◌, ◌≤◌, ◌<◌}
use native.Mathlib.Nat.{mul-le-mul, mul_left_comm}
use native.Mathlib.Omega.{arith}
use borrow.Author.Tests.{eq-eqb, le-leb, lt-leb}
use Rattle.sides.specs.Tile.{tile_height}
use borrow.Author.Rules.{rules}
use Rattle.bands.proofs.check_rows.Goals as goal

product : (a b : ℕ) → a < 2 ^ 32 → b < 2 ^ 32 → a * b < 2 ^ 64
product a b p q = omega (arith, mul-le-mul {n₁ = a} {m₁ = b} {n₂ = 4294967295} {m₂ = 4294967295} (omega arith) (omega arith))

-- 16 times a product, and the pixels by 16
enough : (w r p : ℕ) → w * r ≤ p / tile_height → w * (tile_height * r) ≤ p
enough w r p h = omega (arith, mul_left_comm w tile_height r)

few : (w r p : ℕ) → p / tile_height < w * r → p < w * (tile_height * r)
few w r p h = omega (arith, mul_left_comm w tile_height r)

pub overflow_mul-n : goal.overflow_mul-n
overflow_mul-n c = record { fits = product _ _ (search rules) (search rules) }

pub overflow_mul-width : goal.overflow_mul-width
overflow_mul-width c = record { fits = product _ _ (search rules) (search rules) }

pub returns-then-width-own : goal.returns-then-width-own
returns-then-width-own c =
    rw (
      eq-eqb _ _ c.if-segments-ne0.false,
      le-leb _ _ c.if-first-end.false,
      le-leb _ _
          c.if-end-rows.false,
      le-leb _ _ c.if-n.false,
      le-leb _ _ c.if-cols-width.false,
      lt-leb _ _
          (few c.args.width (c.args.end - c.args.first) c.args.pixels c.if-width-own.true),
    )

pub returns : goal.returns
returns c =
    rw (
      eq-eqb _ _ c.if-segments-ne0.false,
      le-leb _ _ c.if-first-end.false,
      le-leb _ _
          c.if-end-rows.false,
      le-leb _ _ c.if-n.false,
      le-leb _ _ c.if-cols-width.false,
      le-leb _ _
          (enough c.args.width (c.args.end - c.args.first) c.args.pixels c.if-width-own.false),
    )
