-- `strides::strides_of` meets its contract. Assumes nothing.
use Rattle.std.proofs.Common.{◌≡◌, ℕ, ◌+◌, ◌-◌, ◌^◌, ◌≤◌, Bool, true, false, cond, arith}
use lib.Ieee.{lt}
use Rattle.util.specs.Constants.{zero}
use Rattle.strides.specs.Strides.{strides_of}
use Rattle.strides.proofs.Laws.{twice_can, x0_near, y0_near, col_is, col_few, row_is, row_few, edges_few}
use Rattle.strides.proofs.strides_of.Goals as goal
use Rattle.strides.proofs.strides_of.Goals.{After-floor_bits-col, After-floor_bits-row, After-pick-low}

pub floor_bits-col-requires : goal.floor_bits-col-requires
floor_bits-col-requires c = x0_near c.args.p c.args.b c.requires.0 c.requires.1

pub floor_bits-row-requires : goal.floor_bits-row-requires
floor_bits-row-requires c = y0_near c.args.p c.args.b c.requires.0 c.requires.1

pub overflow_sub-width : goal.overflow_sub-width
overflow_sub-width c = c.requires.0.left

pub overflow_sub-height : goal.overflow_sub-height
overflow_sub-height c = c.requires.0.top

-- the column's bits are near those of 0, and so are the row's
col_bounds : (c : After-floor_bits-col) → (c.floor_bits-col.result ≤ 1262485504 + 2 ^ 21) × (1262485504 ≤ c.floor_bits-col.result + 2 ^ 21)
col_bounds c =
    let f = col_is c.args.p c.args.b c.requires.0 c.requires.1 in
    let g = col_few c.args.p c.args.b c.requires.0 c.requires.1 in
    (omega (arith, c.floor_bits-col.ensures, f, g), omega (arith, c.floor_bits-col.ensures, f, g))

row_bounds : (c : After-floor_bits-row) → 1262485504 ≤ c.floor_bits-row.result + 2 ^ 21
row_bounds c =
    let f = row_is c.args.p c.args.b c.requires.0 c.requires.1 in
    let g = row_few c.args.p c.args.b c.requires.0 c.requires.1 in
    omega (arith, c.floor_bits-row.ensures, f, g)

pub overflow_add-b : goal.overflow_add-b
overflow_add-b c =
    omega (arith, (edges_few c.args.p c.args.b c.requires.0 c.requires.1).0, c.requires.0.left)

pub overflow_sub-b : goal.overflow_sub-b
overflow_sub-b c = omega (arith, (col_bounds (goal.at.overflow_sub-b c).After-floor_bits-col).0)

pub overflow_add-col : goal.overflow_add-col
overflow_add-col c = omega (arith, (col_bounds (goal.at.overflow_add-col c).After-floor_bits-col).0)

pub overflow_sub-col : goal.overflow_sub-col
overflow_sub-col c =
    omega (arith, (col_bounds (goal.at.overflow_sub-col c).After-floor_bits-col).1, (edges_few c.args.p c.args.b c.requires.0 c.requires.1).0)

low_bounds : (c : After-pick-low) → (c.floor_bits-col.result ≤ 1262485504 + 2 ^ 21) × (1262485504 ≤ c.floor_bits-col.result + 2 ^ 21) → (c.pick-low.result ≤ 1262485504 + 2 ^ 23) × (1 ≤ c.pick-low.result)
low_bounds c f =
    let e = (edges_few c.args.p c.args.b c.requires.0 c.requires.1).0 in
    let l = c.requires.0.left in
    go (lt zero c.args.p.sign) c.pick-low.result c.pick-low.ensures f e l
  where
    go : (t : Bool) (r : ℕ) {col left right : ℕ} → r ≡ cond t (1262485504 + 1262485504 + left - col) (col + 1 - right) → (col ≤ 1262485504 + 2 ^ 21) × (1262485504 ≤ col + 2 ^ 21) → right ≤ 2 ^ 20
        → left ≤ right → (r ≤ 1262485504 + 2 ^ 23) × (1 ≤ r)
    go true r e f g h = (omega (arith, e, f.0, f.1), omega (arith, e, f.0))
    go false r e f g h = (omega (arith, e, f.0), omega (arith, e, f.1))

pub overflow_add-low : goal.overflow_add-low
overflow_add-low c =
    omega (arith, (low_bounds (goal.at.overflow_add-low c).After-pick-low (col_bounds (goal.at.overflow_add-low c).After-floor_bits-col)).0, (edges_few c.args.p c.args.b c.requires.0 c.requires.1).0)

pub overflow_sub-low : goal.overflow_sub-low
overflow_sub-low c = omega (arith, (low_bounds (goal.at.overflow_sub-low c).After-pick-low (col_bounds (goal.at.overflow_sub-low c).After-floor_bits-col)).1)

pub overflow_sub-top : goal.overflow_sub-top
overflow_sub-top c =
    omega (arith, row_bounds (goal.at.overflow_sub-top c).After-floor_bits-row, (edges_few c.args.p c.args.b c.requires.0 c.requires.1).1, c.requires.0.top)

pub overflow_add-base : goal.overflow_add-base
overflow_add-base c =
    omega (arith, (edges_few c.args.p c.args.b c.requires.0 c.requires.1).0, c.requires.0.last)

pub float_to_int-twice : goal.float_to_int-twice
float_to_int-twice c =
    twice_can c.args.p c.args.b c.requires.0 c.requires.1

pub returns : goal.returns
unfolding strides_of
returns c = cc
