-- `strides::stride_at` meets its contract. Assumes nothing.
use Rattle.std.proofs.Common.{◌≡◌, ℕ, ◌%◌, ◌+◌, ◌*◌, ◌^◌, ◌<◌, ◌≤◌, refl, arith}
use Rattle.float32.specs.Inner.{Within}
use Rattle.panel.specs.Limits.{most_tiles}
use Rattle.panel.specs.Paths.{width_of, height_of}
use Rattle.exact.proofs.Limits.{far}
use Rattle.walk.specs.Num.{float}
use Rattle.walk.proofs.Counts.{in_float_lem}
use Rattle.strides.specs.Strides.{sum_at}
use Rattle.strides.proofs.Laws.{less, less_back, in_both, Grid, grid, row_few, edges_few, cells, own_few, struck}
use Rattle.strides.proofs.stride_at.Goals as goal
use Rattle.strides.proofs.stride_at.Goals.{Else-x-g, Start}

pub int_to_float-f : goal.int_to_float-f
int_to_float-f c = in_float_lem c.args.i (omega (arith, c.requires.2, far.steps))

-- the line's numbers
the_grid : (s : Start) → Grid s.args.p s.args.b s.requires.0 s.requires.1 s.args.g
the_grid s = grid s.args.p s.args.b s.requires.0 s.requires.1 s.args.g s.requires.3

pub overflow_add-y : goal.overflow_add-y
overflow_add-y c =
    omega (arith, (the_grid (goal.at.overflow_add-y c).Start).top_is, row_few c.args.p c.args.b c.requires.0 c.requires.1, c.requires.2, far.steps)

-- the column and the row, with what was taken off put back
abbrev x_of : Else-x-g → ℕ
x_of c = less c.in_ok-z.z c.args.g.low

abbrev y_of : Else-x-g → ℕ
y_of c = less (c.args.g.top + c.args.i) c.in_ok-z.z

x_back : (c : Else-x-g) → (x_of c + c.args.g.low) % 2 ^ 32 ≡ c.in_ok-z.z
x_back c = less_back _ _ (omega arith) (omega arith)

y_back : (c : Else-x-g) → (y_of c + c.in_ok-z.z) % 2 ^ 32 ≡ c.args.g.top + c.args.i
y_back c =
    let g = grid c.args.p c.args.b c.requires.0 c.requires.1 c.args.g c.requires.3 in
    less_back _ _ (omega (arith, g.top_is, row_few c.args.p c.args.b c.requires.0 c.requires.1, c.requires.2, far.steps)) (omega arith)

-- the column and the row are in the box, so the tile's number is small
inside : (c : Else-x-g) →
    (x_of c < c.args.g.width) × (y_of c < c.args.g.height)
inside c = in_both _ _ _ _ c.if-x-g.false

few : (c : Else-x-g) → Grid c.args.p c.args.b c.requires.0 c.requires.1 c.args.g → Within (sum_at c.args.p (float c.args.i)) → (y_of c * c.args.g.width + x_of c < width_of c.args.b * height_of c.args.b)
    × (c.args.b.first + width_of c.args.b * height_of c.args.b ≤ most_tiles)
few c g n =
    cells c.args.p c.args.b c.requires.0 c.requires.1 c.args.g g c.args.i c.requires.2 n
    _ _ _ c.in_ok-z.ensures.is
    (x_back c) (y_back c) (inside c).0 (inside c).1

pub overflow_mul-t : goal.overflow_mul-t
overflow_mul-t c = let f = few (goal.at.overflow_mul-t c).Else-x-g (the_grid (goal.at.overflow_mul-t c).Start) c.in_ok-z.ensures.near in omega (arith, f.0, f.1)

pub overflow_add-t : goal.overflow_add-t
overflow_add-t c =
    let f = few (goal.at.overflow_add-t c).Else-x-g (the_grid (goal.at.overflow_add-t c).Start) c.in_ok-z.ensures.near in
    omega (arith, f.0, f.1, (the_grid (goal.at.overflow_add-t c).Start).base_is, (edges_few c.args.p c.args.b c.requires.0 c.requires.1).0)

-- and so are the sums that make it
sums : (c : Else-x-g) → Grid c.args.p c.args.b c.requires.0 c.requires.1 c.args.g → Within (sum_at c.args.p (float c.args.i)) → let x = x_of c in
    let y = y_of c in
    (c.args.g.twice * x ≤ 2 * x) × (x + c.args.g.back ≤ c.args.g.base + y * c.args.g.width + c.args.g.twice * x) × (c.args.g.back ≤ 2 ^ 20 + 1)
sums c g n =
    own_few c.args.p c.args.b c.requires.0 c.requires.1 c.args.g g c.args.i c.requires.2 n
    _ _ _ c.in_ok-z.ensures.is
    (x_back c) (y_back c) (inside c).0 (inside c).1

pub overflow_mul-own : goal.overflow_mul-own
overflow_mul-own c =
    let f = few (goal.at.overflow_mul-own c).Else-x-g (the_grid (goal.at.overflow_mul-own c).Start) c.in_ok-z.ensures.near in
    omega (arith, f.0, f.1, (sums (goal.at.overflow_mul-own c).Else-x-g (the_grid (goal.at.overflow_mul-own c).Start) c.in_ok-z.ensures.near).0)

pub overflow_add-own : goal.overflow_add-own
overflow_add-own c =
    let f = few (goal.at.overflow_add-own c).Else-x-g (the_grid (goal.at.overflow_add-own c).Start) c.in_ok-z.ensures.near in
    omega (arith, f.0, f.1, (the_grid (goal.at.overflow_add-own c).Start).base_is, (edges_few c.args.p c.args.b c.requires.0 c.requires.1).0, (sums (goal.at.overflow_add-own c).Else-x-g (the_grid (goal.at.overflow_add-own c).Start) c.in_ok-z.ensures.near).0)

pub overflow_add-own-2 : goal.overflow_add-own-2
overflow_add-own-2 c =
    let f = few (goal.at.overflow_add-own-2 c).Else-x-g (the_grid (goal.at.overflow_add-own-2 c).Start) c.in_ok-z.ensures.near in
    omega (arith, f.0, f.1, (sums (goal.at.overflow_add-own-2 c).Else-x-g (the_grid (goal.at.overflow_add-own-2 c).Start) c.in_ok-z.ensures.near).2)

pub overflow_sub-own : goal.overflow_sub-own
overflow_sub-own c = (sums (goal.at.overflow_sub-own c).Else-x-g (the_grid (goal.at.overflow_sub-own c).Start) c.in_ok-z.ensures.near).1

pub returns : goal.returns
returns c =
    struck c.args.p c.args.b c.requires.0 c.requires.1 c.args.g (the_grid (goal.at.returns c).Start) c.args.i c.requires.2
    c.in_ok-z.ensures.near _ _ _
    c.in_ok-z.ensures.is
    (x_back (goal.at.returns c).Else-x-g) (y_back (goal.at.returns c).Else-x-g)
    (inside (goal.at.returns c).Else-x-g).0 (inside (goal.at.returns c).Else-x-g).1 c.args.last _ _ c.requires.4 refl refl
