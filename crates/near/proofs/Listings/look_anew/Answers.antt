-- `near::Listings::look_anew` meets its contract. Assumes nothing.
use mathlib.Core.Path.{◌∙◌, subst}
use mathlib.Core.List.{List}
use Prim.Native.Nat.{ℕ}
use native.Mathlib.Omega.{arith}
use Rattle.panel.specs.Paths.{path_count}
use Rattle.near.specs.Near.{row_paths, block_paths, wide_columns, narrow_columns, Lists}
use Rattle.near.proofs.NearLaws.{row_there, block_there, lists_there, lists_few, lists_on, lists_narrow}
use Rattle.near.proofs.Listings.look_anew.Goals.{After-block_at}
use Rattle.near.proofs.Listings.look_anew.Goals as goal

pub block_at-requires : goal.block_at-requires
block_at-requires c =
    let a = c.args in
    let ws = a.paths.now in
    let ps = row_paths ws a.y in
    let r : Lists c.row_at.new.self ps = c.row_at.ensures in
    rw c.listed.ensures (
      lists_there (path_count ws) c.row_at.new.self ps r (row_there ws a.y),
      lists_few c.row_at.new.self ps r,
      omega arith,
      omega arith,
      c.requires.1,
      λ h. lists_on ws wide_columns a.x c.row_at.new.self a.self.now.wide ps r (omega (arith, h)) (c.requires.2 (omega (arith, h))).wide,
      c.requires.0,
    )

-- the wide block's list
wide : (c : After-block_at) → Lists c.block_at.new.self (block_paths c.args.paths.now wide_columns c.args.x (row_paths c.args.paths.now c.args.y))
wide c =
    let e = c.listed.ensures ∙ c.row_at.ensures.same in
    subst (λ (l : List ℕ). Lists c.block_at.new.self (block_paths c.args.paths.now wide_columns c.args.x l)) e c.block_at.ensures

pub block_at-requires-2 : goal.block_at-requires-2
block_at-requires-2 c =
    let a = c.args in
    let ws = a.paths.now in
    let ps = row_paths ws a.y in
    let bs = block_paths ws wide_columns a.x ps in
    let w = wide (goal.at.block_at-requires-2 c).After-block_at in
    rw c.listed-2.ensures (
      lists_there (path_count ws) c.block_at.new.self bs w (block_there ws wide_columns a.x ps (row_there ws a.y)),
      lists_few c.block_at.new.self bs w,
      omega arith,
      omega arith,
      c.requires.1,
      λ h. lists_on ws narrow_columns a.x c.block_at.new.self a.self.now.narrow bs w (omega (arith, h))
          (lists_narrow ws a.x a.y a.self.now.narrow h (c.requires.2 (omega (arith, h))).narrow),
      c.requires.0,
    )
