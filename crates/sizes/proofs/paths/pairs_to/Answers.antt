-- `sizes::paths::pairs_to` meets its contract. The loop's invariant: the pairs so far are those of the paths so far.
-- Assumes nothing.
use mathlib.Core.Path.{◌≡◌, sym, ap, ap₂, ◌∙◌}
use Prim.Native.Nat.{ℕ, suc, ◌+◌, ◌≤◌}
use native.Mathlib.Numerals.{add-one}
use native.Mathlib.Omega.{arith}
use Rattle.panel.specs.Limits.{most_tiles}
use Rattle.panel.specs.declared.kinds.Path.{Path}
use Rattle.panel.proofs.PathLaws.{checked}
use Rattle.sizes.specs.Words.{screen_pairs, pairs_to}
use Rattle.sizes.proofs.WordLaws.{pairs_none, pairs_suc, pairs_most}
use Rattle.sizes.proofs.paths.pairs_to.Goals as goal
use Rattle.sizes.proofs.paths.pairs_to.Goals.{After-screen_pairs-pairs}

pub loop-k-init : goal.loop-k-init
loop-k-init c = sym (pairs_none c.args.paths.now c.args.cols c.args.rows)

-- with one path more
sum : (c : After-screen_pairs-pairs)
    → c.loop-k.pairs + c.screen_pairs-pairs.result ≡ pairs_to c.args.paths.now
    c.args.cols c.args.rows (suc c.loop-k.k)
sum c =
    let a = c.args in
    let l = c.loop-k in
    ap₂ (λ (a b : ℕ). a + b) l.invariant
    (c.screen_pairs-pairs.ensures ∙ ap (λ (p : Path). screen_pairs p a.cols a.rows) c.path_at-p.ensures)
    ∙ sym (pairs_suc a.paths.now a.cols a.rows l.k)

few : (c : After-screen_pairs-pairs) → pairs_to c.args.paths.now
    c.args.cols c.args.rows (suc c.loop-k.k) ≤ most_tiles
few c =
    let a = c.args in
    pairs_most a.paths.now a.cols a.rows most_tiles (checked a.paths.now most_tiles c.requires.0) (suc
    c.loop-k.k)
    (omega (arith, c.loop-k-test.true, c.requires.1))

pub overflow_add-pairs : goal.overflow_add-pairs
overflow_add-pairs c = record { fits = rw (sum c) (omega (arith, few c)) }

pub loop-k-preserved : goal.loop-k-preserved
loop-k-preserved c =
    let a = c.args in
    sum c ∙ ap (pairs_to a.paths.now a.cols a.rows) (sym (add-one c.loop-k.k))
