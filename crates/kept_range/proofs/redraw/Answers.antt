-- `kept_range::redraw` meets its contract: the range kept, cleared, counted, and given back where a line is refused. Assumes nothing.
use mathlib.Core.Path.{◌≡◌, sym, ap, ◌∙◌, subst₂}
use native.Mathlib.Omega.{arith}
use lib.IntN.{pos}
use Rattle.panel.specs.Paths.{path_at}
use Rattle.panel.specs.declared.kinds.Path.{Path}
use Rattle.panel.proofs.PathLaws.{path_there}
use Rattle.walked_lines.specs.Line.{Lent}
use Rattle.kept_range.specs.Kept.{tiles_in}
use Rattle.new_lines.specs.Recounted.{recounted_told}
use Rattle.kept_range.proofs.KeptLaws.{at_err, at_ok, in_order, in_backs, in_counts, in_kept, redrawn_done, redrawn_refused}
use Rattle.kept_range.proofs.redraw.Goals as goal
use Rattle.kept_range.proofs.redraw.Goals.{After-tiles_in-n}

pub path_at-b-requires : goal.path_at-b-requires
path_at-b-requires c = path_there c.args.paths.now c.args.path
    c.requires.1

pub tiles_in-n-requires : goal.tiles_in-n-requires
tiles_in-n-requires c = rw c.path_at-b.ensures
    (in_order c.args.path
    c.args.paths.now _ _ c.requires.0
    c.requires.1)

-- what the code has of the range
first_is : (c : After-tiles_in-n) → c.path_at-b.result.first ≡ (path_at c.args.paths.now
    c.args.path).first
first_is c = ap (λ (b : Path). b.first) c.path_at-b.ensures

tiles_is : (c : After-tiles_in-n) → c.tiles_in-n.result ≡ tiles_in
    (path_at c.args.paths.now
    c.args.path)
tiles_is c = c.tiles_in-n.ensures ∙ ap tiles_in c.path_at-b.ensures

pub copy-requires : goal.copy-requires
copy-requires c =
    let a = c.args in (
      in_backs a.path a.paths.now _ _ c.requires.0
          c.requires.1 _ _ (first_is (goal.at.copy-requires c).After-tiles_in-n) (tiles_is (goal.at.copy-requires c).After-tiles_in-n),
      in_kept a.path a.paths.now _ _ c.requires.0
          c.requires.1 _ _ (first_is (goal.at.copy-requires c).After-tiles_in-n) (tiles_is (goal.at.copy-requires c).After-tiles_in-n) _
          c.requires.4,
    )

pub copy-requires-2 : goal.copy-requires-2
copy-requires-2 c =
    let a = c.args in (
      in_counts a.path a.paths.now _ _ c.requires.0
          c.requires.1 _ _
          (first_is (goal.at.copy-requires-2 c).After-tiles_in-n) (tiles_is (goal.at.copy-requires-2 c).After-tiles_in-n),
      in_kept a.path a.paths.now _ _ c.requires.0
          c.requires.1 _ _
          (first_is (goal.at.copy-requires-2 c).After-tiles_in-n) (tiles_is (goal.at.copy-requires-2 c).After-tiles_in-n) _
          c.requires.5,
    )

pub clear-requires : goal.clear-requires
clear-requires c =
    let a = c.args in
    in_backs a.path a.paths.now _ _
    c.requires.0
    c.requires.1 _ _
    (first_is (goal.at.clear-requires c).After-tiles_in-n) (tiles_is (goal.at.clear-requires c).After-tiles_in-n)

pub clear-requires-2 : goal.clear-requires-2
clear-requires-2 c =
    let a = c.args in
    in_counts a.path a.paths.now _ _
    c.requires.0 c.requires.1 _ _ (first_is (goal.at.clear-requires-2 c).After-tiles_in-n)
    (tiles_is (goal.at.clear-requires-2 c).After-tiles_in-n)

pub count_lines-r-requires : goal.count_lines-r-requires
count_lines-r-requires c =
    let a = c.args in (
      subst₂ (Lent a.paths.now) (sym c.clear.auto.xs) (sym c.clear-2.auto.xs)
          c.requires.0,
      c.requires.1,
      c.requires.2,
      c.requires.3,
    )

pub copy-requires-then-is_err : goal.copy-requires-then-is_err
copy-requires-then-is_err c =
    let a = c.args in
    let f = first_is (goal.at.copy-requires-then-is_err c).After-tiles_in-n in
    let n = tiles_is (goal.at.copy-requires-then-is_err c).After-tiles_in-n in
    let b = in_backs a.path a.paths.now _ _ c.requires.0 c.requires.1 _ _ f n in (
      in_kept a.path a.paths.now _ _ c.requires.0 c.requires.1 _ _ f n _ (c.copy.auto.to ∙ c.requires.4),
      omega (arith, b, c.clear.auto.xs, c.count_lines-r.auto.backs),
    )

pub copy-requires-then-is_err-2 : goal.copy-requires-then-is_err-2
copy-requires-then-is_err-2 c =
    let a = c.args in
    let f = first_is (goal.at.copy-requires-then-is_err-2 c).After-tiles_in-n in
    let n = tiles_is (goal.at.copy-requires-then-is_err-2 c).After-tiles_in-n in
    let b = in_counts a.path a.paths.now _ _ c.requires.0 c.requires.1 _ _ f n in (
      in_kept a.path a.paths.now _ _ c.requires.0 c.requires.1 _ _ f n _ (c.copy-2.auto.to ∙ c.requires.5),
      omega (arith, b, c.clear-2.auto.xs, c.count_lines-r.auto.counts),
    )

pub returns-then-is_err : goal.returns-then-is_err
returns-then-is_err c =
    let a = c.args in
    let q = at_err c.count_lines-r.result (sym c.is_err.ensures.value ∙ c.if-is_err.true) in
    rw q.1
    (redrawn_refused a.path a.line_nos.now a.path_nos.now a.coords.now a.paths.now a.backdrops.now a.counts.now a.refs.now a.kept_backdrops.now
    a.kept_counts.now _ _
    (first_is (goal.at.returns-then-is_err c).After-tiles_in-n)
    (tiles_is (goal.at.returns-then-is_err c).After-tiles_in-n)
    _ (c.copy.ensures (pos 0)) _
    (c.copy-2.ensures 0) _
    c.clear.ensures _
    c.clear-2.ensures
    (recounted_told c.count_lines-r.result) _ _ _
    c.count_lines-r.ensures _ _ _
    (ap recounted_told q.1) _ (c.copy-then-is_err.ensures (pos 0)) _
    (c.copy-then-is_err-2.ensures 0))

pub returns-else-is_err : goal.returns-else-is_err
returns-else-is_err c =
    let a = c.args in
    let q = at_ok c.count_lines-r.result (sym c.is_err.ensures.value ∙ c.if-is_err.false) in
    redrawn_done a.path a.line_nos.now a.path_nos.now a.coords.now a.paths.now a.backdrops.now a.counts.now a.refs.now a.kept_backdrops.now
    a.kept_counts.now _ _
    (first_is (goal.at.returns-else-is_err c).After-tiles_in-n)
    (tiles_is (goal.at.returns-else-is_err c).After-tiles_in-n)
    _ (c.copy.ensures (pos 0)) _
    (c.copy-2.ensures 0) _
    c.clear.ensures _
    c.clear-2.ensures
    (recounted_told c.count_lines-r.result) _ _ _ c.count_lines-r.ensures _ (ap recounted_told q.1)
