-- `panel::checks::check_each` meets its contract. The loop's invariant: what is left to check from here answers as all of it does.
-- Assumes nothing.
use mathlib.Core.Path.{◌≡◌, sym, ap, ◌∙◌}
use native.Mathlib.Omega.{arith}
use Rattle.std.proofs.Common.{Err}
use Rattle.panel.specs.Paths.{path_at}
use Rattle.panel.specs.Verdict.{verdict_told}
use Rattle.panel.specs.Answer.{answer_told}
use Rattle.panel.proofs.PathLaws.{from_turn, from_no, from_end, path_fine}
use Rattle.panel.proofs.checks.check_each.Goals as goal

pub returns-in-Err : goal.returns-in-Err
returns-in-Err c =
    let a = c.args in
    let l = c.loop-k in
    let at : c.path_at-p.result ≡ path_at a.paths.now l.k = c.path_at-p.ensures in
    ap answer_told (ap Err c.at.ensures) ∙ sym (from_no a.paths.now a.tiles a.n l.k l.end _ (omega arith) (rw at at (sym c.check_path.ensures ∙ ap verdict_told c.in-Err.is))) ∙ l.invariant

pub end_of-end-requires : goal.end_of-end-requires
end_of-end-requires c =
    let f = path_fine c.path_at-p.result c.loop-k.end c.args.tiles (sym c.check_path.ensures ∙ ap verdict_told c.in_default.is) in
    (f.0.across, f.0.down)

pub loop-k-preserved : goal.loop-k-preserved
loop-k-preserved c =
    let a = c.args in
    let l = c.loop-k in
    let at : c.path_at-p.result ≡ path_at a.paths.now l.k = c.path_at-p.ensures in
    let t = from_turn a.paths.now a.tiles a.n l.k l.end (omega arith) (rw at at (sym c.check_path.ensures ∙ ap verdict_told c.in_default.is)) in
    rw (c.end_of-end.ensures, at) (sym t ∙ l.invariant)

pub returns : goal.returns
returns c =
    let a = c.args in
    let l = c.loop-k in
    sym (from_end a.paths.now a.tiles a.n l.k l.end (omega arith)) ∙ l.invariant
