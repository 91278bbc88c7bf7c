-- `end_tiles::check_lines` meets its contract. The loop's invariant: what is left to check from here answers as all of it does.
-- Assumes nothing.
use mathlib.Core.Path.{◌≡◌, sym, ◌∙◌}
use Prim.Native.Nat.{ℕ, ◌-◌}
use native.Mathlib.Omega.{arith}
use lib.ListN.{length, get_or}
use Rattle.panel.specs.Lines.{line_at}
use Rattle.panel.specs.Answer.{Answer}
use Rattle.panel.specs.declared.lines.LineEnds.{LineEnds}
use Rattle.std.proofs.lemmas.Result.{err_from_is_err_and}
use Rattle.end_tiles.specs.Lines.{line_answer}
use Rattle.end_tiles.proofs.LineLaws.{line_ok, lines_turn, lines_no, lines_end}
use Rattle.end_tiles.proofs.check_lines.Goals as goal
use Rattle.end_tiles.proofs.check_lines.Goals.{Start}

pub loop-l-init : goal.loop-l-init
loop-l-init c =
    let all : length c.args.path_nos.now - 0 ≡ length c.args.path_nos.now = omega arith in
    (omega arith, rw all)

-- what a check of a line read says of the line lent
lent : (s : Start) (l : ℕ) (e : LineEnds) → e ≡ line_at s.args.coords.now l → (v : Answer) → v ≡ line_answer e (get_or s.args.path_nos.now l 0) s.args.n l
    → line_answer (line_at s.args.coords.now l) (get_or s.args.path_nos.now l 0) s.args.n l ≡ v
lent s l e r v q = sym (rw r at q)

pub returns-in_err-check_line : goal.returns-in_err-check_line
returns-in_err-check_line c =
    let s = c.args in
    let l = c.loop-l in
    let r = err_from_is_err_and c.from_residual.result c.from_residual.ensures.1 in
    let e = lent (goal.at.returns-in_err-check_line c).Start l.l _ c.line_at.ensures _ c.in_err-check_line.ensures in
    rw (r.1, r.2) (sym (lines_no s.path_nos.now s.coords.now s.n (length s.path_nos.now) l.l _ _ c.loop-l-test.true e) ∙ l.invariant.1)

pub loop-l-preserved : goal.loop-l-preserved
loop-l-preserved c =
    let s = c.args in
    let l = c.loop-l in
    let q = lent (goal.at.loop-l-preserved c).Start l.l _ c.line_at.ensures _ c.in_ok-check_line.ensures in
    let ok = line_ok (line_at s.coords.now l.l) (get_or s.path_nos.now l.l 0) s.n l.l q in
    (omega (arith, ok.numbered), sym (lines_turn s.path_nos.now s.coords.now s.n (length s.path_nos.now) l.l c.loop-l-test.true q) ∙ l.invariant.1)

pub returns : goal.returns
returns c =
    let s = c.args in
    let l = c.loop-l in
    sym (lines_end s.path_nos.now s.coords.now s.n (length s.path_nos.now) l.l c.loop-l-test.false) ∙ l.invariant.1
