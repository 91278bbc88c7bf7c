-- `boxes::checks::check_lent` meets its contract: a return for each check of the row.
-- Assumes nothing.
use mathlib.Core.Path.{sym}
use Prim.Native.Nat.{◌*◌}
use native.Mathlib.Omega.{arith}
use Rattle.panel.proofs.CheckLaws.{fails_at, none_fails}
use Rattle.path_reach.specs.Room.{box_words}
use Rattle.boxes.specs.Boxes.{lent_checks}
use borrow.Author.Tests.{eq-eqb, ne_eqb, le-leb, lt-leb}
use Rattle.boxes.proofs.checks.check_lent.Goals as goal

pub returns-then-nc-ne0 : goal.returns-then-nc-ne0
returns-then-nc-ne0 c =
    let a = c.args in
    sym (fails_at 0 (lent_checks a.nn a.nc a.np a.nb a.nw) (ne_eqb _ _ c.if-nc-ne0.true))

pub returns-then-nn-nc : goal.returns-then-nn-nc
returns-then-nn-nc c =
    let a = c.args in
    sym (fails_at 1 (lent_checks a.nn a.nc a.np a.nb a.nw) (eq-eqb _ _ c.if-nc-ne0.false, ne_eqb _ _ c.if-nn-nc.true))

pub returns-then-np-ne0 : goal.returns-then-np-ne0
returns-then-np-ne0 c =
    let a = c.args in
    sym (fails_at 2 (lent_checks a.nn a.nc a.np a.nb a.nw) (eq-eqb _ _ c.if-nc-ne0.false, (eq-eqb _ _ c.if-nn-nc.false, ne_eqb _ _ c.if-np-ne0.true)))

pub returns-then-nb-np : goal.returns-then-nb-np
returns-then-nb-np c =
    let a = c.args in
    sym (fails_at 3 (lent_checks a.nn a.nc a.np a.nb a.nw)
    (eq-eqb _ _ c.if-nc-ne0.false, (eq-eqb _ _ c.if-nn-nc.false, (eq-eqb _ _ c.if-np-ne0.false, ne_eqb _ _ c.if-nb-np.true))))

pub returns-then-nb : goal.returns-then-nb
returns-then-nb c =
    let a = c.args in
    sym (fails_at 4 (lent_checks a.nn a.nc a.np a.nb a.nw) (
      eq-eqb _ _ c.if-nc-ne0.false,
      (
        eq-eqb _ _ c.if-nn-nc.false,
        (
          eq-eqb _ _ c.if-np-ne0.false,
          (
            eq-eqb _ _ c.if-nb-np.false,
            lt-leb _ _ c.if-nb.true,
          ),
        ),
      ),
    ))

pub returns-then-nw-nb : goal.returns-then-nw-nb
returns-then-nw-nb c =
    let a = c.args in
    sym (fails_at 5 (lent_checks a.nn a.nc a.np a.nb a.nw) (
      eq-eqb _ _ c.if-nc-ne0.false,
      (
        eq-eqb _ _ c.if-nn-nc.false,
        (
          eq-eqb _ _ c.if-np-ne0.false,
          (
            eq-eqb _ _ c.if-nb-np.false,
            (
              le-leb _ _ c.if-nb.false,
              lt-leb (a.nb * box_words) a.nw (omega (arith, c.if-nw-nb.true)),
            ),
          ),
        ),
      ),
    ))

pub returns : goal.returns
returns c =
    let a = c.args in
    sym (none_fails (lent_checks a.nn a.nc a.np a.nb a.nw) (
      eq-eqb _ _ c.if-nc-ne0.false,
      (
        eq-eqb _ _ c.if-nn-nc.false,
        (
          eq-eqb _ _ c.if-np-ne0.false,
          (
            eq-eqb _ _ c.if-nb-np.false,
            (
              le-leb _ _ c.if-nb.false,
              (le-leb (a.nb * box_words) a.nw (omega (arith, c.if-nw-nb.false)), tt),
            ),
          ),
        ),
      ),
    ))
