-- `panel::checks::check_path` meets its contract: a return for each check of the row.
-- Assumes nothing.
use mathlib.Core.Path.{◌≡◌, sym, ◌∙◌}
use mathlib.Core.Bool.{true, false}
use borrow.Author.Tests.{le-leb, lt-leb}
use Rattle.panel.specs.Paths.{box_fits}
use Rattle.panel.proofs.PathLaws.{box_fits_lem}
use Rattle.panel.proofs.checks.check_path.Goals as goal

pub returns-then-not-box_fits : goal.returns-then-not-box_fits
returns-then-not-box_fits c =
    let box : box_fits c.args.p ≡ false = sym c.box_fits.ensures ∙ c.if-not-box_fits.true in
    rw box

pub returns-then-p-end : goal.returns-then-p-end
returns-then-p-end c =
    let box : box_fits c.args.p ≡ true = sym c.box_fits.ensures ∙ c.if-not-box_fits.false in
    rw (box, lt-leb _ _ c.if-p-end.true)

pub end_of-requires : goal.end_of-requires
end_of-requires c =
    let b = box_fits_lem c.args.p (sym c.box_fits.ensures ∙ c.if-not-box_fits.false) in
    (b.0, b.2)

pub returns-then-end_of-tiles : goal.returns-then-end_of-tiles
returns-then-end_of-tiles c =
    let box : box_fits c.args.p ≡ true =
    sym c.box_fits.ensures ∙ c.if-not-box_fits.false in
    rw (box, le-leb _ _ c.if-p-end.false, ← c.end_of.ensures, lt-leb _ _ c.if-end_of-tiles.true)

pub returns : goal.returns
returns c =
    let box : box_fits c.args.p ≡ true =
    sym c.box_fits.ensures ∙ c.if-not-box_fits.false in
    rw (box, le-leb _ _ c.if-p-end.false, ← c.end_of.ensures, le-leb _ _ c.if-end_of-tiles.false)
