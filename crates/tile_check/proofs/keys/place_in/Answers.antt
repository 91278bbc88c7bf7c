-- `tile_check::keys::place_in` meets its contract.
-- Assumes nothing.
use mathlib.Core.Path.{ap, ◌∙◌}
use native.Mathlib.Omega.{arith}
use Rattle.panel.specs.Refs.{slice_no}
use Rattle.tile_check.proofs.PlaceLaws.{line_there, step_small, slice_small, place_met}
use Rattle.tile_check.proofs.keys.place_in.Goals as goal

pub bounds-work-starts : goal.bounds-work-starts
bounds-work-starts c = omega (
  arith,
  line_there c.args.path_nos.now c.args.coords.now c.args.paths.now c.args.tiles c.args.made c.args.work.now c.args.refs.now c.args.j c.args.found c.requires.3 _ _ c.in_ok-before.was c.if-t-tiles.false c.slice_of-slice.result (c.slice_of-slice.ensures ∙ ap slice_no c.packed_at.ensures) c.requires.0 c.if-slice-work.false c.named_at-line.result c.named_at-line.ensures,
  c.requires.1,
)

pub overflow_add-result : goal.overflow_add-result
overflow_add-result c = omega (
  arith,
  step_small c.args.path_nos.now c.args.coords.now c.args.paths.now c.args.tiles c.args.made c.args.work.now c.args.refs.now c.args.j
      c.args.found c.requires.3 _ _ c.in_ok-before.was c.if-t-tiles.false c.slice_of-slice.result (c.slice_of-slice.ensures ∙ ap slice_no c.packed_at.ensures) c.requires.0 c.if-slice-work.false
      c.named_at-line.result c.named_at-line.ensures,
)

pub overflow_add-result-2 : goal.overflow_add-result-2
overflow_add-result-2 c = omega (
  arith,
  slice_small c.args.path_nos.now c.args.coords.now c.args.paths.now c.args.tiles c.args.made c.args.work.now c.args.refs.now c.args.j
      c.args.found c.requires.3 _ _ c.in_ok-before.was c.if-t-tiles.false c.slice_of-slice.result (c.slice_of-slice.ensures ∙ ap slice_no c.packed_at.ensures) c.requires.0 c.if-slice-work.false
      c.named_at-line.result c.named_at-line.ensures,
)

pub returns : goal.returns
returns c = place_met c.args.path_nos.now c.args.coords.now c.args.paths.now c.args.tiles c.args.made c.args.work.now c.args.refs.now c.args.j c.args.found c.requires.3 _ _ c.in_ok-before.was c.if-t-tiles.false c.slice_of-slice.result (c.slice_of-slice.ensures ∙ ap slice_no c.packed_at.ensures) c.requires.0 c.if-slice-work.false c.named_at-line.result c.named_at-line.ensures
