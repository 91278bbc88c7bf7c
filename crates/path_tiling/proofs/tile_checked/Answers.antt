-- `path_tiling::tile_checked` meets its contract: a length that fails, or the range. Assumes nothing.
use mathlib.Core.Path.{sym, ◌∙◌}
use Rattle.panel.specs.Pieces.{pieces}
use Rattle.path_tiling.proofs.CallLaws.{not_whole_lem, ready, called}
use Rattle.path_tiling.proofs.tile_checked.Goals as goal

pub returns-then-not-whole : goal.returns-then-not-whole
returns-then-not-whole c = rw c.at.ensures (not_whole_lem _ _ _ _ (sym c.whole.ensures ∙ c.if-not-whole.true))

pub tile_range-requires : goal.tile_range-requires
tile_range-requires c =
    ready _ _ _ (pieces c.args.segments.now c.args.tags.now) (sym c.whole.ensures ∙ c.if-not-whole.false) c.requires

pub returns : goal.returns
returns c = c.tile_range.ensures ∙ called _ _ _ _
    (sym c.whole.ensures
    ∙ c.if-not-whole.false)
    c.requires
