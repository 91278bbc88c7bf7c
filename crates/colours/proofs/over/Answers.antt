-- `colours::over` meets its contract. Assumes nothing.
use mathlib.Core.Path.{ap, ◌∙◌}
use mathlib.Core.List.{List}
use lib.Ieee.{Float}
use Rattle.colours.specs.Layer.{mix_of}
use Rattle.colours.proofs.LayerLaws.{over_mix}
use Rattle.colours.proofs.over.Goals as goal

pub returns : goal.returns
returns c =
    let a = c.args in
    c.mix.ensures ∙ ap (λ (z : List Float). mix_of z a.px) c.share.ensures ∙ over_mix a.fg a.ai a.px
