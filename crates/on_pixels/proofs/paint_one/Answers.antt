-- `on_pixels::paint_one` meets its contract: COLOR, and any other command. Assumes nothing.
use Rattle.on_pixels.proofs.OneLaws.{paint_color, paint_other}
use Rattle.on_pixels.proofs.paint_one.Goals as goal

pub returns-in-Color : goal.returns-in-Color
returns-in-Color c = paint_color c.args.act _ c.args.a c.args.px.now _ _ c.in-Color.is c.colour.ensures c.over.ensures

pub returns-in_default : goal.returns-in_default
returns-in_default c = paint_other c.args.act c.args.a c.args.px.now c.in_default.not-Color
