use Rattle.svg_outline.proofs.Draws.{rest_drew, move_room, move_drew, curve_room_at, curve_drew, line_room, line_drew, across_room}
use Rattle.svg_outline.proofs.Draws.{across_drew, upright_room, upright_drew, close_room, close_drew}
use Rattle.svg_outline.proofs.strokes.Hand.draw.Goals as goal

pub move_to-requires : goal.move_to-requires
move_to-requires c =
    let a = c.args in
    move_room a.k a.rel a.drawn a.depth a.self _ c.in-Move.is c.requires

pub line_to-requires : goal.line_to-requires
line_to-requires c =
    let a = c.args in
    line_room a.k a.rel a.drawn a.depth a.self _ c.in-Line.is c.requires

pub line_to-requires-in-Across : goal.line_to-requires-in-Across
line_to-requires-in-Across c =
    let a = c.args in
    across_room a.k a.rel a.drawn a.depth a.self _ c.in-Across.is c.requires

pub line_to-requires-in-Upright : goal.line_to-requires-in-Upright
line_to-requires-in-Upright c =
    let a = c.args in
    upright_room a.k a.rel a.drawn a.depth a.self _ c.in-Upright.is c.requires

pub curve_to-requires : goal.curve_to-requires
curve_to-requires c =
    let a = c.args in
    curve_room_at a.k a.rel a.drawn a.depth a.self _ c.in-Curved.is c.requires

pub line_to-requires-in-Close : goal.line_to-requires-in-Close
line_to-requires-in-Close c =
    let a = c.args in
    close_room a.k a.rel a.drawn a.depth a.self _ c.in-Close.is c.requires

pub returns-in-Rest : goal.returns-in-Rest
returns-in-Rest c =
    let a = c.args in
    rest_drew a.k a.rel a.drawn a.depth a.self _ c.in-Rest.is

pub returns-in-Move : goal.returns-in-Move
returns-in-Move c =
    let a = c.args in
    move_drew a.k a.rel a.drawn a.depth a.self _ _ _ c.in-Move.is c.move_to.ensures

pub returns-in-Line : goal.returns-in-Line
returns-in-Line c =
    let a = c.args in
    line_drew a.k a.rel a.drawn a.depth a.self _ _ _ _ _ c.in-Line.is
    c.place_of.ensures
    c.place_of-in-Line.ensures c.line_to.ensures

pub returns-in-Across : goal.returns-in-Across
returns-in-Across c =
    let a = c.args in
    across_drew a.k a.rel a.drawn a.depth a.self _ _ _ _ c.in-Across.is c.place_of-in-Across.ensures
    c.line_to-in-Across.ensures

pub returns-in-Upright : goal.returns-in-Upright
returns-in-Upright c =
    let a = c.args in
    upright_drew a.k a.rel a.drawn a.depth a.self _ _ _ _ c.in-Upright.is
    c.place_of-in-Upright.ensures
    c.line_to-in-Upright.ensures

pub returns-in-Curved : goal.returns-in-Curved
returns-in-Curved c =
    let a = c.args in
    curve_drew a.k a.rel a.drawn a.depth a.self _ _ _ c.in-Curved.is c.curve_to.ensures

pub returns-in-Close : goal.returns-in-Close
returns-in-Close c =
    let a = c.args in
    close_drew a.k a.rel a.drawn a.depth a.self _ _ _ c.in-Close.is c.line_to-in-Close.ensures
