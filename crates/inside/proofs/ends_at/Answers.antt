-- `inside::ends_at` meets its contract. Assumes nothing.
use Rattle.panel.specs.Lines.{line_at}
use Rattle.inside.proofs.Places.{upper_end, lower_end}
use Rattle.inside.proofs.ends_at.Goals as goal

pub returns : goal.returns
returns c =
    let e = line_at c.args.coords.now c.args.place in (
      rw (c.scale-s0.ensures, c.end_at.ensures, c.line_at-line.ensures) (upper_end e.p0 e.p1),
      rw (c.scale-s1.ensures, c.end_at-2.ensures, c.line_at-line.ensures) (lower_end e.p0 e.p1),
    )
