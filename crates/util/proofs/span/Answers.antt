-- `util::span` meets its contract. Assumes nothing.
use Rattle.util.specs.Span.{span_of}
use Rattle.util.proofs.span.Goals as goal

pub returns : goal.returns
unfolding span_of
returns c = cc
