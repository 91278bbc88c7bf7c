-- The promises of the public calls that these theorems are about, each by its name: the equation that its contract cites, of its answer and of all that
-- was lent as it is afterwards. It stands once, in its own crate's specs, and nothing is said of it here. The list writer's `ListsMet` and the picture's
-- `WriteMet` and `ReadMet` stand likewise in theirs.
pub use Rattle.path_count.specs.Count.{CountMet}
pub use Rattle.backdrop.specs.Backdrop.{BackdropMet}
pub use Rattle.hand_out.specs.HandOut.{HandMet}
pub use Rattle.path_tiling.specs.Tiling.{TileMet}
pub use Rattle.frame.specs.Frame.{FrameMet}
pub use Rattle.coverage.specs.Fill.{FillMet}
pub use Rattle.fine.specs.Fine.{FineMet}
