-- `ppm_read::is_magic` meets its contract. Assumes nothing.
use mathlib.Core.Path.{◌∙◌}
use Rattle.ppm_read.proofs.Parts.{magic_is}
use Rattle.ppm_read.proofs.is_magic.Goals as goal

pub returns : goal.returns
returns c = c.starts_with.ensures.value ∙ magic_is c.args.file.now
