-- `backdrop::rows::path_fits` meets its contract: where all its backdrops are calm, by the law; else row by row.
-- Assumes nothing.
use mathlib.Core.Path.{◌≡◌, sym, ◌∙◌}
use Prim.Native.Nat.{◌+◌, ◌-◌, ◌*◌}
use native.Mathlib.Omega.{arith}
use Rattle.panel.specs.Paths.{width_of, height_of}
use Rattle.backdrop.proofs.CalmLaws.{calm_path}
use Rattle.backdrop.proofs.rows.path_fits.Goals as goal

pub returns-then-calm : goal.returns-then-calm
returns-then-calm c =
    let p = c.args.p in
    let size : p.first + width_of p * height_of p - p.first ≡ width_of p * height_of p = omega arith in
    sym (calm_path p c.args.backdrops.now (omega arith) (rw size at (sym c.calm.ensures ∙ c.if-calm.true)))
