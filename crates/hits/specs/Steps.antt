-- Where the steps of a walk fall. Definitions only.
use Rattle.std.specs.Prelude.{ℕ}
use Rattle.panel.specs.declared.kinds.Path.{Path}
use Rattle.walk.specs.Step.{step_of, last_z_word, cross_of}
use Rattle.walk.specs.declared.kinds.Pace.{Pace}
use Rattle.walk.specs.Stepped.{Step}
use Rattle.walk.specs.Stepped.{Tile, Refused}
use Rattle.acts.specs.Acts.{Hit, on, off}

-- a step is on its tile, and marks the one right of it where its top edge is crossed; or it is outside
abbrev pub hit_of : Pace → Path → ℕ → Step → Hit
hit_of w b i (Tile t x y z) = on t.0 (cross_of w.on_top b.x1 i (last_z_word w i) x z)
hit_of w b i Refused = off

unfoldable pub hit_at : Pace → Path → ℕ → Hit
hit_at w b i = hit_of w b i (step_of w b i)
