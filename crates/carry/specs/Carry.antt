-- A step's z with those of the steps before and after it, as tiling carries them from step to step. Only proofs lean on this: no promise of a
-- public call does. Definitions only.
use Rattle.std.specs.Prelude.{ℕ, ◌≤◌, ◌<◌, ◌≡◌}
use Rattle.std.specs.Float.{binary32}
use Rattle.std.specs.Float.Ieee.{add}
use Rattle.util.specs.Constants.{zero, one}
use Rattle.panel.specs.Widths.{step_range}
use Rattle.walk.specs.Num.{float}
use Rattle.walk.specs.Step.{z_at, last_z_word}
use Rattle.walk.specs.declared.kinds.Pace.{Pace}
use Rattle.carry.specs.declared.Zs.{Zs}

-- those of step i
abbrev pub zs_of : Pace → ℕ → Zs
zs_of p i =
    record { at = i; before = last_z_word p i; z = z_at p.a p.b (float i); after = z_at p.a p.b (add binary32 (float i) one) }

-- those of no step
abbrev pub no_zs : Zs
no_zs = record { at = step_range; before = zero; z = zero; after = zero }

-- what is carried: those of a step of this line, or of none
pub record Carried (p : Pace) (s : Zs) : Type 0 where
  pub most : s.at ≤ step_range
  pub own : s.at < step_range → s ≡ zs_of p s.at
