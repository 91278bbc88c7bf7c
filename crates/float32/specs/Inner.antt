-- What the functions ask for that are for some floats only, and what the inner functions of the conversion from whole numbers give. No promise to a
-- caller of the exports names it. Definitions only.
use Rattle.std.specs.Prelude.{ℕ, ◌-◌, ◌≡◌, Bool, true, false, pos, Float}
use Rattle.std.specs.Float.{fin}
use Rattle.std.specs.Float.Ieee.{lt, size}

-- how many of n's lowest binary digits a significand of 24 digits has no room for
abbrev pub lost_of : ℕ → ℕ
lost_of n = size n - 24

-- 2 ^ 22, and that turned; x lies between them
abbrev pub limit : Bool → Float
limit s = fin s 1 (pos 22)

pub record Within (x : Float) : Type 0 where
  pub below : lt x (limit false) ≡ true
  pub above : lt (limit true) x ≡ true
