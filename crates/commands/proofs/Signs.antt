-- No area has a minus sign where all are the same and one has none. Assumes nothing.
use mathlib.Core.Path.{◌≡◌, refl, sym, subst}
use mathlib.Core.Bool.{false}
use mathlib.Core.List.{List}
use Prim.Native.Nat.{ℕ, zero, suc}
use lib.ListN.{replicate}
use lib.Ieee.{Float}
use Rattle.float32.specs.Meaning.{sign_of}
use Rattle.sides.specs.Tile.{tile_size}
use Rattle.colours.specs.Layer.{NoMinus}
use Rattle.commands.specs.Alike.{same_area}

-- ---- before the first
copies : (n : ℕ) (a : Float) → sign_of a ≡ false → NoMinus (replicate n a)
unfolding sign_of
copies zero a h k = refl
copies (suc n) a h zero = h
copies (suc n) a h (suc k) = copies n a h k

pub all_alike : (a : Float) (area : List Float) → area ≡ same_area a → sign_of a ≡ false → NoMinus area
unfolding same_area
all_alike a area e h = subst NoMinus (sym e) (copies tile_size a h)
