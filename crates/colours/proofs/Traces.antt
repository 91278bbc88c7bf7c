-- Worked cases of docs/RULES.md, computed. Assumes nothing.
use mathlib.Core.Path.{◌≡◌, refl}
use mathlib.Core.List.{[], ◌∷◌}
use lib.Ieee.{nan, inf, of_bits, of_int, add, sub, mul, div, lt, le, round, to_unsigned}
use mathlib.Core.Bool.{true, false}
use Rattle.float32.specs.Meaning.{clamp_of, round_of}
use Rattle.util.specs.Constants.{half, one, zero}
use Rattle.colours.specs.Colour.{channel_of, colour_of, over_of, byte_of, pack_of}

-- 0.5 packs as 128, a NaN as 0, an infinity as the end that it lies beyond
pub half_packs : byte_of half ≡ 128
unfolding byte_of clamp_of round_of of_bits mul lt le round to_unsigned
half_packs = refl

pub nan_packs : byte_of nan ≡ 0
unfolding byte_of clamp_of round_of of_bits mul lt le round to_unsigned
nan_packs = refl

pub inf_packs : (byte_of (inf false) ≡ 255) × (byte_of (inf true) ≡ 0)
unfolding byte_of clamp_of round_of of_bits mul lt le round to_unsigned
inf_packs = (refl, refl)

-- the colour 0x204060FF over nothing: red is the high byte in the command, the low one in the pixel
pub colour_packs : pack_of (over_of (colour_of 0x2040_60ff) one (zero ∷ zero ∷ zero ∷ zero ∷ [])) ≡ 0xff60_4020
unfolding pack_of byte_of over_of colour_of channel_of clamp_of round_of of_bits of_int add sub mul div lt le round to_unsigned
colour_packs = refl
