-- Worked cases of docs/RULES.md, computed. Assumes nothing.
use mathlib.Core.Path.{◌≡◌, refl}
use mathlib.Core.List.{List, [], ◌∷◌, ◌++◌}
use Prim.Native.Nat.{ℕ}
use lib.Ieee.{of_bits, of_int, add, sub, mul, div, lt, le, round, to_unsigned}
use Rattle.float32.specs.Meaning.{clamp_of, round_of}
use Rattle.panel.specs.Verdict.{Fine, Against}
use Rattle.panel.specs.Refusals.{past_end, unknown}
use Rattle.colours.specs.Colour.{channel_of, colour_of, over_of, byte_of, pack_of}
use Rattle.commands.specs.Numbers.{color_no, end_no, encode}
use Rattle.commands.specs.Moves.{op_of, move_of, whole_move, trace_of}
use Rattle.commands.specs.Pixel.{cover, paint, point_of}
use Rattle.commands.specs.declared.steps.Act.TheVariants.{Solid, Color}
use Rattle.screen_tile.specs.Tile.{tile_trace, ends_at, colour_at}

-- SOLID, then COLOR 0x204060FF, in tile 0's region
unfoldable pub solid_list : List ℕ
solid_list = 0 ∷ encode Solid ++ encode (Color 0x2040_60ff) ++ (end_no ∷ [])

pub solid_done : ends_at solid_list [] 0 ≡ Fine
unfolding solid_list tile_trace trace_of op_of move_of whole_move
solid_done = refl

-- every pixel is 0xFF604020
pub solid_colour : (k : ℕ) → pack_of (colour_at solid_list [] 0 k) ≡ 0xff60_4020
unfolding solid_list colour_at tile_trace trace_of op_of move_of whole_move cover paint point_of colour_of channel_of over_of pack_of byte_of clamp_of round_of of_int of_bits add sub mul div lt le round to_unsigned
solid_colour k = refl

-- the same as fine.rs has it, with a word 0 after SOLID: that word is END, and nothing shows
unfoldable pub padded_list : List ℕ
padded_list = 0 ∷ encode Solid ++ (0 ∷ encode (Color 0x2040_60ff)) ++ (end_no ∷ [])

pub padded_done : ends_at padded_list [] 0 ≡ Fine
unfolding padded_list tile_trace trace_of op_of move_of whole_move
padded_done = refl

pub padded_clear : (k : ℕ) → pack_of (colour_at padded_list [] 0 k) ≡ 0
unfolding padded_list colour_at tile_trace trace_of op_of move_of whole_move cover paint point_of colour_of channel_of over_of pack_of byte_of clamp_of round_of of_int of_bits add sub mul div lt le round to_unsigned
padded_clear k = refl

-- a list that ends early is 13, an unknown command 14
pub short_list : ends_at (0 ∷ color_no ∷ []) [] 0 ≡ Against past_end
unfolding tile_trace trace_of op_of move_of whole_move
short_list = refl

pub unknown_list : ends_at (0 ∷ 5 ∷ []) [] 0 ≡ Against unknown
unfolding tile_trace trace_of op_of move_of whole_move
unknown_list = refl
