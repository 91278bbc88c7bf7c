-- The float constants that the stages use, by their bits: each stands here once. Definitions only.
use Rattle.std.specs.Prelude.{Float}
use Rattle.std.specs.Float.{binary32}
use Rattle.std.specs.Float.Ieee.{of_bits, neg}

abbrev pub zero : Float
zero = of_bits binary32 0x0000_0000

abbrev pub half : Float
half = of_bits binary32 0x3f00_0000

abbrev pub one : Float
one = of_bits binary32 0x3f80_0000

abbrev pub minus_one : Float
minus_one = neg one

abbrev pub two : Float
two = of_bits binary32 0x4000_0000

-- 16, a tile's side in pixels, and 1 / 16
abbrev pub tile_side : Float
tile_side = of_bits binary32 0x4180_0000

abbrev pub tile_scale : Float
tile_scale = of_bits binary32 0x3d80_0000

-- ONE_MINUS_ULP, 0.99999994: the largest below 1
abbrev pub one_minus_ulp : Float
one_minus_ulp = of_bits binary32 0x3f7f_ffff

-- ROBUST_EPSILON, 2e-7
abbrev pub robust_epsilon : Float
robust_epsilon = of_bits binary32 0x3456_bf95

-- path_tiling.rs and fine.rs: 1e-3, 1e-6 and 1e9
abbrev pub nudge : Float
nudge = of_bits binary32 0x3a83_126f

abbrev pub epsilon : Float
epsilon = of_bits binary32 0x3586_37bd

abbrev pub no_edge : Float
no_edge = of_bits binary32 0x4e6e_6b28

-- 255
abbrev pub byte_most : Float
byte_most = of_bits binary32 0x437f_0000
