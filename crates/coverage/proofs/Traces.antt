-- Worked cases of docs/RULES.md, computed. Assumes nothing.
use mathlib.Core.Path.{◌≡◌, refl}
use mathlib.Core.Bool.{true, false}
use mathlib.Core.List.{[]}
use Prim.Native.Nat.{ℕ}
use lib.IntN.{pos, negsuc}
use lib.Ieee.{Float, binary32, of_bits, of_int, add, sub, mul, lt, round}
use Rattle.float32.specs.Meaning.{abs_of, round_of}
use Rattle.float32.proofs.MinMax.{min_second, min_same}
use Rattle.util.specs.Constants as Number
use Rattle.coverage.specs.Coverage.{area_after, finish_of, sum_of, pixel_of}

-- a backdrop of 2 and no segments: even-odd 0, non-zero 1, at every pixel and wherever the tile lies
pub two_even_odd : (k : ℕ) (xt yt : Float) → pixel_of [] 0 0 true (pos 2) xt yt k ≡ Number.zero
unfolding pixel_of sum_of finish_of area_after abs_of round_of of_int of_bits sub add mul round
two_even_odd k xt yt = refl

pub two_nonzero : (k : ℕ) (xt yt : Float) → pixel_of [] 0 0 false (pos 2) xt yt k ≡ Number.one
unfolding pixel_of sum_of finish_of area_after abs_of of_int of_bits lt round
two_nonzero k xt yt = min_second _ _ refl

-- a backdrop of -1: 1 in each
pub minus_even_odd : (k : ℕ) (xt yt : Float) → pixel_of [] 0 0 true (negsuc 0) xt yt k ≡ Number.one
unfolding pixel_of sum_of finish_of area_after abs_of round_of of_int of_bits sub add mul round
minus_even_odd k xt yt = refl

pub minus_nonzero : (k : ℕ) (xt yt : Float) → pixel_of [] 0 0 false (negsuc 0) xt yt k ≡ Number.one
unfolding pixel_of sum_of finish_of area_after abs_of of_int of_bits round
minus_nonzero k xt yt = min_same _

pub round_half : round_of (of_bits binary32 0x4020_0000) ≡ of_bits binary32 0x4040_0000
unfolding of_bits round_of round
round_half = refl
