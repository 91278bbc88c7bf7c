use Prim.Native.Nat.{◌+◌, ◌*◌}
use mathlib.Core.Path.{◌≡◌}
use lib.ListN.{drop}
use lib.Seq.{sets}
use Rattle.ppm_write.specs.Bytes.{pixel_bytes}
use Rattle.ppm_write.specs.File.{raster_of}
use Rattle.ppm_write.proofs.put_pixels.Given as goal

abbrev pub invariant-loop-i : goal.invariant-loop-i
invariant-loop-i l = sets l.out (l.at + pixel_bytes * l.i) (raster_of (drop l.i l.pixels)) ≡ sets l.initial.out l.at (raster_of l.pixels)
