-- `ppm_write::put_pixels` meets its contract. The loop's invariant: what the pixels left would store
-- from here is what all of them store from `at`. Assumes nothing.
use native.Mathlib.Omega.{arith}
use lib.ListN.{length-set}
use Rattle.ppm_write.proofs.Puts.{raster_length, pixels_done}
use Rattle.ppm_write.proofs.put_pixels.Goals as goal

pub bounds-out-to : goal.bounds-out-to
bounds-out-to c = omega (arith, raster_length c.args.pixels.now)

pub bounds-out-to-in-loop-i : goal.bounds-out-to-in-loop-i
bounds-out-to-in-loop-i c = simp length-set (omega (arith, raster_length c.args.pixels.now))

pub bounds-out-to-in-loop-i-2 : goal.bounds-out-to-in-loop-i-2
bounds-out-to-in-loop-i-2 c = simp length-set (omega (arith, raster_length c.args.pixels.now))

pub returns : goal.returns
returns c =
    let l = c.loop-i in
    let a = c.args in
    record {
      place = omega (arith, raster_length a.pixels.now);
      bytes = pixels_done a.pixels.now _ _ _ _ c.loop-i-test.false l.invariant;
    }
