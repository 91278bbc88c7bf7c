-- What the writer's functions leave, as laws over lists: a number, and pixels.
-- Assumes nothing.
use mathlib.Core.Path.{◌≡◌, refl, sym, ap, ◌∙◌}
use mathlib.Core.List.{List, [], ◌∷◌, ◌++◌}
use Prim.Native.Nat.{ℕ, ◌+◌, ◌*◌, ◌/◌, ◌%◌, ◌≤◌, ◌<◌}
use native.Mathlib.Numerals.{add-one}
use native.Mathlib.Omega.{arith}
use lib.ListN.{length, length-append, set, get_or, drop, drop_of_length-le}
use lib.Seq.{sets, length-sets, drop-cons}
use Rattle.ppm_write.specs.Bytes.{ten, pixel_bytes, magic, newline, largest, fixed_bytes}
use Rattle.ppm_write.specs.File.{digit, digits_of, decimal, field_of, head_of, red_of, green_of, blue_of, raster_of}
use Rattle.ppm_write.specs.Write.{Put}
use Rattle.ppm_write.proofs.Decimal.{decimal_one, decimal_more, length_one, length_more}
use Rattle.ppm_write.proofs.Stores.{sets_append, sets_more}

pub put_one : (out : List ℕ) (at n : ℕ) → n < ten → Put out at (decimal n) (at + 1) (set out at (digit n))
put_one out at n h = record {
  place = omega (arith, length_one n h);
  bytes = rw (decimal_one n h);
}

pub put_more : (out mid : List ℕ) (at n last : ℕ) → ten ≤ n
    → Put out at (decimal (n / ten)) last mid
    → Put out at (decimal n) (last + 1) (set mid last (digit (n % ten)))
put_more out mid at n last h p = record {
  place = omega (arith, length_more n h, p.place);
  bytes =
      rw (p.bytes, p.place, decimal_more n h)
      (sym (sets_more (decimal (n / ten)) out at (digit (n % ten))));
}

-- a run of stores keeps the length
pub put_length : {out out' bs : List ℕ} {at next : ℕ} → Put out at bs next out' → length out' ≡ length out
put_length {out} {out'} {bs} {at} p = ap length p.bytes ∙ length-sets out at bs

pub raster_length : (ps : List ℕ) → length (raster_of ps) ≡ pixel_bytes * length ps
raster_length [] = refl
raster_length (p ∷ ps) = omega (arith, raster_length ps)

-- the bytes from pixel i on are those of pixel i, then those from the next on
pub raster_from : (ps : List ℕ) (i : ℕ) → i < length ps
    → raster_of (drop i ps) ≡ red_of (get_or ps i 0) ∷ green_of (get_or ps i 0) ∷ blue_of (get_or ps i 0) ∷ raster_of (drop (i + 1) ps)
raster_from ps i h = rw (add-one i, drop-cons ps i 0 h)

pub pixels_done : (ps out end : List ℕ) (to i : ℕ) → length ps ≤ i
    → sets out to (raster_of (drop i ps)) ≡ end
    → out ≡ end
pixels_done ps out end to i h e = sym (ap (λ (l : List ℕ). sets out to (raster_of l)) (drop_of_length-le ps h)) ∙ e

-- stores after stores
pub put_then : {out mid end xs ys : List ℕ} {at next last : ℕ}
    → Put out at xs next mid → Put mid next ys last end → Put out at (xs ++ ys) last end
put_then {out} {mid} {end} {xs} {ys} {at} p q = record {
  place = omega (arith, p.place, q.place, length-append xs ys);
  bytes = q.bytes ∙ rw (p.bytes, p.place) (sym (sets_append xs ys out at));
}

-- one store
pub put_byte : (out : List ℕ) (at b : ℕ) → Put out at (b ∷ []) (at + 1) (set out at b)
put_byte out at b = record { place = refl; bytes = refl }

-- "P6" and a newline
pub put_magic : (out : List ℕ) → Put out 0 (magic ++ (newline ∷ [])) 3 (set (set (set out 0 80) 1 54) 2 10)
put_magic out = record { place = refl; bytes = refl }

pub field_length : (n after : ℕ) → length (field_of n after) ≡ length (decimal n) + 1
field_length n after = length-append (decimal n) (after ∷ [])

pub largest_length : length (decimal largest) ≡ 3
unfolding decimal digits_of
largest_length = refl

-- the header's length: its fixed bytes, and the digits of its size
pub head_length : (w h : ℕ) → length (head_of w h) ≡ fixed_bytes + length (decimal w) + length (decimal h)
unfolding head_of
head_length w h =
    simp length-append (omega (arith, largest_length))
